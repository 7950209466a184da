use Rattle.std.proofs.Common.{◌≡◌, ℕ, ◌<◌, true, false}
use Rattle.std.specs.Prelude.{slice_index_or}
use Rattle.pack_schedule.proofs.change.tiles.are_all.Given as goal

abbrev pub invariant-loop-i : goal.invariant-loop-i
invariant-loop-i l = l.all ≡ true → (m : ℕ) → m < l.i → slice_index_or l.columns m false ≡ true
