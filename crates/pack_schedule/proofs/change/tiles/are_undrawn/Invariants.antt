use Rattle.std.proofs.Common.{◌≡◌, ℕ, ◌<◌, false}
use Rattle.std.specs.Prelude.{slice_index_or}
use Rattle.pack_schedule.proofs.change.tiles.are_undrawn.Given as goal

abbrev pub invariant-loop-r : goal.invariant-loop-r
invariant-loop-r l = (m : ℕ) → m < l.r → slice_index_or l.drawn m false ≡ false
