use Rattle.std.proofs.Common.{◌≡◌, ℕ, ◌+◌, ◌<◌, true, false}
use Rattle.std.specs.Prelude.{◌↔◌, slice_index_or}
use Rattle.picture_script.proofs.canvas.are_six_equal.Given as goal

abbrev pub invariant-loop-i : goal.invariant-loop-i
invariant-loop-i l = l.all ≡ true
    ↔ ((m : ℕ) → m < l.i → slice_index_or l.equal (l.first + m) false ≡ true)
