use Rattle.std.proofs.Common.{◌≡◌, ◌<◌, ◌+◌, ◌-◌, ◌*◌, ℕ}
use Rattle.std.specs.Prelude.{IsTrue, slice_index}
use Rattle.tile_author.proofs.basis.is_line_before.Given as goal

abbrev pub invariant-loop-i : goal.invariant-loop-i
invariant-loop-i l = IsTrue l.same → (k : ℕ) → k < l.i
    → slice_index l.pixels (6 * l.line + k) ≡ slice_index l.pixels (6 * (l.line - 1) + k)
