use Rattle.std.specs.Prelude.{◌≡◌, ◌<◌, ◌↔◌, ℕ, IsTrue, slice_index}
use Rattle.cdg_screen.proofs.staying.is_row_filled.Given as goal

abbrev pub invariant-loop-pixel : goal.invariant-loop-pixel
invariant-loop-pixel l = IsTrue l.filled ↔ ((k : ℕ) → k < l.pixel-index → slice_index l.row k ≡ l.colour)
