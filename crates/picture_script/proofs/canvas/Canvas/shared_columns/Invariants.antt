use Rattle.std.proofs.Common.{◌≡◌, ℕ, ◌+◌, ◌<◌, true, false, length}
use Rattle.std.specs.Prelude.{◌↔◌, slice_index_or}
use Rattle.picture_script.specs.Board.{tile_of}
use Rattle.picture_script.proofs.canvas.Canvas.shared_columns.Given as goal

abbrev pub invariant-loop-i : goal.invariant-loop-i
invariant-loop-i l = (length l.shared ≡ 48)
    × ((m : ℕ) → m < l.i → slice_index_or l.shared m false ≡ true
    ↔ tile_of l.self.pixels l.row (m + 1) ≡ tile_of l.other.pixels l.row (m + 1))
