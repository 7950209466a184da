use Rattle.std.proofs.Common.{◌≡◌, ℕ, ◌+◌, ◌*◌, ◌<◌, ◌/◌, ◌%◌, length, get_or}
use Rattle.picture_script.specs.Board.{pixel_of}
use Rattle.picture_script.proofs.canvas.Canvas.tile.Given as goal

abbrev pub invariant-loop-j : goal.invariant-loop-j
invariant-loop-j l = (length l.pixels ≡ 72)
    × ((q : ℕ) → get_or l.pixels q 0 < 16)
    × ((q : ℕ) → q < 6 * l.j → get_or l.pixels q 0 ≡ pixel_of l.self.pixels (l.left + q % 6) (l.top + q / 6))
