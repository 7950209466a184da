use Rattle.std.proofs.Common.{◌≡◌, ℕ, ◌+◌, ◌*◌, ◌<◌, length}
use Rattle.std.specs.Prelude.{slice_index}
use Rattle.picture_script.proofs.canvas.Window.read_line.Given as goal

abbrev pub invariant-loop-i : goal.invariant-loop-i
invariant-loop-i l = (length l.line ≡ 6)
    × ((k : ℕ) → k < l.i → slice_index l.line k ≡ slice_index l.self (288 * l.y + l.x + k))
