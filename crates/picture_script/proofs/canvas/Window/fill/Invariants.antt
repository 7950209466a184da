use Rattle.std.specs.Prelude.{◌&&◌, if◌then◌else◌}
use Rattle.picture_script.specs.Script.{is_within}
use Rattle.picture_script.specs.Board.{pixel_of, ArePixelsOf}
use Rattle.picture_script.proofs.canvas.Window.fill.Given as goal

abbrev pub invariant-loop-j : goal.invariant-loop-j
invariant-loop-j l =
    ArePixelsOf l.self
    (λ x' y'. if is_within l.x l.width x' && is_within l.y l.j y' then l.colour else pixel_of l.fn.self x' y')
