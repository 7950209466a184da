use Rattle.std.specs.Prelude.{take}
use Rattle.picture_script.specs.Script.{drawn_by}
use Rattle.picture_script.specs.Board.{IsSet, IsDrawn}
use Rattle.picture_script.proofs.canvas.Canvas.draw_until.Given as goal

abbrev pub invariant-loop-i : goal.invariant-loop-i
invariant-loop-i l = IsSet (drawn_by (take l.i l.script)) l.self

abbrev pub invariant-loop-i-2 : goal.invariant-loop-i-2
invariant-loop-i-2 l = IsDrawn (drawn_by (take l.i l.script)) l.self
