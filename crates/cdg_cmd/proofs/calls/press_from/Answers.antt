use Rattle.std.proofs.Common.{Result, subst, sym}
use Rattle.cdg_io.specs.Change.{change}
use Rattle.cdg_press.specs.Pressed.{press_of}
use Rattle.cdg_press.specs.declared.stops.PressStop.{PressStop}
use Rattle.cdg_cmd.specs.Presses.{IsPressedFor}
use Rattle.cdg_cmd.proofs.PressReported.{pressed_for}
use Rattle.cdg_cmd.proofs.calls.press_from.Goals as goal

pub returns-clause-put : goal.returns-clause-put
returns-clause-put g c =
    let pressed = c.press_stream.ensures in
    subst (λ (answer : Result (Unit {0}) PressStop).
    IsPressedFor (press_of c.args.sheet.now c.args.file.now c.args.lead_in c.args.length)
    (change g.K.Sink.held c.args.out.now c.press_stream.new.out) answer) (sym c.wrap.ensures)
    (pressed_for g.K.Sink.held c.args.out.now c.press_stream.new.out c.args.sheet.now c.args.file.now
    c.args.lead_in c.args.length c.press_stream.result
    pressed.written.pressed pressed.accepted pressed.stop pressed.written.untouched pressed.written.prefix)
