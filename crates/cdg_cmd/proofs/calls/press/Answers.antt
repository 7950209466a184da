use Rattle.std.proofs.Common.{◌≡◌, ◌≢◌, IfErr, Result, subst, sym, rules}
use Rattle.cdg_press.specs.declared.stops.PressStop.{PressStop}
use Rattle.cdg_press.specs.declared.stops.PressStop.TheVariants.{WriteFault}
use Rattle.cdg_cmd.specs.Stopped.{KeepsOutput, unwrapped}
use Rattle.cdg_cmd.proofs.calls.press.Goals as goal

pub returns-clause-untouched : goal.returns-clause-untouched
returns-clause-untouched g c =
    let kept : KeepsOutput c.args.out.now c.asked_with.new.second (unwrapped c.asked_with.result) =
    search rules in
    subst (λ (answer : Result (Unit {0}) PressStop).
    IfErr answer (λ stop. stop ≢ WriteFault → c.asked_with.new.second ≡ c.args.out.now))
    (sym c.plain.ensures) kept.same
