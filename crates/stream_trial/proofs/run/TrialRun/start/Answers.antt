use Rattle.std.proofs.Common.{rules}
use Rattle.stream_trial.proofs.Courses.{knows_start}
use Rattle.stream_trial.proofs.run.TrialRun.start.Goals as goal

pub invariant_of-result-clause-known : goal.invariant_of-result-clause-known
invariant_of-result-clause-known c =
    let script = c.args.script.now in
    let start = c.in_ok-start.ensures in
    ∣ knows_start script c.args.seed c.args.pictures c.in_ok-start.field-0 _ _ c.requires
    (start.steady script) start.blocks
    c.nothing.ensures (search rules) (start.gone_over script) ∣₁
