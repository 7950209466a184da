use Rattle.std.proofs.Math.Logic.{∥∥₁_elim}
use Rattle.stream_trial.proofs.Courses.{knows_found}
use Rattle.stream_trial.proofs.Steady.{IsPlayedOut-prop}
use Rattle.stream_trial.proofs.run.TrialRun.found.Goals as goal

pub returns : goal.returns
returns c = λ symbols packs damaged.
    let run = c.args.self.now in
    let times = c.times_rise_and_colours_are_in_range.ensures in
    ∥∥₁_elim run.known (IsPlayedOut-prop _ _ symbols _ _) (λ known.
    knows_found c.scratches_are_bursts.ensures.channels run.script.now
    (record { held = times.held; later = times.later })
    run.seed run.pictures run.course run.block run.history.bytes run.filled run.begun known symbols packs
    damaged)
