use Rattle.std.proofs.Common.{◌∙◌}
use Rattle.stream_trial.proofs.Trials.{trial_played}
use Rattle.stream_trial.proofs.streams.play_stream.Goals as goal

pub returns-clause-played : goal.returns-clause-played
returns-clause-played c =
    let begun = c.in_ok-run.ensures in
    let wrote = c.in_ok-write_stream.ensures in
    let run = c.write_stream.new.run in
    let (packs, written) = wrote.stream in
    trial_played c.trial_sheet_is_read.ensures.blocks c.scratches_are_damage.ensures
    c.scratches_are_bursts.ensures.channels
    c.args.script.now c.args.seed c.args.pictures run.seed run.pictures run.history.bytes packs c.found.result
    c.requires.script
    (wrote.of.0 ∙ begun.of.0) (wrote.of.1 ∙ begun.of.1) written c.found.ensures
