use Rattle.std.proofs.Common.{refl, subst, ◌∙◌, arith}
use Rattle.pack_schedule.specs.Survey.{IsWithin}
use Rattle.stream_trial.proofs.Trials.{is_trial}
use Rattle.stream_trial.proofs.trying.make_report.Goals as goal

pub play_stream-requires-clause-few : goal.play_stream-requires-clause-few
play_stream-requires-clause-few c = c.requires.1

pub play_stream-requires-clause-script : goal.play_stream-requires-clause-script
play_stream-requires-clause-script c = c.in_ok-script.ensures.script

pub play_stream-requires-clause-planned : goal.play_stream-requires-clause-planned
play_stream-requires-clause-planned c = c.in_ok-planned.ensures.planned

pub play_stream-requires-clause-within : goal.play_stream-requires-clause-within
play_stream-requires-clause-within c =
    subst (IsWithin c.in_ok-script.script) c.count_blocks-blocks.ensures c.in_ok-planned.ensures.within

pub count_changes-changes-requires : goal.count_changes-changes-requires
count_changes-changes-requires c = c.in_ok-planned.ensures.planned

pub returns-clause-report : goal.returns-clause-report
returns-clause-report c =
    let (bytes, packs, authored, played) = c.in_ok-found.ensures.played in
    is_trial c.trial_sheet_is_read.ensures.read c.generated_scripts_are_read.ensures
    c.generated_scripts_have_times.ensures.pictures
    c.args.seed c.args.pictures c.in_ok-script.script bytes packs c.in_ok-found.found _
    c.requires.1 c.in_ok-script.ensures.script authored played
    refl c.from.ensures (c.from-2.ensures
    ∙ c.count_blocks-blocks.ensures) (omega (arith, c.from-3.ensures, c.count_blocks-blocks.ensures))
    c.count_changes-changes.ensures c.from-4.ensures c.from-5.ensures c.from-6.ensures c.from-7.ensures
