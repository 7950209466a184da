use Rattle.std.proofs.Common.{◌+◌, ◌*◌}
use Rattle.stream_trial.specs.TrialSheet.{trial_sheet}
use Rattle.stream_trial.proofs.Sheets.{is_read, need_is, blocks_are, has_layout, room_enough, no_lead_in}
use Rattle.stream_trial.proofs.schedules.trial_sheet_is_read.Goals as goal

pub returns-clause-read : goal.returns-clause-read
returns-clause-read c = is_read

pub returns-clause-need : goal.returns-clause-need
returns-clause-need c = need_is

pub returns-clause-blocks : goal.returns-clause-blocks
returns-clause-blocks c = blocks_are

pub returns-clause-accepted : goal.returns-clause-accepted
returns-clause-accepted c seed count few =
    c.generated_scripts_are_authored.ensures.accepted trial_sheet seed count 0 (800 * count + 20)
    (has_layout count few) (room_enough count) no_lead_in

pub returns-clause-stop : goal.returns-clause-stop
returns-clause-stop c seed count stop few is =
    c.generated_scripts_are_authored.ensures.stop trial_sheet seed count 0 (800 * count + 20) stop
    (has_layout count few) (room_enough count) no_lead_in is
