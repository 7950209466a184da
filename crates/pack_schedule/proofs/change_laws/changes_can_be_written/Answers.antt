use Rattle.pack_schedule.proofs.Known.{change_sound}
use Rattle.pack_schedule.proofs.change_laws.changes_can_be_written.Goals as goal

pub returns : goal.returns
returns c script k start instrs ranges change = change_sound script ranges k start instrs change
