use Rattle.ribjasper_web.proofs.changing.ribjasper_web_changes.Goals as goal

pub returns : goal.returns
returns c = rw (← c.read_pack.ensures.instruction) c.changes.ensures
