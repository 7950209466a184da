use Rattle.rw_interleave.proofs.Recovery.{packs_text, none_bad}
use Rattle.rw_interleave.proofs.laws.found_packs_are_the_text.Goals as goal

pub returns-clause-text : goal.returns-clause-text
returns-clause-text c packs = packs_text packs

pub returns-clause-bad : goal.returns-clause-bad
returns-clause-bad c packs = none_bad packs
