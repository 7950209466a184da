use Rattle.cdg_instructions.proofs.Meaning.{meaning_means, only_meaning}
use Rattle.cdg_instructions.proofs.reading.each_pack_has_a_meaning.Goals as goal

pub returns-clause-is : goal.returns-clause-is
returns-clause-is c = meaning_means

pub returns-clause-only : goal.returns-clause-only
returns-clause-only c = only_meaning
