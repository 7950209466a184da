use Rattle.rw_mend.proofs.Alone.{all_enough, enough_text}
use Rattle.rw_mend.proofs.laws.packs_come_back.Goals as goal

pub returns-clause-enough : goal.returns-clause-enough
returns-clause-enough c words programs packs said found = enough_text words programs packs said found

pub returns-clause-damage : goal.returns-clause-damage
returns-clause-damage c words programs packs = all_enough words programs packs
