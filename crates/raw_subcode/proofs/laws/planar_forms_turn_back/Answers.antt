use Rattle.raw_subcode.proofs.TurnedBack.{block_comes_back, form_comes_back}
use Rattle.raw_subcode.proofs.laws.planar_forms_turn_back.Goals as goal

pub returns-clause-block : goal.returns-clause-block
returns-clause-block c = block_comes_back

pub returns-clause-form : goal.returns-clause-form
returns-clause-form c = form_comes_back
