use Rattle.cdtext_packs.proofs.Back.{comes_back}
use Rattle.cdtext_packs.proofs.laws.texts_come_back.Goals as goal

pub returns : goal.returns
returns c = λ texts offered tracks some plain few are. comes_back texts tracks some plain offered few are
