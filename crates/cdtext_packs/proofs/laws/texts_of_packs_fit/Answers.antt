use Rattle.cdtext_packs.proofs.LineSizes.{lines_fit}
use Rattle.cdtext_packs.proofs.laws.texts_of_packs_fit.Goals as goal

pub returns : goal.returns
returns c = lines_fit
