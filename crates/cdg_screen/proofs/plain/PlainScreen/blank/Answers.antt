use Rattle.cdg_screen.proofs.Obeyed.{all_zero}
use Rattle.cdg_screen.proofs.plain.PlainScreen.blank.Goals as goal

pub returns : goal.returns
returns c = all_zero c.blank.result c.blank.ensures
