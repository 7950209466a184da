use Rattle.cdg_screen.proofs.Obeyed.{all_zero}
use Rattle.cdg_screen.proofs.plain.PlainScreen.reset.Goals as goal

pub returns : goal.returns
returns c = all_zero c.clear.new.self c.clear.ensures
