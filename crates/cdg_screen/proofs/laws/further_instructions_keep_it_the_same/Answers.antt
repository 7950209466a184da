use Rattle.cdg_screen.proofs.Turns.{same_further}
use Rattle.cdg_screen.proofs.laws.further_instructions_keep_it_the_same.Goals as goal

pub returns : goal.returns
returns c = same_further
