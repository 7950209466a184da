use Rattle.cdg_screen.proofs.Untouched.{keeps}
use Rattle.cdg_screen.proofs.touching.untouched_stays.Goals as goal

pub returns : goal.returns
returns c = keeps
