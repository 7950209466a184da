use Rattle.std.proofs.Common.{refl}
use Rattle.rw_mend.proofs.Reporting.{no_tallies}
use Rattle.rw_mend.proofs.tallies.Tallies.new.Goals as goal

pub returns : goal.returns
returns c = no_tallies _ refl refl refl refl
