use Rattle.rw_mend.proofs.Converted.{given_converted}
use Rattle.rw_mend.proofs.laws.a_reading_gives_its_conversion.Goals as goal

pub returns : goal.returns
returns c lead_in r programs bytes found = given_converted lead_in r programs bytes found
