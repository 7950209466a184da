use Rattle.rw_mend.proofs.Whole.{free_text}
use Rattle.rw_mend.proofs.laws.an_error_free_reading_comes_out.Goals as goal

pub returns : goal.returns
returns c words r programs said found = free_text words programs r said found
