use Rattle.block_survey.proofs.Sums.{add_up}
use Rattle.block_survey.proofs.surveying.rows_add_up_to_check.Goals as goal

pub returns : goal.returns
returns c = λ form lead_in bytes text bad listed. add_up form lead_in bytes text bad listed
