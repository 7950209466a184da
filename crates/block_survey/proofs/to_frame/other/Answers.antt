use Rattle.std.proofs.Common.{List, ℕ, subst}
use Rattle.q_channel.specs.declared.frame.QFrame.TheVariants.{Other}
use Rattle.block_survey.specs.Plain.{IsWhereValid}
use Rattle.block_survey.proofs.to_frame.other.Goals as goal

pub returns : goal.returns
returns c =
    subst (λ (text : List ℕ).
    IsWhereValid c.bare.result (Other c.args.plain.now.control c.args.plain.now.mode text))
    c.first_nine.ensures c.bare.ensures
