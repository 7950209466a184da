use Rattle.std.proofs.Common.{List, ℕ, subst}
use Rattle.q_channel.specs.declared.frame.QFrame.TheVariants.{Isrc}
use Rattle.block_survey.specs.Plain.{IsWhereValid}
use Rattle.block_survey.proofs.to_frame.code.Goals as goal

pub returns : goal.returns
returns c =
    subst (λ (text : List ℕ).
    IsWhereValid c.recorded.result (Isrc c.args.plain.now.control text c.args.plain.now.frame))
    c.first_twelve.ensures c.recorded.ensures
