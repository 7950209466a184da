use Rattle.std.proofs.Common.{◌∙◌, ap}
use Rattle.rw_mend.specs.declared.candidates.Candidate.TheVariants.{Near}
use Rattle.rw_mend.proofs.Decoding.{partly_idle, silent_is, whole_idle}
use Rattle.rw_mend.proofs.candidates.decode_blank.Goals as goal

pub returns-in-Unread : goal.returns-in-Unread
returns-in-Unread c reading coverage word = silent_is reading (coverage ∙ c.in-Unread.is)

pub returns-in-Partly : goal.returns-in-Partly
returns-in-Partly c reading coverage word =
    ap (λ p. Near p 3) c.idle.ensures ∙ partly_idle reading (coverage ∙ c.in-Partly.is) word

pub returns-in-Whole : goal.returns-in-Whole
returns-in-Whole c reading coverage word =
    ap (λ p. Near p 0) c.idle-in-Whole.ensures ∙ whole_idle reading (coverage ∙ c.in-Whole.is) word
