use Rattle.std.proofs.Common.{◌∙◌, ap, subst}
use Rattle.rw_code.specs.Codeword.{IsCodeword}
use Rattle.block_survey.proofs.Counts.{four_clean}
use Rattle.block_survey.specs.declared.counting.WordMarks.{WordMarks}
use Rattle.block_survey.proofs.counting.WordMarks.four_idle.Goals as goal

pub returns : goal.returns
returns c =
    ap (λ (s : WordMarks). record s { clean = 4 }) c.none.ensures
    ∙ four_clean (subst IsCodeword (c.word.ensures.same ∙ c.idle.ensures) c.word.ensures.codeword)
