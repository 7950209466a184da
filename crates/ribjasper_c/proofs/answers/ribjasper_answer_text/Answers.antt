use Rattle.std.proofs.Common.{◌∙◌, ◌++◌, ℕ, ℤ, List, ap, drop, length}
use Rattle.std.specs.Prelude.{replicate}
use Rattle.std.proofs.Math.Facts.{to_z-of_z}
use Rattle.std.proofs.lemmas.List.{drop-replicate}
use Rattle.ribjasper_c.specs.Reporting.{answer_text}
use Rattle.ribjasper_c.proofs.answers.ribjasper_answer_text.Goals as goal

pub returns : goal.returns
returns c =
    c.put.ensures
    ∙ ap (λ (l : List ℕ). l ++ drop (length l) (replicate 64 0)) c.meaning.ensures.text
    ∙ ap (λ (z : ℤ). answer_text z ++ drop (length (answer_text z)) (replicate 64 0))
    (to_z-of_z c.ranges.answer)
    ∙ ap (λ (l : List ℕ). answer_text c.args.answer ++ l)
    (drop-replicate (length (answer_text c.args.answer)) 64 0)
