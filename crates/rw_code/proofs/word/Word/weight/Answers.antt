use Rattle.std.proofs.Common.{◌∙◌, ap}
use Rattle.std.specs.Prelude.{replicate}
use Rattle.rw_code.specs.Codeword.{differences}
use Rattle.rw_code.proofs.Weights.{lanes_fit, more_fit, all_fit, weight_by_eights}
use Rattle.rw_code.proofs.word.Word.weight.Goals as goal

pub overflow_add-result : goal.overflow_add-result
overflow_add-result c =
    lanes_fit _ _ _ _ (record {
      size = c.self.told;
      first = c.ones-low.ensures;
      second = c.ones-middle.ensures;
      third = c.ones-high.ensures;
    })

pub overflow_add-result-2 : goal.overflow_add-result-2
overflow_add-result-2 c =
    more_fit _ _ _ _ (record {
      size = c.self.told;
      first = c.ones-low.ensures;
      second = c.ones-middle.ensures;
      third = c.ones-high.ensures;
    })

pub overflow_add-result-3 : goal.overflow_add-result-3
overflow_add-result-3 c =
    all_fit _ _ _ _ (record {
      size = c.self.told;
      first = c.ones-low.ensures;
      second = c.ones-middle.ensures;
      third = c.ones-high.ensures;
    })

pub returns-clause-count : goal.returns-clause-count
returns-clause-count c =
    weight_by_eights _ _ _ _ (record {
      size = c.self.told;
      first = c.ones-low.ensures;
      second = c.ones-middle.ensures;
      third = c.ones-high.ensures;
    })
    ∙ ap (λ l. differences l (replicate 24 0)) c.self.view_is
