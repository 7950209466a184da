use Rattle.std.proofs.Common.{ℕ, List, get_or, ap, ◌∙◌}
use Rattle.stream_stages.specs.CheckSteps.{kind_counted}
use Rattle.stream_stages.specs.declared.counting.WordCounts.{WordCounts}
use Rattle.stream_stages.proofs.Counted.{fixed_counted}
use Rattle.stream_stages.proofs.counting.WordCounts.count_fixed.Goals as goal

pub returns : goal.returns
returns c =
    c.count_kind.ensures
    ∙ ap (λ (s : WordCounts). kind_counted s c.value.result c.value-2.result) c.count_wrong.ensures
    ∙ fixed_counted c.args.self.now c.args.word.now c.args.fixed.now.pack c.args.fixed.now.wrong
    c.value.result c.value-2.result c.requires
    (c.value.ensures.value ∙ c.get.ensures ∙ ap (λ (w : List ℕ). get_or w 0 0) c.word-symbols.ensures.same)
    (c.value-2.ensures.value
    ∙ c.get-2.ensures
    ∙ ap (λ (w : List ℕ). get_or w 1 0) c.word-symbols.ensures.same)
