use Rattle.std.proofs.Common.{◌∷◌, [], ◌∙◌}
use Rattle.stream_stages.specs.Steps.{slots_of}
use Rattle.stream_stages.proofs.block_words.slots.Goals as goal

pub returns : goal.returns
unfolding slots_of
returns c =
    c.from.ensures.0
    ∙ (λ i. c.slot.ensures i ∷ c.slot-2.ensures i ∷ c.slot-3.ensures i ∷ c.slot-4.ensures i ∷ [])
