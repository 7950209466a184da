use Rattle.std.proofs.Common.{◌++◌, ◌∙◌, List, ℕ, ap₂, arith, length-append}
use Rattle.std.proofs.lemmas.Simd.{pick_l_whole}
use Rattle.rw_interleave.proofs.four_words.fours.Goals as goal

pub returns-clause-lanes : goal.returns-clause-lanes
returns-clause-lanes c =
    let low = c.eight-low.result in
    let high = c.eight-high.result in
    pick_l_whole 0 (low ++ high) 16
    (omega (arith, c.eight-low.ensures.size, c.eight-high.ensures.size, length-append low high))
    ∙ ap₂ (λ (x y : List ℕ). x ++ y)
    (c.eight-low.ensures.lanes ∙ ap₂ (λ (x y : List ℕ). x ++ y) c.four.ensures.lanes c.four-2.ensures.lanes)
    (c.eight-high.ensures.lanes ∙ ap₂ (λ (x y : List ℕ). x ++ y) c.four-3.ensures.lanes
    c.four-4.ensures.lanes)
