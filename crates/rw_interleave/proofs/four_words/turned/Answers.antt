use Rattle.std.proofs.Common.{◌++◌, ◌∙◌, List, ℕ, ap₂}
use Rattle.rw_interleave.proofs.FourWords.{by_ones, by_twos, sloping_by}
use Rattle.rw_interleave.proofs.four_words.turned.Goals as goal

pub returns-clause-lanes : goal.returns-clause-lanes
returns-clause-lanes c =
    let row = c.args.early.now ++ (c.args.late.now ++ c.args.block.now) in
    c.by_twos.ensures.lanes
    ∙ ap₂ by_twos
    (c.by_ones.ensures.lanes ∙ ap₂ by_ones c.fours-zeroth.ensures.lanes c.fours-first.ensures.lanes)
    (c.by_ones-2.ensures.lanes ∙ ap₂ by_ones c.fours-second.ensures.lanes c.fours-third.ensures.lanes)
    ∙ ap₂ (λ (x y : List ℕ). x ++ y) (sloping_by row c.args.a)
    (ap₂ (λ (x y : List ℕ). x ++ y) (sloping_by row c.args.b)
    (ap₂ (λ (x y : List ℕ). x ++ y) (sloping_by row c.args.c) (sloping_by row c.args.d)))
