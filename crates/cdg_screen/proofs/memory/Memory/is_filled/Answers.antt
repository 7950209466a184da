use Rattle.std.proofs.Common.{◌≡◌, ◌∙◌, [], get_or, refl, sym, ap, arith}
use Rattle.cdg_screen.proofs.Filled.{filled_by_rows, row_of_filled}
use Rattle.cdg_screen.proofs.memory.Memory.is_filled.Goals as goal

pub returns-then-not-is_row_filled : goal.returns-then-not-is_row_filled
returns-then-not-is_row_filled c =
    let g = c.self.invariant in
    let row : get_or c.self.inside.rows c.loop-y.y [] ≡ get_or c.self.inside.rows c.loop-y.y [] = refl in (
      (λ never. cc),
      rw (← c.self.view_is) (λ filled.
          let kept =
          c.is_row_filled.ensures.1 (λ k lt. ap (λ xs. get_or xs k 0) row
          ∙ row_of_filled c.self.inside.rows _ _ _ g.left_below g.top_below filled c.loop-y.y
          c.loop-y-test.true k lt) in
          sym c.if-not-is_row_filled.true ∙ kept),
    )

pub returns : goal.returns
returns c = (
  (λ held. rw (← c.self.view_is) (filled_by_rows c.self.inside.rows _ _ _
      (λ r lt k k_lt. c.loop-y.invariant r (omega arith) k k_lt))),
  λ filled. refl,
)
