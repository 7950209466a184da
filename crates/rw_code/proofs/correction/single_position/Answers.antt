use Rattle.std.proofs.Common.{ℕ, Some, ap, refl, arith}
use Rattle.rw_code.proofs.Locating.{single_place, first_not_zero}
use Rattle.rw_code.proofs.correction.single_position.Goals as goal
use Rattle.rw_code.proofs.correction.single_position.Goals.{then-is_zero-via-then-is_zero, then-is_zero-via-else-is_zero+then-is_zero-2}

pub returns-then-is_zero-clause-only : goal.returns-then-is_zero-clause-only
returns-then-is_zero-clause-only c = λ i is first.
    elim c.then-is_zero.branch [
      | then-is_zero-via-then-is_zero w ↦ absurd (is.wrong (w.if-is_zero.ensures.0 refl))
      | then-is_zero-via-else-is_zero+then-is_zero-2 w ↦
          absurd (first_not_zero i _ _ is first (w.if-is_zero-2.ensures.0 refl))
    ]

pub returns-then-exponent-ge-SYMBOLS-clause-only : goal.returns-then-exponent-ge-SYMBOLS-clause-only
returns-then-exponent-ge-SYMBOLS-clause-only c = λ i is first.
    let at =
    single_place i _ _ _ _ is first c.logarithm-2.ensures.bound c.logarithm.ensures.bound
    c.logarithm-2.ensures.exponent c.logarithm.ensures.exponent in
    absurd (omega (arith, at))

pub returns-clause-only : goal.returns-clause-only
returns-clause-only c = λ i is first.
    let at =
    single_place i _ _ _ _ is first c.logarithm-2.ensures.bound c.logarithm.ensures.bound
    c.logarithm-2.ensures.exponent c.logarithm.ensures.exponent in
    ap (λ (n : ℕ). Some n) (omega (arith, at, is.place))
