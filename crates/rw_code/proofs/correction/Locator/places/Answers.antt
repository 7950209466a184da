use Rattle.std.proofs.Common.{ℕ, Some, ap, ap₂, refl, arith}
use Rattle.std.specs.declared.option.Option.{Option}
use Rattle.rw_code.specs.declared.correction.Places.{Places}
use Rattle.rw_code.specs.declared.correction.Pair.{Pair}
use Rattle.rw_code.proofs.Locating.{coefficients_not_zero, places_of}
use Rattle.rw_code.proofs.correction.Locator.places.Goals as goal
use Rattle.rw_code.proofs.correction.Locator.places.Goals.{then-is_zero-via-then-is_zero, then-is_zero-via-else-is_zero+then-is_zero-2, then-is_zero-via-else-is_zero+else-is_zero-2+then-is_zero-3, then-pair-eq0-via-then-pair-eq0, then-pair-eq0-via-else-pair-eq0+then-high-ge-SYMBOLS}

abbrev some_places : ℕ → ℕ → Option Places
some_places i j = Some (record { first = i; second = j })

abbrev difference_of : Pair → ℕ
difference_of pair = pair.difference

abbrev sum_of : Pair → ℕ
sum_of pair = pair.sum

pub returns-then-is_zero-clause-only : goal.returns-then-is_zero-clause-only
returns-then-is_zero-clause-only c = λ i j apart lt is.
    let others = coefficients_not_zero c.args.self i j apart lt is in
    elim c.then-is_zero.branch [
      | then-is_zero-via-then-is_zero w ↦ absurd (is.square (w.if-is_zero.ensures.0 refl))
      | then-is_zero-via-else-is_zero+then-is_zero-2 w ↦ absurd (others.0 (w.if-is_zero-2.ensures.0 refl))
      | then-is_zero-via-else-is_zero+else-is_zero-2+then-is_zero-3 w ↦
          absurd (others.1 (w.if-is_zero-3.ensures.0 refl))
    ]

pub overflow_add-high : goal.overflow_add-high
overflow_add-high c = omega (arith, c.pair_at-pair.ensures.bound.0)

pub returns-then-pair-eq0-clause-only : goal.returns-then-pair-eq0-clause-only
returns-then-pair-eq0-clause-only c = λ i j apart lt is.
    let pair = c.pair_at-pair.result in
    let found =
    places_of c.args.self i j _ _ _ pair.difference pair.sum apart lt is c.logarithm-square.ensures.bound
    c.logarithm-linear.ensures.bound c.logarithm-constant.ensures.bound
    c.logarithm-square.ensures.exponent c.logarithm-linear.ensures.exponent
    c.logarithm-constant.ensures.exponent
    (λ d z is_pair at. let same = c.pair_at-pair.ensures.only d z is_pair at in
    (ap difference_of same, ap sum_of same)) in
    elim c.then-pair-eq0.branch [
      | then-pair-eq0-via-then-pair-eq0 w ↦ absurd (omega (arith, found.0, w.if-pair-eq0.true))
      | then-pair-eq0-via-else-pair-eq0+then-high-ge-SYMBOLS w ↦
          absurd (omega (arith, found.2, w.if-high-ge-SYMBOLS.true))
    ]

pub returns-clause-only : goal.returns-clause-only
returns-clause-only c = λ i j apart lt is.
    let pair = c.pair_at-pair.result in
    let found =
    places_of c.args.self i j _ _ _ pair.difference pair.sum apart lt is c.logarithm-square.ensures.bound
    c.logarithm-linear.ensures.bound c.logarithm-constant.ensures.bound
    c.logarithm-square.ensures.exponent c.logarithm-linear.ensures.exponent
    c.logarithm-constant.ensures.exponent
    (λ d z is_pair at. let same = c.pair_at-pair.ensures.only d z is_pair at in
    (ap difference_of same, ap sum_of same)) in
    ap₂ some_places (omega (arith, found.2)) (omega (arith, found.1))
