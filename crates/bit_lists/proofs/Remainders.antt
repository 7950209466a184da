-- The tables of remainders, and the tests over them that the checker computes.
use Rattle.std.proofs.Common.{◌≡◌, ℕ, ◌<◌, Bool, true, ◌==◌, ◌++◌, get_or, length, replicate, false, refl, sym, ap, ◌∙◌, arith, length-append}
use Rattle.std.proofs.lemmas.Bool.{eqb-true}
use Rattle.bit_lists.specs.Bits.{bits_of, number_of}
use Rattle.bit_lists.specs.Check.{check_polynomial}
use Rattle.bit_lists.specs.Polynomial.{combined, division_step, division_steps}
use Rattle.bit_lists.proofs.Tests.{all_below, all_below-at}
use Rattle.bit_lists.proofs.BitsLemmas.{length-bits_of, bits_of-number_of}
use Rattle.bit_lists.proofs.Division.{length-division_steps}
use Rattle.bit_lists.specs.declared.check.TheConstants.{REMAINDERS, HIGH_REMAINDERS}

IsRemainder : ℕ → Bool
IsRemainder x =
    get_or REMAINDERS x 0 == number_of (division_steps 8 check_polynomial (bits_of 8 x ++ replicate 16 false))

test_remainders : all_below IsRemainder 256 ≡ true
unfolding all_below IsRemainder bits_of number_of combined division_step division_steps
test_remainders = refl

pub REMAINDERS_at : (x : ℕ) → x < 256
    → bits_of 16 (get_or REMAINDERS x 0)
    ≡ division_steps 8 check_polynomial (bits_of 8 x ++ replicate 16 false)
unfolding IsRemainder
REMAINDERS_at x lt =
    let dividend = bits_of 8 x ++ replicate 16 false in
    let bs = division_steps 8 check_polynomial dividend in
    let long : length dividend ≡ 24 =
    length-append (bits_of 8 x) (replicate 16 false) ∙ omega (arith, length-bits_of 8 x) in
    let size : length bs ≡ 16 =
    omega (arith, length-division_steps 8 check_polynomial dividend (omega arith)) in
    let entry : get_or REMAINDERS x 0 ≡ number_of bs =
    eqb-true _ _ (all_below-at IsRemainder 256 x test_remainders lt) in
    ap (bits_of 16) entry ∙ sym (ap (λ k. bits_of k (number_of bs)) size) ∙ bits_of-number_of bs

IsHighRemainder : ℕ → Bool
IsHighRemainder x =
    get_or HIGH_REMAINDERS x 0
    == number_of (division_steps 16 check_polynomial (bits_of 8 x ++ replicate 24 false))

test_high_remainders : all_below IsHighRemainder 256 ≡ true
unfolding all_below IsHighRemainder bits_of number_of combined division_step division_steps
test_high_remainders = refl

pub HIGH_REMAINDERS_at : (x : ℕ) → x < 256
    → bits_of 16 (get_or HIGH_REMAINDERS x 0)
    ≡ division_steps 16 check_polynomial (bits_of 8 x ++ replicate 24 false)
unfolding IsHighRemainder
HIGH_REMAINDERS_at x lt =
    let dividend = bits_of 8 x ++ replicate 24 false in
    let bs = division_steps 16 check_polynomial dividend in
    let long : length dividend ≡ 32 =
    length-append (bits_of 8 x) (replicate 24 false) ∙ omega (arith, length-bits_of 8 x) in
    let size : length bs ≡ 16 =
    omega (arith, length-division_steps 16 check_polynomial dividend (omega arith)) in
    let entry : get_or HIGH_REMAINDERS x 0 ≡ number_of bs =
    eqb-true _ _ (all_below-at IsHighRemainder 256 x test_high_remainders lt) in
    ap (bits_of 16) entry ∙ sym (ap (λ k. bits_of k (number_of bs)) size) ∙ bits_of-number_of bs
