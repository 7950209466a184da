-- The polynomial of the sums of two errors, and its zeros.
use Rattle.std.proofs.Common.{◌≡◌, ◌≢◌, ℕ, zero, suc, ◌+◌, ◌-◌, ◌*◌, ◌%◌, ◌<◌, Bool, true, ◌&&◌, ◌==◌, nat_lt, if◌then◌else◌, get_or, bit_xor, refl, sym, ap, ap₂, ◌∙◌, subst, inl, inr, eq-eqb, mod-lt, lit<, arith}
use Rattle.std.specs.Int.Bits.{xor_assoc, xor_self, xor_zero_r}
use Rattle.std.proofs.lemmas.Bool.{and_parts, eqb-true, ltb-true}
use Rattle.std.proofs.lemmas.Nat.{xor_comm, xor_lt}
use Rattle.gf64.specs.Field.{product, alpha_power}
use Rattle.gf64.proofs.Tables.{all_below, all_below-at, same_exponent}
use Rattle.gf64.proofs.FieldLaws.{product_comm, product_assoc, product_swap, product-sum, sum-product, zero-product, product-alpha_power, product-one, product-lt, product_cancel, sum_swap, sum_twice, alpha_power-lt, alpha_power-mod, times_power, times_power_is, sum_cancel, element_cases}
use Rattle.rw_code.specs.Syndromes.{lane, AreLanes, IsError, IsEntry, IsOneWrong, AreTwoWrong, AreTwoSums, IsLocator, IsLocatorOf, IsPair}
use Rattle.rw_code.specs.declared.syndromes.Sums.{Sums}
use Rattle.rw_code.specs.declared.correction.Locator.{Locator}
use Rattle.rw_code.specs.declared.correction.Places.{Places}
use Rattle.rw_code.specs.declared.correction.TwoErrors.{TwoErrors}
use Rattle.rw_code.specs.declared.correction.TheConstants.{DIFFERENCES, SUMS}
use Rattle.rw_code.proofs.SyndromeLemmas.{lane-xor, table_entry, table_entry_is}
use Rattle.rw_code.proofs.Errors.{powers_apart}

-- ---- Sums in another order.

cross : (p u v q : ℕ) → bit_xor (bit_xor (bit_xor p u) (bit_xor v q)) (bit_xor v u) ≡ bit_xor p q
cross p u v q =
    ap (λ n. bit_xor n (bit_xor v u)) (ap (bit_xor (bit_xor p u)) (xor_comm v q) ∙ sum_swap p u q v)
    ∙ xor_assoc (bit_xor p q) (bit_xor u v) (bit_xor v u)
    ∙ ap (bit_xor (bit_xor p q)) (ap (bit_xor (bit_xor u v)) (xor_comm v u) ∙ xor_self (bit_xor u v))
    ∙ xor_zero_r (bit_xor p q)

drop_last : (a b : ℕ) → bit_xor (bit_xor a b) b ≡ a
drop_last a b = xor_assoc a b b ∙ ap (bit_xor a) (xor_self b) ∙ xor_zero_r a

drop_first : (a b : ℕ) → bit_xor (bit_xor a b) a ≡ b
drop_first a b = xor_comm (bit_xor a b) a ∙ sum_twice a b

-- ---- The sums of two errors by powers p and q follow a recurrence.

next_sum : (p q g h : ℕ) → bit_xor (product p (product p g)) (product q (product q h))
    ≡ bit_xor (product (bit_xor p q) (bit_xor (product p g) (product q h)))
    (product (product p q) (bit_xor g h))
next_sum p q g h =
    let m = bit_xor (product p g) (product q h) in
    let left : product (bit_xor p q) m
    ≡ bit_xor (bit_xor (product p (product p g)) (product p (product q h)))
    (bit_xor (product q (product p g)) (product q (product q h))) =
    sum-product p q m
    ∙ ap₂ bit_xor (product-sum p (product p g) (product q h)) (product-sum q (product p g) (product q h)) in
    let right : product (product p q) (bit_xor g h)
    ≡ bit_xor (product q (product p g)) (product p (product q h)) =
    product-sum (product p q) g h
    ∙ ap₂ bit_xor (product_assoc p q g ∙ product_swap p q g) (product_assoc p q h) in
    sym (ap₂ bit_xor left right
    ∙ cross (product p (product p g)) (product p (product q h)) (product q (product p g))
    (product q (product q h)))

-- Four numbers. Each of the last two is the one before times s plus the one before that times t.
pub record IsRecurrent (s t s0 s1 s2 s3 : ℕ) : Type 0 where
  pub second : s2 ≡ bit_xor (product s s1) (product t s0)
  pub third : s3 ≡ bit_xor (product s s2) (product t s1)

abbrev square : ℕ → ℕ → ℕ → ℕ
square s0 s1 s2 = bit_xor (product s1 s1) (product s0 s2)

linear_is : (s t s0 s1 s2 s3 : ℕ) → IsRecurrent s t s0 s1 s2 s3
    → bit_xor (product s1 s2) (product s0 s3) ≡ product s (square s0 s1 s2)
linear_is s t s0 s1 s2 s3 is =
    let x = product s (product s0 s2) in
    let y = product s1 (product t s0) in
    let last : product s0 s3 ≡ bit_xor x y =
    ap (product s0) is.third ∙ product-sum s0 (product s s2) (product t s1)
    ∙ ap₂ bit_xor (product_swap s0 s s2)
    (product_swap s0 t s1 ∙ ap (product t) (product_comm s0 s1) ∙ product_swap t s1 s0) in
    let first : bit_xor (product s1 s2) y ≡ product s (product s1 s1) =
    sym (product-sum s1 s2 (product t s0))
    ∙ ap (product s1) (ap (λ n. bit_xor n (product t s0)) is.second ∙ drop_last (product s s1) (product t s0))
    ∙ product_swap s1 s s1 in
    ap (bit_xor (product s1 s2)) (last ∙ xor_comm x y)
    ∙ sym (xor_assoc (product s1 s2) y x)
    ∙ ap (λ n. bit_xor n x) first
    ∙ sym (product-sum s (product s1 s1) (product s0 s2))

constant_is : (s t s0 s1 s2 s3 : ℕ) → IsRecurrent s t s0 s1 s2 s3
    → bit_xor (product s2 s2) (product s1 s3) ≡ product t (square s0 s1 s2)
constant_is s t s0 s1 s2 s3 is =
    let x = product t (product s1 s1) in
    let y = product s2 (product s s1) in
    let last : product s1 s3 ≡ bit_xor y x =
    ap (product s1) is.third ∙ product-sum s1 (product s s2) (product t s1)
    ∙ ap₂ bit_xor (product_swap s1 s s2 ∙ ap (product s) (product_comm s1 s2) ∙ product_swap s s2 s1)
    (product_swap s1 t s1) in
    let first : bit_xor (product s2 s2) y ≡ product t (product s0 s2) =
    sym (product-sum s2 s2 (product s s1))
    ∙ ap (product s2)
    (ap (λ n. bit_xor n (product s s1)) is.second ∙ drop_first (product s s1) (product t s0))
    ∙ product_swap s2 t s0 ∙ ap (product t) (product_comm s2 s0) in
    ap (bit_xor (product s2 s2)) last ∙ sym (xor_assoc (product s2 s2) y x) ∙ ap (λ n. bit_xor n x) first
    ∙ xor_comm (product t (product s0 s2)) x ∙ sym (product-sum t (product s1 s1) (product s0 s2))

-- ---- The factor of the polynomial is not 0.

-- the sum at 1 without the share of the error that has the power p
pub without : (p q e f : ℕ)
    → bit_xor (bit_xor (product p e) (product q f)) (product p (bit_xor e f)) ≡ product (bit_xor p q) f
without p q e f =
    ap (bit_xor (bit_xor (product p e) (product q f))) (product-sum p e f)
    ∙ sum_swap (product p e) (product q f) (product p e) (product p f)
    ∙ ap (λ n. bit_xor n (bit_xor (product q f) (product p f))) (xor_self (product p e))
    ∙ xor_comm 0 (bit_xor (product q f) (product p f)) ∙ xor_zero_r _
    ∙ xor_comm (product q f) (product p f) ∙ sym (sum-product p q f)

without_other : (p q e f : ℕ)
    → bit_xor (bit_xor (product p e) (product q f)) (product q (bit_xor e f)) ≡ product (bit_xor p q) e
without_other p q e f =
    ap₂ bit_xor (xor_comm (product p e) (product q f)) (ap (product q) (xor_comm e f))
    ∙ without q p f e
    ∙ ap (λ n. product n e) (xor_comm q p)

square_is : (p q s0 s1 s2 : ℕ) → s2 ≡ bit_xor (product (bit_xor p q) s1) (product (product p q) s0)
    → square s0 s1 s2 ≡ product (bit_xor s1 (product p s0)) (bit_xor s1 (product q s0))
square_is p q s0 s1 s2 s2_is =
    let a = product s1 s1 in
    let b = product q (product s0 s1) in
    let c = product p (product s0 s1) in
    let d = product p (product q (product s0 s0)) in
    let m = bit_xor s1 (product q s0) in
    let left : product s0 s2 ≡ bit_xor (bit_xor c b) d =
    ap (product s0) s2_is ∙ product-sum s0 (product (bit_xor p q) s1) (product (product p q) s0)
    ∙ ap₂ bit_xor (product_swap s0 (bit_xor p q) s1 ∙ sum-product p q (product s0 s1))
    (product_swap s0 (product p q) s0 ∙ product_assoc p q (product s0 s0)) in
    let right : product (bit_xor s1 (product p s0)) m ≡ bit_xor (bit_xor a b) (bit_xor c d) =
    sum-product s1 (product p s0) m
    ∙ ap₂ bit_xor (product-sum s1 s1 (product q s0)
    ∙ ap (bit_xor a) (product_swap s1 q s0 ∙ ap (product q) (product_comm s1 s0)))
    (product-sum (product p s0) s1 (product q s0)
    ∙ ap₂ bit_xor (product_assoc p s0 s1)
    (product_assoc p s0 (product q s0) ∙ ap (product p) (product_swap s0 q s0))) in
    ap (bit_xor a) (left ∙ ap (λ n. bit_xor n d) (xor_comm c b) ∙ xor_assoc b c d)
    ∙ sym (xor_assoc a b (bit_xor c d))
    ∙ sym right

square_not_zero : (p q e f s2 : ℕ) → p < 64 → q < 64 → e < 64 → f < 64 → bit_xor p q ≢ 0 → e ≢ 0 → f ≢ 0
    → s2
    ≡ bit_xor (product (bit_xor p q) (bit_xor (product p e) (product q f)))
    (product (product p q) (bit_xor e f))
    → square (bit_xor e f) (bit_xor (product p e) (product q f)) s2 ≢ 0
square_not_zero p q e f s2 p_lt q_lt e_lt f_lt apart e_wrong f_wrong s2_is none =
    let s = bit_xor p q in
    let s_lt : s < 64 = xor_lt 6 p q p_lt q_lt in
    let product_none : product (product s f) (product s e) ≡ 0 =
    sym (square_is p q (bit_xor e f) (bit_xor (product p e) (product q f)) s2 s2_is
    ∙ ap₂ product (without p q e f) (without_other p q e f))
    ∙ none in
    e_wrong
    (product_cancel s e s_lt e_lt apart
    (product_cancel (product s f) (product s e) (product-lt s f) (product-lt s e)
    (λ zero_f. f_wrong (product_cancel s f s_lt f_lt apart zero_f)) product_none))

-- ---- The sums of two errors.

unit : (k e : ℕ) → e < 64 → product (alpha_power (0 * k)) e ≡ e
unfolding alpha_power
unit k e lt =
    let no_exponent : 0 * k ≡ 0 = omega arith in
    ap (λ n. product (alpha_power n) e) no_exponent ∙ product_comm 1 e ∙ product-one e lt

raised : (k j e : ℕ)
    → product (alpha_power (suc j * k)) e ≡ product (alpha_power k) (product (alpha_power (j * k)) e)
raised k j e =
    let exponent : k + j * k ≡ suc j * k = omega arith in
    sym (sym (product_assoc (alpha_power k) (alpha_power (j * k)) e)
    ∙ ap (λ n. product n e) (product-alpha_power k (j * k) ∙ ap alpha_power exponent))

once : (k e : ℕ) → e < 64 → product (alpha_power (1 * k)) e ≡ product (alpha_power k) e
once k e lt = raised k 0 e ∙ ap (product (alpha_power k)) (unit k e lt)

two_lanes : (lanes i e j f k : ℕ) → AreTwoWrong lanes i e j f → k < 4
    → lane k lanes ≡ bit_xor (product (alpha_power (k * (23 - i))) e) (product (alpha_power (k * (23 - j))) f)
two_lanes lanes i e j f k wrong lt =
    let p = table_entry i e in
    let q = table_entry j f in
    let p_is = table_entry_is i e wrong.first.place wrong.first.below in
    let q_is = table_entry_is j f wrong.second.place wrong.second.below in
    ap (lane k) (wrong.sum p q p_is q_is) ∙ lane-xor k p q ∙ ap₂ bit_xor (p_is.whole k lt) (q_is.whole k lt)

pub two_sums : (lanes i e j f : ℕ) (sums : Sums) (places : Places) → AreLanes lanes sums
    → AreTwoWrong lanes i e j f → places.first ≡ i → places.second ≡ j
    → AreTwoSums sums places e f
two_sums lanes i e j f sums places are wrong first_is second_is =
    record {
      first_error = subst (λ n. IsError n e) (sym first_is) wrong.first;
      second_error = subst (λ n. IsError n f) (sym second_is) wrong.second;
      zeroth =
          are.zeroth
          ∙ two_lanes lanes i e j f 0 wrong (lit< tt)
          ∙ ap₂ bit_xor (unit (23 - i) e wrong.first.below) (unit (23 - j) f wrong.second.below);
      first =
          are.first
          ∙ two_lanes lanes i e j f 1 wrong (lit< tt)
          ∙ ap₂ bit_xor (once (23 - i) e wrong.first.below) (once (23 - j) f wrong.second.below)
          ∙ ap₂ (λ (m n : ℕ). bit_xor (product (alpha_power (23 - m)) e) (product (alpha_power (23 - n)) f))
          (sym first_is) (sym second_is);
    }

next_lane : (lanes i e j f k : ℕ) → AreTwoWrong lanes i e j f → suc (suc k) < 4
    → lane (suc (suc k)) lanes
    ≡ bit_xor (product (bit_xor (alpha_power (23 - i)) (alpha_power (23 - j))) (lane (suc k) lanes))
    (product (product (alpha_power (23 - i)) (alpha_power (23 - j))) (lane k lanes))
next_lane lanes i e j f k wrong lt =
    let x = 23 - i in
    let y = 23 - j in
    let p = alpha_power x in
    let q = alpha_power y in
    let g = product (alpha_power (k * x)) e in
    let h = product (alpha_power (k * y)) f in
    let this : lane k lanes ≡ bit_xor g h = two_lanes lanes i e j f k wrong (omega arith) in
    let next : lane (suc k) lanes ≡ bit_xor (product p g) (product q h) =
    two_lanes lanes i e j f (suc k) wrong (omega arith) ∙ ap₂ bit_xor (raised x k e) (raised y k f) in
    two_lanes lanes i e j f (suc (suc k)) wrong lt
    ∙ ap₂ bit_xor (raised x (suc k) e ∙ ap (product p) (raised x k e))
    (raised y (suc k) f ∙ ap (product q) (raised y k f))
    ∙ next_sum p q g h
    ∙ sym (ap₂ (λ (m n : ℕ). bit_xor (product (bit_xor p q) m) (product (product p q) n)) next this)

-- the polynomial of the sums of two errors
pub two_locator : (lanes i e j f : ℕ) (sums : Sums) (locator : Locator) → AreLanes lanes sums
    → IsLocator sums locator → AreTwoWrong lanes i e j f
    → IsLocatorOf locator i j
two_locator lanes i e j f sums locator are is wrong =
    let p = alpha_power (23 - i) in
    let q = alpha_power (23 - j) in
    let recurrent : IsRecurrent (bit_xor p q) (product p q) sums.zeroth sums.first sums.second sums.third =
    record {
      second =
          are.second
          ∙ next_lane lanes i e j f 0 wrong (lit< tt)
          ∙ sym (ap₂ (λ (m n : ℕ). bit_xor (product (bit_xor p q) m) (product (product p q) n)) are.first
          are.zeroth);
      third =
          are.third
          ∙ next_lane lanes i e j f 1 wrong (lit< tt)
          ∙ sym (ap₂ (λ (m n : ℕ). bit_xor (product (bit_xor p q) m) (product (product p q) n)) are.second
          are.first);
    } in
    let places : Places = record { first = i; second = j } in
    let two = two_sums lanes i e j f sums places are wrong refl refl in
    let apart : j ≢ i = λ same. absurd (omega (arith, wrong.apart)) in
    record {
      square = λ none.
          square_not_zero p q e f sums.second (alpha_power-lt _) (alpha_power-lt _) wrong.first.below
          wrong.second.below (powers_apart i j wrong.first.place wrong.second.place apart) wrong.first.wrong
          wrong.second.wrong
          (recurrent.second
          ∙ ap₂ (λ (m n : ℕ). bit_xor (product (bit_xor p q) m) (product (product p q) n)) two.first
          two.zeroth)
          (sym (ap₂ (λ (m n : ℕ). square m n sums.second) two.zeroth two.first) ∙ sym is.square ∙ none);
      below =
          subst (λ n. n < 64) (sym is.square)
          (xor_lt 6 _ _ (product-lt sums.first sums.first) (product-lt sums.zeroth sums.second));
      linear = is.linear ∙ linear_is _ _ _ _ _ _ recurrent ∙ ap (product (bit_xor p q)) (sym is.square);
      constant = is.constant ∙ constant_is _ _ _ _ _ _ recurrent ∙ ap (product (product p q)) (sym is.square);
    }

-- ---- The tables of pairs.

abbrev ratio : ℕ → ℕ → ℕ
ratio d z = (d + 126 - 2 * z) % 63

-- If the power z is the sum of the power suc d and 1, both tables have this pair at their ratio.
IsPairEntry : ℕ → ℕ → Bool
IsPairEntry d z =
    if times_power z 1 == bit_xor (times_power (suc d) 1) 1
    then (get_or DIFFERENCES (ratio (suc d) z) 0 == suc d) && (get_or SUMS (ratio (suc d) z) 0 == z)
    else true

test_pairs : all_below (λ d. all_below (IsPairEntry d) 63) 23 ≡ true
unfolding all_below IsPairEntry times_power
test_pairs = refl

IsBounded : ℕ → Bool
IsBounded n = nat_lt (get_or DIFFERENCES n 0) 24 && nat_lt (get_or SUMS n 0) 63

test_bounds : all_below IsBounded 63 ≡ true
unfolding all_below IsBounded
test_bounds = refl

power_entry : (k : ℕ) → k < 63 → times_power k 1 ≡ alpha_power k
power_entry k lt = times_power_is k 1 lt (lit< tt) ∙ product-one (alpha_power k) (alpha_power-lt k)

pair_entry : (d z : ℕ) → suc d < 24 → z < 63 → bit_xor (alpha_power (suc d)) 1 ≡ alpha_power z
    → (get_or DIFFERENCES (ratio (suc d) z) 0 ≡ suc d) × (get_or SUMS (ratio (suc d) z) 0 ≡ z)
unfolding IsPairEntry
pair_entry d z lt z_lt sum =
    let right =
    all_below-at (IsPairEntry d) 63 z
    (all_below-at (λ d. all_below (IsPairEntry d) 63) 23 d test_pairs (omega arith)) z_lt in
    let test : (times_power z 1 == bit_xor (times_power (suc d) 1) 1) ≡ true =
    eq-eqb _ _
    (power_entry z z_lt ∙ sym sum ∙ ap (λ n. bit_xor n 1) (sym (power_entry (suc d) (omega arith)))) in
    let both = rw test at right in
    let (difference, sums) =
    and_parts (get_or DIFFERENCES (ratio (suc d) z) 0 == suc d) (get_or SUMS (ratio (suc d) z) 0 == z) both in
    (eqb-true _ _ difference, eqb-true _ _ sums)

pub pair_at : (d z at : ℕ) → IsPair d z → at ≡ ratio d z
    → (get_or DIFFERENCES at 0 ≡ d) × (get_or SUMS at 0 ≡ z)
pair_at zero z at pair at_is = absurd (omega (arith, pair.apart))
pair_at (suc d) z at pair at_is =
    let both = pair_entry d z pair.within pair.bound pair.sum in
    (ap (λ n. get_or DIFFERENCES n 0) at_is ∙ both.0, ap (λ n. get_or SUMS n 0) at_is ∙ both.1)

pub bounds_at : (at : ℕ) → at < 63 → (get_or DIFFERENCES at 0 < 24) × (get_or SUMS at 0 < 63)
unfolding IsBounded
bounds_at at lt =
    let both =
    and_parts (nat_lt (get_or DIFFERENCES at 0) 24) (nat_lt (get_or SUMS at 0) 63)
    (all_below-at IsBounded 63 at test_bounds lt) in
    (ltb-true _ _ both.0, ltb-true _ _ both.1)

-- each difference of positions has its pair
is_pair : (d : ℕ) → 0 < d → d < 24 → (z : ℕ) × IsPair d z
unfolding alpha_power
is_pair d positive lt =
    let a = bit_xor (alpha_power d) 1 in
    elim (element_cases a (xor_lt 6 (alpha_power d) 1 (alpha_power-lt d) (lit< tt))) [
      | inl none ↦ let same : d ≡ 0 =
          same_exponent d 0 (omega arith) (lit< tt) (sum_cancel (alpha_power d) 1 none) in
          absurd (omega arith)
      | inr (k, power) ↦ (
        k % 63,
        record {
          apart = positive;
          within = lt;
          bound = mod-lt k (lit< tt);
          sum = sym (alpha_power-mod k ∙ power);
        },
      )
    ]

-- ---- The zeros by the logarithms of the coefficients.

-- the logarithm of a power
exponent_of : (l k : ℕ) → l < 63 → alpha_power l ≡ alpha_power k → l ≡ k % 63
exponent_of l k lt same = same_exponent l (k % 63) lt (mod-lt k (lit< tt)) (same ∙ sym (alpha_power-mod k))

sum_of_powers : (x y d z : ℕ) → x ≡ d + y → IsPair d z
    → bit_xor (alpha_power x) (alpha_power y) ≡ alpha_power (z + y)
unfolding alpha_power
sum_of_powers x y d z x_is pair =
    ap₂ bit_xor (ap alpha_power x_is ∙ sym (product-alpha_power d y))
    (sym (product_comm 1 (alpha_power y) ∙ product-one (alpha_power y) (alpha_power-lt y)))
    ∙ sym (sum-product (alpha_power d) 1 (alpha_power y))
    ∙ ap (λ n. product n (alpha_power y)) pair.sum
    ∙ product-alpha_power z y

-- the logarithms of the coefficients of the polynomial of two positions
pub record AreLogarithms (i j la lb lc : ℕ) : Type 0 where
  pub d : ℕ
  pub z : ℕ
  pub pair : IsPair d z
  pub later : i + d ≡ j
  pub linear : lb ≡ (z + (23 - j) + la) % 63
  pub constant : lc ≡ (23 - i + (23 - j) + la) % 63

pub logarithms : (locator : Locator) (i j la lb lc : ℕ) → i < j → j < 24 → IsLocatorOf locator i j → la < 63
    → lb < 63 → lc < 63
    → alpha_power la ≡ locator.square → alpha_power lb ≡ locator.linear → alpha_power lc ≡ locator.constant
    → AreLogarithms i j la lb lc
logarithms locator i j la lb lc apart lt is la_lt lb_lt lc_lt square_is linear_is constant_is =
    let x = 23 - i in
    let y = 23 - j in
    let (z, pair) = is_pair (j - i) (omega arith) (omega arith) in
    let x_is : x ≡ j - i + y = omega arith in
    record {
      d = j - i;
      z = z;
      pair = pair;
      later = omega arith;
      linear = exponent_of lb (z + y + la) lb_lt
          (linear_is
          ∙ is.linear
          ∙ ap₂ product (sum_of_powers x y (j - i) z x_is pair) (sym square_is)
          ∙ product-alpha_power (z + y) la);
      constant = exponent_of lc (x + y + la) lc_lt
          (constant_is
          ∙ is.constant
          ∙ ap₂ product (product-alpha_power x y) (sym square_is)
          ∙ product-alpha_power (x + y) la);
    }

ratio_of : (i j la lb lc d z : ℕ) → i + d ≡ j → j < 24 → la < 63 → z < 63 → lb ≡ (z + (23 - j) + la) % 63
    → lc ≡ (23 - i + (23 - j) + la) % 63
    → (la + lc + 126 - 2 * lb) % 63 ≡ (d + 126 - 2 * z) % 63
ratio_of i j la lb lc d z later lt la_lt z_lt lb_is lc_is = omega arith

low_of : (j la lb z : ℕ) → j < 24 → la < 63 → z < 63 → lb ≡ (z + (23 - j) + la) % 63
    → (lb + 126 - la - z) % 63 ≡ 23 - j
low_of j la lb z lt la_lt z_lt lb_is = omega arith

-- The positions that the code computes from the logarithms, with the tables of differences and sums.
pub places_of : (locator : Locator) (i j la lb lc found_d found_z : ℕ) → i < j → j < 24
    → IsLocatorOf locator i j → la < 63 → lb < 63 → lc < 63
    → alpha_power la ≡ locator.square → alpha_power lb ≡ locator.linear → alpha_power lc ≡ locator.constant
    → ((d z : ℕ) → IsPair d z → (la + lc + 126 - 2 * lb) % 63 ≡ (d + 126 - 2 * z) % 63
    → (found_d ≡ d) × (found_z ≡ z))
    → (0 < found_d)
    × ((lb + 126 - la - found_z) % 63 ≡ 23 - j)
    × ((lb + 126 - la - found_z) % 63 + found_d ≡ 23 - i)
places_of locator i j la lb lc found_d found_z apart lt is la_lt lb_lt lc_lt square_is linear_is constant_is
    found =
    let are = logarithms locator i j la lb lc apart lt is la_lt lb_lt lc_lt square_is linear_is constant_is in
    let (d_is, z_is) =
    found are.d are.z are.pair
    (ratio_of i j la lb lc are.d are.z are.later lt la_lt are.pair.bound are.linear are.constant) in
    let low : (lb + 126 - la - found_z) % 63 ≡ 23 - j =
    ap (λ n. (lb + 126 - la - n) % 63) z_is ∙ low_of j la lb are.z lt la_lt are.pair.bound are.linear in
    (omega (arith, d_is, are.pair.apart), low, ap (λ n. n + found_d) low ∙ omega (arith, d_is, are.later))

-- a power is not 0
power_not_zero : (k : ℕ) → alpha_power k ≢ 0
unfolding alpha_power
power_not_zero k none =
    let whole : (k + 62 * k) % 63 ≡ 0 = omega arith in
    let one : alpha_power (k + 62 * k) ≡ 1 = sym (alpha_power-mod (k + 62 * k)) ∙ ap alpha_power whole in
    let contrary : 0 ≡ 1 =
    sym (ap (λ n. product n (alpha_power (62 * k))) none ∙ zero-product (alpha_power (62 * k)))
    ∙ product-alpha_power k (62 * k)
    ∙ one in
    absurd (omega (arith, contrary))

pub coefficients_not_zero : (locator : Locator) (i j : ℕ) → i < j → j < 24 → IsLocatorOf locator i j
    → (locator.linear ≢ 0) × (locator.constant ≢ 0)
coefficients_not_zero locator i j apart lt is =
    let p = alpha_power (23 - i) in
    let q = alpha_power (23 - j) in
    let other : j ≢ i = λ same. absurd (omega arith) in (
      λ none. is.square
          (product_cancel (bit_xor p q) locator.square (xor_lt 6 p q (alpha_power-lt _) (alpha_power-lt _))
          is.below (powers_apart i j (omega arith) lt other) (sym is.linear ∙ none)),
      λ none. is.square
          (product_cancel (product p q) locator.square (product-lt p q) is.below (λ zero_power.
          power_not_zero (23 - i + (23 - j)) (sym (product-alpha_power (23 - i) (23 - j)) ∙ zero_power))
          (sym is.constant ∙ none)),
    )

-- ---- The errors at two places.

pub two_values : (sums : Sums) (places : Places) (e f p q m t s v second first : ℕ)
    → AreTwoSums sums places e f → p ≡ alpha_power (23 - places.first) → q ≡ alpha_power (23 - places.second)
    → m ≡ product p sums.zeroth → t ≡ bit_xor sums.first m → s ≡ bit_xor p q → product s v ≡ 1
    → second ≡ product t v → first ≡ bit_xor sums.zeroth second
    → (first ≡ e) × (second ≡ f)
two_values sums places e f p q m t s v second first are p_is q_is m_is t_is s_is inverse second_is first_is =
    let first_sum : sums.first ≡ bit_xor (product p e) (product q f) =
    are.first ∙ ap₂ (λ (x y : ℕ). bit_xor (product x e) (product y f)) (sym p_is) (sym q_is) in
    let t_value : t ≡ product s f =
    t_is
    ∙ ap₂ bit_xor first_sum (m_is ∙ ap (product p) are.zeroth)
    ∙ without p q e f
    ∙ ap (λ n. product n f) (sym s_is) in
    let second_value : second ≡ f =
    second_is
    ∙ ap (λ n. product n v) (t_value ∙ product_comm s f)
    ∙ product_assoc f s v
    ∙ ap (product f) inverse
    ∙ product-one f are.second_error.below in
    (first_is ∙ ap₂ bit_xor are.zeroth second_value ∙ drop_last e f, second_value)

-- ---- The place of one error.

pub single_place : (i s0 s1 l0 l1 : ℕ) → IsError i s0 → product (alpha_power (23 - i)) s0 ≡ s1 → l0 < 63
    → l1 < 63 → alpha_power l0 ≡ s0 → alpha_power l1 ≡ s1
    → (l1 + 63 - l0) % 63 ≡ 23 - i
single_place i s0 s1 l0 l1 is first l0_lt l1_lt l0_is l1_is =
    let at : l1 ≡ (23 - i + l0) % 63 =
    exponent_of l1 (23 - i + l0) l1_lt
    (l1_is ∙ sym first ∙ ap (product (alpha_power (23 - i))) (sym l0_is) ∙ product-alpha_power (23 - i) l0) in
    omega (arith, is.place)

pub first_not_zero : (i s0 s1 : ℕ) → IsError i s0 → product (alpha_power (23 - i)) s0 ≡ s1 → s1 ≢ 0
first_not_zero i s0 s1 is first none =
    is.wrong (product_cancel (alpha_power (23 - i)) s0 (alpha_power-lt _) is.below (power_not_zero (23 - i))
    (first ∙ none))

-- the first two sums of a word with one error
pub one_sum : (lanes i e : ℕ) (sums : Sums) → AreLanes lanes sums → IsOneWrong lanes i e
    → (sums.zeroth ≡ e) × (product (alpha_power (23 - i)) sums.zeroth ≡ sums.first)
one_sum lanes i e sums are wrong =
    let below = wrong.is_error.below in
    let zeroth : sums.zeroth ≡ e = are.zeroth ∙ wrong.entry.whole 0 (lit< tt) ∙ unit (23 - i) e below in (
      zeroth,
      ap (product (alpha_power (23 - i))) zeroth
          ∙ sym (are.first ∙ wrong.entry.whole 1 (lit< tt) ∙ once (23 - i) e below),
    )

-- the shares of two errors, if they are the errors that the code found
pub two_entries : (lanes i e j f : ℕ) (places : Places) (errors : TwoErrors) (p q : ℕ)
    → AreTwoWrong lanes i e j f → places.first ≡ i → places.second ≡ j
    → errors
    ≡ record {
      first = record { position = places.first; value = e };
      second = record { position = places.second; value = f };
    }
    → IsEntry errors.first.position errors.first.value p
    → IsEntry errors.second.position errors.second.value q
    → lanes ≡ bit_xor p q
two_entries lanes i e j f places errors p q wrong first_is second_is errors_are p_is q_is =
    wrong.sum p q
    (subst (λ n. IsEntry n e p) first_is
    (subst (λ (found : TwoErrors). IsEntry found.first.position found.first.value p) errors_are p_is))
    (subst (λ n. IsEntry n f q) second_is
    (subst (λ (found : TwoErrors). IsEntry found.second.position found.second.value q) errors_are q_is))
