-- The sums of a word after the share of a position is removed.
use Rattle.std.proofs.Common.{◌≡◌, ◌≢◌, ℕ, zero, suc, ◌+◌, ◌-◌, ◌*◌, ◌<◌, List, [], ◌∷◌, length, get_or, set, replicate, bit_xor, refl, sym, ap, ap₂, ◌∙◌, subst, inl, inr, arith}
use Rattle.std.specs.Int.Bits.{xor_self, xor_zero_r}
use Rattle.std.proofs.lemmas.Nat.{xor_comm, xor_lt}
use Rattle.std.proofs.lemmas.Bool.{cases_eq, cases_lt}
use Rattle.std.proofs.lemmas.List.{get_or-set_same, get_or-set_other, get_or-replicate, get_or_past, length-set, ext_get_or}
use Rattle.std.proofs.lemmas.List.Elements.{All-get_or}
use Rattle.gf64.specs.Field.{product, alpha_power}
use Rattle.gf64.proofs.FieldLaws.{product-sum, sum-product, product-zero, product-alpha_power, product_assoc, product_comm, product-one, product-lt, product_cancel, sum_swap, product_swap, alpha_power-lt}
use Rattle.rw_code.specs.Codeword.{IsWord, weighted_sum}
use Rattle.rw_code.proofs.SumLemmas.{weighted_sum-set}
use Rattle.rw_code.proofs.CodewordLemmas.{zero_sums}
use Rattle.rw_code.proofs.Errors.{powers_apart}
use Rattle.gf64.proofs.Tables.{same_exponent}
use Rattle.rw_merge.specs.Elimination.{cleared}

length-cleared : (x : ℕ) (es : List ℕ) → length (cleared x es) ≡ length es
unfolding cleared
length-cleared x [] = refl
length-cleared x (e ∷ es) = ap suc (length-cleared x es)

-- the sum of the cleared word is the next sum plus x times this sum
pub weighted_sum-cleared : (j x : ℕ) (es : List ℕ)
    → weighted_sum j (cleared x es) ≡ bit_xor (weighted_sum (suc j) es) (product x (weighted_sum j es))
unfolding cleared weighted_sum
weighted_sum-cleared j x [] = sym (product-zero x)
weighted_sum-cleared j x (e ∷ es) =
    let k = length es in
    let a = alpha_power (j * k) in
    let exponent : j * k + k ≡ suc j * k = omega arith in
    let raised : product a (product (alpha_power k) e) ≡ product (alpha_power (suc j * k)) e =
    sym (product_assoc a (alpha_power k) e)
    ∙ ap (λ n. product n e) (product-alpha_power (j * k) k ∙ ap alpha_power exponent) in
    let first : product a (product (bit_xor (alpha_power k) x) e)
    ≡ bit_xor (product (alpha_power (suc j * k)) e) (product x (product a e)) =
    ap (product a) (sum-product (alpha_power k) x e)
    ∙ product-sum a (product (alpha_power k) e) (product x e)
    ∙ ap₂ bit_xor raised (product_swap a x e) in
    ap (λ n. bit_xor (product (alpha_power (j * n)) (product (bit_xor (alpha_power k) x) e))
    (weighted_sum j (cleared x es))) (length-cleared x es)
    ∙ ap₂ bit_xor first (weighted_sum-cleared j x es)
    ∙ sum_swap _ _ (weighted_sum (suc j) es) _
    ∙ ap (bit_xor (bit_xor (product (alpha_power (suc j * k)) e) (weighted_sum (suc j) es)))
    (sym (product-sum x (product a e) (weighted_sum j es)))

-- a symbol of the cleared word that k others follow
get_or-cleared : (x : ℕ) (es : List ℕ) (i k : ℕ) → suc (i + k) ≡ length es
    → get_or (cleared x es) i 0 ≡ product (bit_xor (alpha_power k) x) (get_or es i 0)
unfolding cleared
get_or-cleared x [] i k place = absurd (omega arith)
get_or-cleared x (e ∷ es) zero k place =
    let follow : length es ≡ k = omega arith in ap (λ n. product (bit_xor (alpha_power n) x) e) follow
get_or-cleared x (e ∷ es) (suc i) k place = get_or-cleared x es i k (omega arith)

-- a cleared word has 24 symbols
pub cleared_word : (x : ℕ) (es : List ℕ) → length es ≡ 24 → length (cleared x es) ≡ 24
cleared_word x es size = length-cleared x es ∙ size

pub cleared_at : (x : ℕ) (es : List ℕ) (i : ℕ) → length es ≡ 24 → i < 24
    → get_or (cleared x es) i 0 ≡ product (bit_xor (alpha_power (23 - i)) x) (get_or es i 0)
cleared_at x es i size lt = get_or-cleared x es i (23 - i) (omega arith)

-- the symbol at the cleared position is 0
pub cleared_here : (es : List ℕ) (i : ℕ) → length es ≡ 24 → i < 24
    → get_or (cleared (alpha_power (23 - i)) es) i 0 ≡ 0
unfolding product
cleared_here es i size lt =
    cleared_at (alpha_power (23 - i)) es i size lt
    ∙ ap (λ n. product n (get_or es i 0)) (xor_self (alpha_power (23 - i)))
    ∙ product_comm 0 (get_or es i 0)
    ∙ product-zero (get_or es i 0)

-- a symbol that is 0 stays 0
pub cleared_zero : (x : ℕ) (es : List ℕ) (i : ℕ) → length es ≡ 24 → i < 24 → get_or es i 0 ≡ 0
    → get_or (cleared x es) i 0 ≡ 0
cleared_zero x es i size lt none =
    cleared_at x es i size lt
    ∙ ap (product (bit_xor (alpha_power (23 - i)) x)) none
    ∙ product-zero (bit_xor (alpha_power (23 - i)) x)

get_or-zeros : (i : ℕ) → let zeros : List ℕ = replicate 24 0 in get_or zeros i 0 ≡ 0
get_or-zeros i =
    let zeros : List ℕ = replicate 24 0 in
    elim (cases_lt i 24) [
      | inl lt ↦ get_or-replicate 24 i 0 0 lt
      | inr ge ↦ get_or_past zeros i 0 ge
    ]

zero_sum : (n : ℕ) → bit_xor 0 n ≡ n
zero_sum n = xor_comm 0 n ∙ xor_zero_r n

-- The sum of a word with only one symbol that is not 0.
pub sum_of_one : (j : ℕ) (es : List ℕ) (q : ℕ) → length es ≡ 24 → q < 24
    → ((i : ℕ) → i < 24 → i ≢ q → get_or es i 0 ≡ 0)
    → weighted_sum j es ≡ product (alpha_power (j * (23 - q))) (get_or es q 0)
sum_of_one j es q size lt others =
    let e = get_or es q 0 in
    let zeros : List ℕ = replicate 24 0 in
    let same : es ≡ set zeros q e =
    ext_get_or 0 es (set zeros q e) (size ∙ sym (length-set (replicate 24 0) q e)) (λ i i_lt.
    elim (cases_eq i q) [
      | inl here ↦
          ap (λ n. get_or es n 0) here
          ∙ sym (ap (λ n. get_or (set zeros q e) n 0) here ∙ get_or-set_same zeros q e 0 lt)
      | inr there ↦ others i (omega arith) there ∙ sym (get_or-set_other zeros q i e 0 there ∙ get_or-zeros i)
    ]) in
    ap (weighted_sum j) same
    ∙ weighted_sum-set j zeros q (23 - q) e (omega arith)
    ∙ ap₂ (λ s z. bit_xor s (product (alpha_power (j * (23 - q))) (bit_xor z e))) (zero_sums j 24)
    (get_or-zeros q)
    ∙ zero_sum (product (alpha_power (j * (23 - q))) (bit_xor 0 e))
    ∙ ap (product (alpha_power (j * (23 - q)))) (zero_sum e)

-- ---- Errors at four positions.

-- the word with the share of a position removed
abbrev without : List ℕ → ℕ → List ℕ
without es i = cleared (alpha_power (23 - i)) es

without_size : (es : List ℕ) (i : ℕ) → length es ≡ 24 → length (without es i) ≡ 24
without_size es i size = cleared_word (alpha_power (23 - i)) es size

-- the factor of position k when the share of position i is removed
abbrev scale : ℕ → ℕ → ℕ
scale i k = bit_xor (alpha_power (23 - i)) (alpha_power (23 - k))

-- a word that is 0 outside of some positions is, without position k, 0 outside of the others
zero_without : (es : List ℕ) (k : ℕ) (P : ℕ → Type 0) → length es ≡ 24
    → ((i : ℕ) → i < 24 → i ≢ k → P i → get_or es i 0 ≡ 0)
    → (i : ℕ) → i < 24 → P i → get_or (without es k) i 0 ≡ 0
zero_without es k P size outside i lt p =
    elim (cases_eq i k) [
      | inl here ↦ subst (λ n. get_or (without es n) i 0 ≡ 0) here (cleared_here es i size lt)
      | inr there ↦ cleared_zero (alpha_power (23 - k)) es i size lt (outside i lt there p)
    ]

unit : (k e : ℕ) → e < 64 → product (alpha_power (0 * k)) e ≡ e
unfolding alpha_power
unit k e lt =
    let no_exponent : 0 * k ≡ 0 = omega arith in
    ap (λ n. product (alpha_power n) e) no_exponent ∙ product_comm 1 e ∙ product-one e lt

-- only one term of the sum remains, which gives the error
pub error_found : (es : List ℕ) (i a b c v s d found : ℕ) → IsWord es → i < 24
    → ((k : ℕ) → k < 24 → k ≢ i → k ≢ a → k ≢ b → k ≢ c → get_or es k 0 ≡ 0)
    → v ≡ weighted_sum 0 (without (without (without es a) b) c)
    → s ≡ product (product (scale i a) (scale i b)) (scale i c) → product s d ≡ 1 → found ≡ product v d
    → found ≡ get_or es i 0
error_found es i a b c v s d found is_word lt outside v_is s_is inverse found_is =
    let e = get_or es i 0 in
    let es1 = without es a in
    let es2 = without es1 b in
    let es3 = without es2 c in
    let size = is_word.size in
    let size1 = without_size es a size in
    let size2 = without_size es1 b size1 in
    let size3 = without_size es2 c size2 in
    let zero1 : (k : ℕ) → k < 24 → (k ≢ i) × (k ≢ b) × (k ≢ c) → get_or es1 k 0 ≡ 0 =
    zero_without es a (λ k. (k ≢ i) × (k ≢ b) × (k ≢ c)) size
    (λ k k_lt not_a p. outside k k_lt p.0 not_a p.1 p.2) in
    let zero2 : (k : ℕ) → k < 24 → (k ≢ i) × (k ≢ c) → get_or es2 k 0 ≡ 0 =
    zero_without es1 b (λ k. (k ≢ i) × (k ≢ c)) size1 (λ k k_lt not_b p. zero1 k k_lt (p.0, not_b, p.1)) in
    let zero3 : (k : ℕ) → k < 24 → k ≢ i → get_or es3 k 0 ≡ 0 =
    zero_without es2 c (λ k. k ≢ i) size2 (λ k k_lt not_c p. zero2 k k_lt (p, not_c)) in
    let at3 : get_or es3 i 0 ≡ product (scale i c) (product (scale i b) (product (scale i a) e)) =
    cleared_at (alpha_power (23 - c)) es2 i size2 lt
    ∙ ap (product (scale i c)) (cleared_at (alpha_power (23 - b)) es1 i size1 lt
    ∙ ap (product (scale i b)) (cleared_at (alpha_power (23 - a)) es i size lt)) in
    let in_order : product (scale i c) (product (scale i b) (product (scale i a) e)) ≡ product s e =
    ap (product (scale i c)) (product_swap (scale i b) (scale i a) e)
    ∙ product_swap (scale i c) (scale i a) (product (scale i b) e)
    ∙ ap (product (scale i a)) (product_swap (scale i c) (scale i b) e)
    ∙ sym (ap (λ n. product n e) s_is
    ∙ product_assoc (product (scale i a) (scale i b)) (scale i c) e
    ∙ product_assoc (scale i a) (scale i b) (product (scale i c) e)) in
    let small : get_or es3 i 0 < 64 = subst (λ n. n < 64) (sym at3) (product-lt _ _) in
    let e_lt : e < 64 = All-get_or (λ s. s < 64) es i 0 (omega (arith, size)) is_word.symbols in
    let v_is_e : v ≡ product e s =
    v_is
    ∙ sum_of_one 0 es3 i size3 lt zero3
    ∙ unit (23 - i) (get_or es3 i 0) small
    ∙ at3
    ∙ in_order
    ∙ product_comm s e in
    found_is
    ∙ ap (λ n. product n d) v_is_e
    ∙ product_assoc e s d
    ∙ ap (product e) inverse
    ∙ product-one e e_lt

-- ---- Errors at two positions and at most one further.

-- the remaining sums, if the further position is a third one
pub further_sums : (es : List ℕ) (a b f t0 t1 : ℕ) → IsWord es → f < 24
    → ((k : ℕ) → k < 24 → k ≢ a → k ≢ b → k ≢ f → get_or es k 0 ≡ 0)
    → t0 ≡ weighted_sum 0 (without (without es a) b) → t1 ≡ weighted_sum 1 (without (without es a) b)
    → (t0 ≡ product (scale f b) (product (scale f a) (get_or es f 0)))
    × (product (alpha_power (23 - f)) t0 ≡ t1)
further_sums es a b f t0 t1 is_word lt outside t0_is t1_is =
    let e = get_or es f 0 in
    let es1 = without es a in
    let es2 = without es1 b in
    let size = is_word.size in
    let size1 = without_size es a size in
    let size2 = without_size es1 b size1 in
    let zero1 : (k : ℕ) → k < 24 → (k ≢ f) × (k ≢ b) → get_or es1 k 0 ≡ 0 =
    zero_without es a (λ k. (k ≢ f) × (k ≢ b)) size (λ k k_lt not_a p. outside k k_lt not_a p.1 p.0) in
    let zero2 : (k : ℕ) → k < 24 → k ≢ f → get_or es2 k 0 ≡ 0 =
    zero_without es1 b (λ k. k ≢ f) size1 (λ k k_lt not_b p. zero1 k k_lt (p, not_b)) in
    let at2 : get_or es2 f 0 ≡ product (scale f b) (product (scale f a) e) =
    cleared_at (alpha_power (23 - b)) es1 f size1 lt
    ∙ ap (product (scale f b)) (cleared_at (alpha_power (23 - a)) es f size lt) in
    let small : get_or es2 f 0 < 64 = subst (λ n. n < 64) (sym at2) (product-lt _ _) in
    let zeroth : t0 ≡ get_or es2 f 0 =
    t0_is ∙ sum_of_one 0 es2 f size2 lt zero2 ∙ unit (23 - f) (get_or es2 f 0) small in
    let exponent : 1 * (23 - f) ≡ 23 - f = omega arith in
    let first : t1 ≡ product (alpha_power (23 - f)) (get_or es2 f 0) =
    t1_is ∙ sum_of_one 1 es2 f size2 lt zero2 ∙ ap (λ n. product (alpha_power n) (get_or es2 f 0)) exponent in
    (zeroth ∙ at2, ap (product (alpha_power (23 - f))) zeroth ∙ sym first)

-- If the remaining sum is 0, there is no error at the further position.
pub nothing_further : (es : List ℕ) (a b f t0 t1 : ℕ) → IsWord es → a < 24 → b < 24 → f < 24 → f ≢ a → f ≢ b
    → ((k : ℕ) → k < 24 → k ≢ a → k ≢ b → k ≢ f → get_or es k 0 ≡ 0)
    → t0 ≡ weighted_sum 0 (without (without es a) b) → t1 ≡ weighted_sum 1 (without (without es a) b) → t0 ≡ 0
    → get_or es f 0 ≡ 0
nothing_further es a b f t0 t1 is_word a_lt b_lt lt not_a not_b outside t0_is t1_is none =
    let e_lt : get_or es f 0 < 64 =
    All-get_or (λ s. s < 64) es f 0 (omega (arith, is_word.size)) is_word.symbols in
    let sums = further_sums es a b f t0 t1 is_word lt outside t0_is t1_is in
    product_cancel (scale f a) (get_or es f 0) (xor_lt 6 _ _ (alpha_power-lt _) (alpha_power-lt _)) e_lt
    (powers_apart f a lt a_lt (λ e. not_a (sym e)))
    (product_cancel (scale f b) (product (scale f a) (get_or es f 0))
    (xor_lt 6 _ _ (alpha_power-lt _) (alpha_power-lt _)) (product-lt _ _)
    (powers_apart f b lt b_lt (λ e. not_b (sym e)))
    (sym sums.0 ∙ none))

-- If the only errors are at the two positions, the remaining sum is 0.
pub nothing_left : (es : List ℕ) (a b t0 : ℕ) → IsWord es → a < 24
    → ((k : ℕ) → k < 24 → k ≢ a → k ≢ b → get_or es k 0 ≡ 0)
    → t0 ≡ weighted_sum 0 (without (without es a) b) → t0 ≡ 0
nothing_left es a b t0 is_word a_lt outside t0_is =
    let es1 = without es a in
    let es2 = without es1 b in
    let size1 = without_size es a is_word.size in
    let size2 = without_size es1 b size1 in
    let zero1 : (k : ℕ) → k < 24 → k ≢ b → get_or es1 k 0 ≡ 0 =
    zero_without es a (λ k. k ≢ b) is_word.size (λ k k_lt not_a p. outside k k_lt not_a p) in
    let zero2 : (k : ℕ) → k < 24 → Unit {0} → get_or es2 k 0 ≡ 0 =
    zero_without es1 b (λ k. Unit {0}) size1 (λ k k_lt not_b p. zero1 k k_lt not_b) in
    t0_is
    ∙ sum_of_one 0 es2 a size2 a_lt (λ k k_lt ne. zero2 k k_lt tt)
    ∙ ap (product (alpha_power (0 * (23 - a)))) (zero2 a a_lt tt)
    ∙ product-zero (alpha_power (0 * (23 - a)))

-- A power that turns one number into another is their ratio.
pub power_is_ratio : (z f1 d r k : ℕ) → product z d ≡ 1 → r ≡ product f1 d
    → product (alpha_power (23 - k)) z ≡ f1
    → alpha_power (23 - k) ≡ r
power_is_ratio z f1 d r k inverse r_is at_k =
    let x = alpha_power (23 - k) in
    sym (product-one x (alpha_power-lt (23 - k)))
    ∙ ap (product x) (sym inverse)
    ∙ sym (product_assoc x z d)
    ∙ ap (λ n. product n d) at_k
    ∙ sym r_is

-- There is only one position with this power.
pub only_power : (z f1 d r k j : ℕ) → product z d ≡ 1 → r ≡ product f1 d → k < 24 → j < 24
    → alpha_power (23 - j) ≡ r → product (alpha_power (23 - k)) z ≡ f1
    → k ≡ j
only_power z f1 d r k j inverse r_is k_lt j_lt at_j at_k =
    let exponents : 23 - k ≡ 23 - j =
    same_exponent (23 - k) (23 - j) (omega arith) (omega arith)
    (power_is_ratio z f1 d r k inverse r_is at_k ∙ sym at_j) in
    omega arith
