-- The positions at which two readings are equal and both wrong, and those at which they differ.
use Rattle.std.proofs.Common.{◌≡◌, ◌≢◌, ℕ, zero, suc, ◌+◌, ◌*◌, ◌<◌, ◌≤◌, ◌==◌, cond, List, [], ◌∷◌, length, get_or, take, drop, refl, sym, ap, ap₂, ◌∙◌, inl, inr, eq-eqb, ne_eqb, add-one, arith}
use Rattle.std.proofs.lemmas.Bool.Decides.{eqb_tells}
use Rattle.std.proofs.lemmas.List.{drop_all}
use Rattle.rw_code.specs.Codeword.{IsCodeword, IsWord, Reads, differences}
use Rattle.rw_code.proofs.Differing.{at_most_one, differences_self, differences_same_more, differences_other_more}
use Rattle.rw_code.proofs.Independent.{same_from_sums}
use Rattle.rw_merge.specs.Agreement.{IsAgreed, equally_wrong}

-- at each position at which two words differ, one of the readings is wrong, or the readings differ
differences_between : (xs ys ws vs : List ℕ) → length xs ≡ length ys → length xs ≡ length ws
    → length xs ≡ length vs
    → differences ws vs ≤ equally_wrong xs ys ws + equally_wrong xs ys vs + differences xs ys
unfolding differences equally_wrong
differences_between [] ys [] vs ys_size ws_size vs_size = omega arith
differences_between [] ys (w ∷ ws) vs ys_size ws_size vs_size = absurd (omega arith)
differences_between (x ∷ xs) [] ws vs ys_size ws_size vs_size = absurd (omega arith)
differences_between (x ∷ xs) (y ∷ ys) [] vs ys_size ws_size vs_size = absurd (omega arith)
differences_between (x ∷ xs) (y ∷ ys) (w ∷ ws) [] ys_size ws_size vs_size = absurd (omega arith)
differences_between (x ∷ xs) (y ∷ ys) (w ∷ ws) (v ∷ vs) ys_size ws_size vs_size =
    let rest = differences_between xs ys ws vs (omega arith) (omega arith) (omega arith) in
    elim (eqb_tells x y) [
      | inl (x_is_y, same_xy) ↦
          elim (eqb_tells x w) [
            | inl (x_is_w, same_xw) ↦
                elim (eqb_tells x v) [
                  | inl (x_is_v, same_xv) ↦
                      rw (x_is_y, x_is_w, x_is_v, eq-eqb w v (sym same_xw ∙ same_xv)) (omega arith)
                  | inr (x_is_v, differ_xv) ↦
                      rw (x_is_y, x_is_w, x_is_v) (omega (arith, at_most_one (w == v)))
                ]
            | inr (x_is_w, differ_xw) ↦ rw (x_is_y, x_is_w) (omega (arith, at_most_one (w == v)))
          ]
      | inr (x_is_y, differ_xy) ↦ rw x_is_y (omega (arith, at_most_one (w == v)))
    ]

-- Two codewords cannot both be agreed for the same two words.
pub only_one_agreed : (xs ys w v : List ℕ) → IsWord xs → IsWord ys → IsAgreed xs ys w → IsAgreed xs ys v
    → w ≡ v
only_one_agreed xs ys w v xs_word ys_word w_agreed v_agreed =
    let w_word = w_agreed.is_codeword.is_word in
    let v_word = v_agreed.is_codeword.is_word in
    let apart =
    differences_between xs ys w v (xs_word.size ∙ sym ys_word.size) (xs_word.size ∙ sym w_word.size)
    (xs_word.size ∙ sym v_word.size) in
    same_from_sums 4 w v (w_word.size ∙ sym v_word.size) (omega (arith, w_word.size)) w_word.symbols
    v_word.symbols
    (omega (arith, apart, w_agreed.few, v_agreed.few))
    (λ j lt. w_agreed.is_codeword.whole j lt ∙ sym (v_agreed.is_codeword.whole j lt))

-- if no symbol is equally wrong, equal symbols are right
pub right_where_equal : (xs ys ws : List ℕ) (i : ℕ) → length xs ≡ length ys → length xs ≡ length ws
    → equally_wrong xs ys ws ≡ 0 → i < length xs
    → get_or xs i 0 ≡ get_or ys i 0 → get_or xs i 0 ≡ get_or ws i 0
unfolding equally_wrong
right_where_equal [] ys ws i ys_size ws_size none lt equal = absurd (omega arith)
right_where_equal (x ∷ xs) [] ws i ys_size ws_size none lt equal = absurd (omega arith)
right_where_equal (x ∷ xs) (y ∷ ys) [] i ys_size ws_size none lt equal = absurd (omega arith)
right_where_equal (x ∷ xs) (y ∷ ys) (w ∷ ws) zero ys_size ws_size none lt equal =
    elim (eqb_tells x w) [
      | inl (x_is_w, same) ↦ same
      | inr (x_is_w, differ) ↦ let left = rw (eq-eqb x y equal, x_is_w) at none in absurd (omega arith)
    ]
right_where_equal (x ∷ xs) (y ∷ ys) (w ∷ ws) (suc i) ys_size ws_size none lt equal =
    right_where_equal xs ys ws i (omega arith) (omega arith) (omega arith) (omega arith) equal

later_ones : (x y w : ℕ) (xs ys ws : List ℕ) (f : ℕ) → (x ≡ y → x ≡ w)
    → ((i : ℕ) → i < length xs → i ≢ f → get_or xs i 0 ≡ get_or ys i 0 → get_or xs i 0 ≡ get_or ws i 0)
    → (i : ℕ) → i < suc (length xs) → i ≢ suc f → get_or (x ∷ xs) i 0 ≡ get_or (y ∷ ys) i 0
    → get_or (x ∷ xs) i 0 ≡ get_or (w ∷ ws) i 0
later_ones x y w xs ys ws f here rest zero lt ne equal = here equal
later_ones x y w xs ys ws f here rest (suc i) lt ne equal = rest i (omega arith) (λ at. ne (ap suc at)) equal

first_one : (x y w : ℕ) (xs ys ws : List ℕ)
    → ((i : ℕ) → i < length xs → get_or xs i 0 ≡ get_or ys i 0 → get_or xs i 0 ≡ get_or ws i 0)
    → (i : ℕ) → i < suc (length xs) → i ≢ 0 → get_or (x ∷ xs) i 0 ≡ get_or (y ∷ ys) i 0
    → get_or (x ∷ xs) i 0 ≡ get_or (w ∷ ws) i 0
first_one x y w xs ys ws rest zero lt ne equal = absurd (ne refl)
first_one x y w xs ys ws rest (suc i) lt ne equal = rest i (omega arith) equal

-- if at most one symbol is equally wrong, equal symbols are right except at one position
pub right_but_at_one : (xs ys ws : List ℕ) → length xs ≡ length ys → length xs ≡ length ws
    → equally_wrong xs ys ws ≤ 1
    → (f : ℕ)
    × ((i : ℕ) → i < length xs → i ≢ f → get_or xs i 0 ≡ get_or ys i 0 → get_or xs i 0 ≡ get_or ws i 0)
unfolding equally_wrong
right_but_at_one [] ys ws ys_size ws_size few = (0, λ i lt ne equal. absurd (omega arith))
right_but_at_one (x ∷ xs) [] ws ys_size ws_size few = absurd (omega arith)
right_but_at_one (x ∷ xs) (y ∷ ys) [] ys_size ws_size few = absurd (omega arith)
right_but_at_one (x ∷ xs) (y ∷ ys) (w ∷ ws) ys_size ws_size few =
    elim (eqb_tells x y) [
      | inr (x_is_y, differ) ↦
          let left = rw x_is_y at few in
          let (f, rest) = right_but_at_one xs ys ws (omega arith) (omega arith) (omega arith) in
          (suc f, later_ones x y w xs ys ws f (λ equal. absurd (differ equal)) rest)
      | inl (x_is_y, same) ↦
          elim (eqb_tells x w) [
            | inl (x_is_w, right) ↦
                let left = rw (x_is_y, x_is_w) at few in
                let (f, rest) = right_but_at_one xs ys ws (omega arith) (omega arith) (omega arith) in
                (suc f, later_ones x y w xs ys ws f (λ equal. right) rest)
            | inr (x_is_w, wrong) ↦
                let left = rw (x_is_y, x_is_w) at few in
                let none : equally_wrong xs ys ws ≡ 0 = omega arith in (
                  0,
                  first_one x y w xs ys ws
                      (λ i lt equal. right_where_equal xs ys ws i (omega arith) (omega arith) none lt equal),
                )
          ]
    ]

-- two equal readings are equally wrong at each wrong position
pub equally_wrong_self : (xs ws : List ℕ) → length xs ≡ length ws → equally_wrong xs xs ws ≡ differences xs ws
unfolding equally_wrong differences
equally_wrong_self [] ws size = refl
equally_wrong_self (x ∷ xs) [] size = absurd (omega arith)
equally_wrong_self (x ∷ xs) (w ∷ ws) size =
    let rest = equally_wrong_self xs ws (omega arith) in rw (eq-eqb x x refl) (omega arith)

-- the numbers of wrong symbols in each of two readings, added
pub penalty_of_both : (ws xs ys : List ℕ) → length ws ≡ length xs → length ws ≡ length ys
    → 2 * equally_wrong xs ys ws + differences xs ys ≤ differences ws xs + differences ws ys
unfolding equally_wrong differences
penalty_of_both [] [] ys xs_size ys_size = omega arith
penalty_of_both [] (x ∷ xs) ys xs_size ys_size = absurd (omega arith)
penalty_of_both (w ∷ ws) [] ys xs_size ys_size = absurd (omega arith)
penalty_of_both (w ∷ ws) (x ∷ xs) [] xs_size ys_size = absurd (omega arith)
penalty_of_both (w ∷ ws) (x ∷ xs) (y ∷ ys) xs_size ys_size =
    let rest = penalty_of_both ws xs ys (omega arith) (omega arith) in
    elim (eqb_tells x y) [
      | inl (x_is_y, same_xy) ↦
          elim (eqb_tells x w) [
            | inl (x_is_w, same_xw) ↦ rw (x_is_y, x_is_w) (omega arith)
            | inr (x_is_w, differ_xw) ↦
                rw (
                  x_is_y,
                  x_is_w,
                  ne_eqb w x (λ e. differ_xw (sym e)),
                  ne_eqb w y (λ e. differ_xw (same_xy ∙ sym e)),
                ) (omega arith)
          ]
      | inr (x_is_y, differ_xy) ↦
          elim (eqb_tells w x) [
            | inl (w_is_x, same_wx) ↦
                rw (x_is_y, w_is_x, ne_eqb w y (λ e. differ_xy (sym same_wx ∙ e))) (omega arith)
            | inr (w_is_x, differ_wx) ↦ rw (x_is_y, w_is_x) (omega (arith, at_most_one (w == y)))
          ]
    ]

-- ---- From a position on.

-- one more position, if the words are equal there and if they differ
pub differences_from : (xs ys : List ℕ) (i : ℕ) → length xs ≡ length ys → i < length xs
    → differences (drop i xs) (drop i ys)
    ≡ cond (get_or xs i 0 == get_or ys i 0) 0 1 + differences (drop (suc i) xs) (drop (suc i) ys)
unfolding differences
differences_from [] ys i size lt = absurd (omega arith)
differences_from (x ∷ xs) [] i size lt = absurd (omega arith)
differences_from (x ∷ xs) (y ∷ ys) zero size lt = refl
differences_from (x ∷ xs) (y ∷ ys) (suc i) size lt = differences_from xs ys i (omega arith) (omega arith)

pub differences_equal_from : (xs ys : List ℕ) (i : ℕ) → length xs ≡ length ys → i < length xs
    → get_or xs i 0 ≡ get_or ys i 0
    → differences (drop i xs) (drop i ys) ≡ differences (drop (i + 1) xs) (drop (i + 1) ys)
differences_equal_from xs ys i size lt equal =
    let step = differences_from xs ys i size lt in
    let rest = rw (eq-eqb (get_or xs i 0) (get_or ys i 0) equal) at step in
    rw add-one (omega arith)

pub differences_other_from : (xs ys : List ℕ) (i : ℕ) → length xs ≡ length ys → i < length xs
    → get_or xs i 0 ≢ get_or ys i 0
    → differences (drop i xs) (drop i ys) ≡ suc (differences (drop (i + 1) xs) (drop (i + 1) ys))
differences_other_from xs ys i size lt differ =
    let step = differences_from xs ys i size lt in
    let rest = rw (ne_eqb (get_or xs i 0) (get_or ys i 0) differ) at step in
    rw add-one (omega arith)

pub nothing_from : (xs ys : List ℕ) (i : ℕ) → length xs ≡ i → length ys ≡ i
    → differences (drop i xs) (drop i ys) ≡ 0
unfolding differences
nothing_from xs ys i x_size y_size =
    ap₂ differences (drop_all i xs (omega (arith, x_size))) (drop_all i ys (omega (arith, y_size)))

-- ---- Up to a position.

equally_wrong_more : (xs ys ws : List ℕ) (i : ℕ) → length xs ≡ length ys → length xs ≡ length ws
    → i < length xs
    → equally_wrong (take (suc i) xs) (take (suc i) ys) (take (suc i) ws)
    ≡ equally_wrong (take i xs) (take i ys) (take i ws)
    + cond (get_or xs i 0 == get_or ys i 0) (cond (get_or xs i 0 == get_or ws i 0) 0 1) 0
unfolding equally_wrong
equally_wrong_more [] ys ws i y_size w_size lt = absurd (omega arith)
equally_wrong_more (x ∷ xs) [] ws i y_size w_size lt = absurd (omega arith)
equally_wrong_more (x ∷ xs) (y ∷ ys) [] i y_size w_size lt = absurd (omega arith)
equally_wrong_more (x ∷ xs) (y ∷ ys) (w ∷ ws) zero y_size w_size lt = omega arith
equally_wrong_more (x ∷ xs) (y ∷ ys) (w ∷ ws) (suc i) y_size w_size lt =
    let rest = equally_wrong_more xs ys ws i (omega arith) (omega arith) (omega arith) in
    omega arith

-- the number of symbols against a word, up to a position
abbrev pub penalty_to : ℕ → List ℕ → List ℕ → List ℕ → ℕ
penalty_to i xs ys ws =
    2 * equally_wrong (take i xs) (take i ys) (take i ws) + differences (take i xs) (take i ys)

pub no_penalty : 0 ≡ 2 * equally_wrong [] [] [] + differences [] []
unfolding equally_wrong differences
no_penalty = refl

pub penalty_differ : (xs ys ws : List ℕ) (i : ℕ) → length xs ≡ length ys → length xs ≡ length ws
    → i < length xs → get_or xs i 0 ≢ get_or ys i 0
    → penalty_to (i + 1) xs ys ws ≡ penalty_to i xs ys ws + 1
penalty_differ xs ys ws i y_size w_size lt differ =
    let step = equally_wrong_more xs ys ws i y_size w_size lt in
    let rest = rw (ne_eqb (get_or xs i 0) (get_or ys i 0) differ) at step in
    let count = differences_other_more xs ys i y_size lt differ in
    rw add-one (let same = rw add-one at count in omega arith)

pub penalty_wrong : (xs ys ws : List ℕ) (i : ℕ) → length xs ≡ length ys → length xs ≡ length ws
    → i < length xs
    → get_or xs i 0 ≡ get_or ys i 0 → get_or xs i 0 ≢ get_or ws i 0
    → penalty_to (i + 1) xs ys ws ≡ penalty_to i xs ys ws + 2
penalty_wrong xs ys ws i y_size w_size lt equal wrong =
    let step = equally_wrong_more xs ys ws i y_size w_size lt in
    let rest =
    rw (eq-eqb (get_or xs i 0) (get_or ys i 0) equal, ne_eqb (get_or xs i 0) (get_or ws i 0) wrong) at step in
    let count = differences_same_more xs ys i y_size lt equal in
    rw add-one (let same = rw add-one at count in omega arith)

pub penalty_right : (xs ys ws : List ℕ) (i : ℕ) → length xs ≡ length ys → length xs ≡ length ws
    → i < length xs
    → get_or xs i 0 ≡ get_or ys i 0 → get_or xs i 0 ≡ get_or ws i 0
    → penalty_to (i + 1) xs ys ws ≡ penalty_to i xs ys ws
penalty_right xs ys ws i y_size w_size lt equal right =
    let step = equally_wrong_more xs ys ws i y_size w_size lt in
    let rest =
    rw (eq-eqb (get_or xs i 0) (get_or ys i 0) equal, eq-eqb (get_or xs i 0) (get_or ws i 0) right) at step in
    let count = differences_same_more xs ys i y_size lt equal in
    rw add-one (let same = rw add-one at count in omega arith)

-- ---- Equal readings.

-- a near codeword is agreed for two equal readings
pub agreed_equal : (xs ys ws : List ℕ) → IsWord xs → xs ≡ ys → Reads xs ws → IsAgreed xs ys ws
agreed_equal xs ys ws x_word same reads =
    let size = x_word.size ∙ sym reads.is_codeword.is_word.size in
    let wrong : equally_wrong xs ys ws ≡ differences xs ws =
    ap (λ l. equally_wrong xs l ws) (sym same) ∙ equally_wrong_self xs ws size in
    let none : differences xs ys ≡ 0 = ap (differences xs) (sym same) ∙ differences_self xs in
    record { is_codeword = reads.is_codeword; few = omega (arith, wrong, none, reads.is_near) }

pub reads_agreed : (xs ys ws : List ℕ) → IsWord xs → xs ≡ ys → IsAgreed xs ys ws → Reads xs ws
reads_agreed xs ys ws x_word same agreed =
    let size = x_word.size ∙ sym agreed.is_codeword.is_word.size in
    let wrong : equally_wrong xs ys ws ≡ differences xs ws =
    ap (λ l. equally_wrong xs l ws) (sym same) ∙ equally_wrong_self xs ws size in
    record { is_codeword = agreed.is_codeword; is_near = omega (arith, wrong, agreed.few) }

-- ---- A reading of which a codeword differs only where it differs from the other reading.

wrong_nowhere : (x y : ℕ) → ◌≡◌ {A = ℕ} (cond (x == y) (cond (x == x) 0 1) 0) 0
wrong_nowhere x y =
    rw (eq-eqb x x refl)
    (elim (eqb_tells x y) [ inl same ↦ rw (same.0) (omega arith) | inr other ↦ rw (other.0) (omega arith) ])

wrong_neither : (x y : ℕ) → ◌≡◌ {A = ℕ} (cond (x == y) (cond (x == y) 0 1) 0) 0
wrong_neither x y =
    elim (eqb_tells x y) [ inl same ↦ rw (same.0) (omega arith) | inr other ↦ rw (other.0) (omega arith) ]

wrong_of_first : (xs ys : List ℕ) → equally_wrong xs ys xs ≡ 0
unfolding equally_wrong
wrong_of_first [] ys = refl
wrong_of_first (x ∷ xs) [] = refl
wrong_of_first (x ∷ xs) (y ∷ ys) = ap₂ (λ m n. m + n) (wrong_nowhere x y) (wrong_of_first xs ys)

wrong_of_second : (xs ys : List ℕ) → equally_wrong xs ys ys ≡ 0
unfolding equally_wrong
wrong_of_second [] ys = refl
wrong_of_second (x ∷ xs) [] = refl
wrong_of_second (x ∷ xs) (y ∷ ys) = ap₂ (λ m n. m + n) (wrong_neither x y) (wrong_of_second xs ys)

pub first_agreed : (xs ys : List ℕ) → IsCodeword xs → differences xs ys ≤ 4 → IsAgreed xs ys xs
first_agreed xs ys codeword few =
    record { is_codeword = codeword; few = omega (arith, few, wrong_of_first xs ys) }

pub second_agreed : (xs ys : List ℕ) → IsCodeword ys → differences xs ys ≤ 4 → IsAgreed xs ys ys
second_agreed xs ys codeword few =
    record { is_codeword = codeword; few = omega (arith, few, wrong_of_second xs ys) }
