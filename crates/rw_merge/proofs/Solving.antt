-- The errors between a word and a codeword, and the word with corrected errors.
use Rattle.std.proofs.Common.{◌≡◌, ◌≢◌, ℕ, zero, suc, ◌*◌, ◌<◌, List, [], ◌∷◌, length, get_or, set, bit_xor, refl, sym, ap, ap₂, ◌∙◌, subst, inl, inr, arith}
use Rattle.std.specs.Int.Bits.{xor_self, xor_zero_r}
use Rattle.std.proofs.lemmas.Nat.{xor_lt}
use Rattle.std.proofs.lemmas.Bool.{cases_eq}
use Rattle.std.proofs.lemmas.List.{get_or-set_same, get_or-set_other, length-set, ext_get_or}
use Rattle.gf64.specs.Field.{product, alpha_power}
use Rattle.gf64.proofs.FieldLaws.{product-sum, sum_cancel, sum_swap, sum_twice}
use Rattle.rw_code.specs.Codeword.{IsWord, IsCodeword, weighted_sum}
use Rattle.rw_merge.specs.Elimination.{ArePlacedErrors, AreFirstSums}
use Rattle.rw_merge.specs.Places.{AreEqualOutside}
use Rattle.rw_merge.specs.declared.elimination.WordSums.{WordSums}

-- the sum of both symbols at each position
unfoldable pub gaps : List ℕ → List ℕ → List ℕ
gaps [] ys = []
gaps (x ∷ xs) [] = []
gaps (x ∷ xs) (y ∷ ys) = bit_xor x y ∷ gaps xs ys

length-gaps : (xs ys : List ℕ) → length xs ≡ length ys → length (gaps xs ys) ≡ length xs
unfolding gaps
length-gaps [] ys same = refl
length-gaps (x ∷ xs) [] same = absurd (omega arith)
length-gaps (x ∷ xs) (y ∷ ys) same = ap suc (length-gaps xs ys (omega arith))

get_or-gaps : (xs ys : List ℕ) (i d : ℕ) → length xs ≡ length ys → i < length xs
    → get_or (gaps xs ys) i d ≡ bit_xor (get_or xs i d) (get_or ys i d)
unfolding gaps
get_or-gaps [] ys i d same lt = absurd (omega arith)
get_or-gaps (x ∷ xs) [] i d same lt = absurd (omega arith)
get_or-gaps (x ∷ xs) (y ∷ ys) zero d same lt = refl
get_or-gaps (x ∷ xs) (y ∷ ys) (suc i) d same lt = get_or-gaps xs ys i d (omega arith) (omega arith)

weighted_sum-gaps : (j : ℕ) (xs ys : List ℕ) → length xs ≡ length ys
    → weighted_sum j (gaps xs ys) ≡ bit_xor (weighted_sum j xs) (weighted_sum j ys)
unfolding gaps weighted_sum
weighted_sum-gaps j [] [] same = refl
weighted_sum-gaps j [] (y ∷ ys) same = absurd (omega arith)
weighted_sum-gaps j (x ∷ xs) [] same = absurd (omega arith)
weighted_sum-gaps j (x ∷ xs) (y ∷ ys) same =
    let sizes : length xs ≡ length ys = omega arith in
    let a = alpha_power (j * length xs) in
    ap₂ (λ n s. bit_xor (product (alpha_power (j * n)) (bit_xor x y)) s) (length-gaps xs ys sizes)
    (weighted_sum-gaps j xs ys sizes)
    ∙ ap (λ n. bit_xor n (bit_xor (weighted_sum j xs) (weighted_sum j ys))) (product-sum a x y)
    ∙ sum_swap (product a x) (product a y) (weighted_sum j xs) (weighted_sum j ys)
    ∙ ap (λ (n : ℕ). bit_xor (bit_xor (product a x) (weighted_sum j xs))
    (bit_xor (product (alpha_power (j * n)) y) (weighted_sum j ys))) sizes

gaps_word : (xs ys : List ℕ) → IsWord xs → IsWord ys → IsWord (gaps xs ys)
gaps_word xs ys x_word y_word =
    let same : length xs ≡ length ys = x_word.size ∙ sym y_word.size in
    let size : length (gaps xs ys) ≡ 24 = length-gaps xs ys same ∙ x_word.size in
    record {
      size = size;
      symbols = λ k d lt.
          subst (λ n. n < 64) (sym (get_or-gaps xs ys k d same (omega (arith, x_word.size))))
          (xor_lt 6 _ _ (x_word.symbols k d (omega (arith, x_word.size)))
          (y_word.symbols k d (omega (arith, y_word.size))));
    }

pub gap_at : (xs ws : List ℕ) (i : ℕ) → IsWord xs → IsWord ws → i < 24
    → get_or (gaps xs ws) i 0 ≡ bit_xor (get_or xs i 0) (get_or ws i 0)
gap_at xs ws i x_word w_word lt =
    get_or-gaps xs ws i 0 (x_word.size ∙ sym w_word.size) (omega (arith, x_word.size))

-- The errors of a word, if a codeword equals it outside of some positions.
pub errors_of : (sums : WordSums) (places xs ws : List ℕ) → IsWord xs → IsCodeword ws → AreFirstSums 4 xs sums
    → AreEqualOutside places xs ws
    → ArePlacedErrors sums places (gaps xs ws)
errors_of sums places xs ws x_word is_codeword are equal =
    let w_word = is_codeword.is_word in
    let same : (j : ℕ) → j < 4 → weighted_sum j xs ≡ weighted_sum j (gaps xs ws) =
    λ j lt. sym (weighted_sum-gaps j xs ws (x_word.size ∙ sym w_word.size)
    ∙ ap (bit_xor (weighted_sum j xs)) (is_codeword.whole j lt)
    ∙ xor_zero_r (weighted_sum j xs)) in
    record {
      is_word = gaps_word xs ws x_word w_word;
      have_sums = record {
        zeroth = λ lt. are.zeroth lt ∙ same 0 (omega arith);
        first = λ lt. are.first lt ∙ same 1 (omega arith);
        second = λ lt. are.second lt ∙ same 2 (omega arith);
        third = λ lt. are.third lt ∙ same 3 (omega arith);
      };
      outside =
          λ i lt out. gap_at xs ws i x_word w_word lt
          ∙ ap (λ n. bit_xor n (get_or ws i 0)) (equal i lt out)
          ∙ xor_self (get_or ws i 0);
    }

-- And the other way round.
pub equal_from_errors : (sums : WordSums) (places xs ws : List ℕ) → IsWord xs → IsWord ws
    → ArePlacedErrors sums places (gaps xs ws)
    → AreEqualOutside places xs ws
equal_from_errors sums places xs ws x_word w_word are i lt out =
    sum_cancel (get_or xs i 0) (get_or ws i 0) (sym (gap_at xs ws i x_word w_word lt) ∙ are.outside i lt out)

-- a symbol is corrected, so one position fewer is wrong
pub put_right : (xs ws new places : List ℕ) (p e : ℕ) → length xs ≡ 24 → p < 24
    → AreEqualOutside (p ∷ places) xs ws → e ≡ bit_xor (get_or xs p 0) (get_or ws p 0)
    → new ≡ set xs p (bit_xor (get_or xs p 0) e) → (length new ≡ 24) × AreEqualOutside places new ws
put_right xs ws new places p e size lt equal e_is new_is =
    let v = bit_xor (get_or xs p 0) e in
    let right : v ≡ get_or ws p 0 =
    ap (bit_xor (get_or xs p 0)) e_is ∙ sum_twice (get_or xs p 0) (get_or ws p 0) in (
      ap length new_is ∙ length-set xs p v ∙ size,
      λ i i_lt out.
          ap (λ l. get_or l i 0) new_is ∙ elim (cases_eq i p) [
            | inl here ↦
                ap (λ n. get_or (set xs p v) n 0) here
                ∙ get_or-set_same xs p v 0 (omega (arith, size))
                ∙ right
                ∙ sym (ap (λ n. get_or ws n 0) here)
            | inr there ↦ get_or-set_other xs p i v 0 there ∙ equal i i_lt (there, out)
          ],
    )

-- no position is wrong
pub all_right : (xs ws : List ℕ) → length xs ≡ 24 → IsWord ws → AreEqualOutside [] xs ws → ws ≡ xs
all_right xs ws size w_word equal =
    sym (ext_get_or 0 xs ws (size ∙ sym w_word.size) (λ i lt. equal i (omega (arith, size)) tt))

-- the other symbols are unchanged
pub unmoved : (xs new : List ℕ) (p q v : ℕ) → q ≢ p → new ≡ set xs p v → get_or new q 0 ≡ get_or xs q 0
unmoved xs new p q v ne new_is = ap (λ l. get_or l q 0) new_is ∙ get_or-set_other xs p q v 0 ne
