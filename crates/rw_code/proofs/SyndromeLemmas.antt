-- The six sums from the table, in lanes of one number.
use Rattle.std.proofs.Common.{◌≡◌, ℕ, zero, suc, ◌+◌, ◌-◌, ◌*◌, ◌/◌, ◌%◌, ◌^◌, ◌<◌, Bool, true, ◌&&◌, ◌==◌, nat_lt, if◌then◌else◌, List, [], length, get_or, take, drop, bit_xor, refl, sym, ap, ap₂, ◌∙◌, subst, inl, inr, lit<, mod-lt, length-drop, arith}
use Rattle.std.proofs.Math.Nat.{zero-div}
use Rattle.std.proofs.lemmas.Bool.{and_parts, eqb-true, ltb-true, cases_lt, lt-ltb, le-ltb}
use Rattle.std.proofs.lemmas.List.{drop_more, get_or-take, drop_all, length-take}
use Rattle.std.proofs.lemmas.Nat.{xor_lt, xor_shr, xor_mod}
use Rattle.std.specs.Int.Bits.{xor_assoc, xor_self, xor_zero_l, xor_zero_r}
use Rattle.gf64.specs.Field.{product, alpha_power}
use Rattle.gf64.proofs.Tables.{all_below, all_below-at}
use Rattle.gf64.proofs.FieldLaws.{alpha_power-mod, times_power, times_power_is, sum_cancel}
use Rattle.rw_code.specs.declared.syndromes.TheConstants.{SYNDROMES}
use Rattle.rw_code.specs.Codeword.{IsWord, IsCodeword, weighted_sum}
use Rattle.rw_code.specs.Syndromes.{lane, AreSyndromes, IsEntry}
use Rattle.rw_code.proofs.SumLemmas.{weighted_sum_none}

-- ---- The table.

abbrev pub table_entry : ℕ → ℕ → ℕ
table_entry position symbol = get_or (get_or SYNDROMES position []) symbol 0

IsWholeLane : ℕ → ℕ → ℕ → Bool
IsWholeLane position symbol j =
    lane j (table_entry position symbol) == times_power (j * (23 - position) % 63) symbol

IsFirstLane : ℕ → ℕ → ℕ → Bool
IsFirstLane position symbol j =
    lane (4 + j) (table_entry position symbol)
    == (if nat_lt position 4 then times_power (j * (3 - position)) symbol else 0)

IsRight : ℕ → ℕ → Bool
IsRight position symbol =
    nat_lt (table_entry position symbol) (2 ^ 36)
    && (all_below (IsWholeLane position symbol) 4 && all_below (IsFirstLane position symbol) 2)

test_entries : all_below (λ position. all_below (IsRight position) 64) 24 ≡ true
unfolding all_below IsRight IsWholeLane IsFirstLane lane times_power
test_entries = refl

small_exponent : (j position : ℕ) → j < 2 → j * (3 - position) < 63
small_exponent zero position lt = omega arith
small_exponent (suc zero) position lt = omega arith
small_exponent (suc (suc j)) position lt = absurd (omega arith)

pub four_size : (word : List ℕ) → length word ≡ 24 → length (take 4 word) ≡ 4
four_size word size = length-take 4 word ∙ omega (arith, size)

-- the entry of the table for a symbol at a position
pub entry_is : (position symbol found : ℕ) → position < 24 → symbol < 64
    → found ≡ get_or (get_or SYNDROMES position []) symbol 0
    → IsEntry position symbol found
unfolding IsRight IsWholeLane IsFirstLane
entry_is position symbol found position_lt symbol_lt found_is =
    let row =
    all_below-at (λ position. all_below (IsRight position) 64) 24 position test_entries position_lt in
    let right = all_below-at (IsRight position) 64 symbol row symbol_lt in
    let (bound, lanes) =
    and_parts (nat_lt (table_entry position symbol) (2 ^ 36))
    (all_below (IsWholeLane position symbol) 4 && all_below (IsFirstLane position symbol) 2) right in
    let (whole, first) =
    and_parts (all_below (IsWholeLane position symbol) 4) (all_below (IsFirstLane position symbol) 2) lanes in
    record {
      whole = λ j lt.
          ap (lane j) found_is ∙ eqb-true _ _ (all_below-at (IsWholeLane position symbol) 4 j whole lt)
          ∙ times_power_is (j * (23 - position) % 63) symbol (mod-lt (j * (23 - position)) (lit< tt))
          symbol_lt
          ∙ ap (λ n. product n symbol) (alpha_power-mod (j * (23 - position)));
      first_four = λ j lt early.
          ap (lane (4 + j)) found_is ∙ eqb-true _ _ (all_below-at (IsFirstLane position symbol) 2 j first lt)
          ∙ ap (λ (b : Bool). if b then times_power (j * (3 - position)) symbol else 0)
          (lt-ltb position 4 early)
          ∙ times_power_is (j * (3 - position)) symbol (small_exponent j position lt) symbol_lt;
      later = λ j lt late.
          ap (lane (4 + j)) found_is ∙ eqb-true _ _ (all_below-at (IsFirstLane position symbol) 2 j first lt)
          ∙ ap (λ (b : Bool). if b then times_power (j * (3 - position)) symbol else 0)
          (le-ltb position 4 late);
      bound = subst (λ n. n < 2 ^ 36) (sym found_is) (ltb-true _ _ bound);
    }

pub table_entry_is : (position symbol : ℕ) → position < 24 → symbol < 64
    → IsEntry position symbol (table_entry position symbol)
table_entry_is position symbol position_lt symbol_lt =
    entry_is position symbol (table_entry position symbol) position_lt symbol_lt refl

-- ---- The lanes of a sum.

pub lane-xor : (j a b : ℕ) → lane j (bit_xor a b) ≡ bit_xor (lane j a) (lane j b)
unfolding lane
lane-xor j a b = ap (λ n. n % 2 ^ 6) (xor_shr a b (6 * j)) ∙ xor_mod (a / 2 ^ (6 * j)) (b / 2 ^ (6 * j)) 6

lane_zero : (j : ℕ) → lane j 0 ≡ 0
unfolding lane
lane_zero j = ap (λ n. n % 2 ^ 6) (zero-div (2 ^ (6 * j)))

pub lane-lt : (j lanes : ℕ) → lane j lanes < 64
unfolding lane
lane-lt j lanes = mod-lt (lanes / 2 ^ (6 * j)) (lit< tt)

-- six lanes of zeros
all_zero : (lanes : ℕ) → lanes < 2 ^ 36 → ((j : ℕ) → j < 6 → lane j lanes ≡ 0) → lanes ≡ 0
unfolding lane
all_zero lanes bound none =
    let at_0 : lanes / 1 % 64 ≡ 0 = none 0 (lit< tt) in
    let at_1 : lanes / 64 % 64 ≡ 0 = none 1 (lit< tt) in
    let at_2 : lanes / 4096 % 64 ≡ 0 = none 2 (lit< tt) in
    let at_3 : lanes / 262144 % 64 ≡ 0 = none 3 (lit< tt) in
    let at_4 : lanes / 16777216 % 64 ≡ 0 = none 4 (lit< tt) in
    let at_5 : lanes / 1073741824 % 64 ≡ 0 = none 5 (lit< tt) in
    let below : lanes < 68719476736 = bound in
    omega arith

-- a symbol at a position has only one entry
pub only_entry : (position symbol one other : ℕ) → IsEntry position symbol one → IsEntry position symbol other
    → one ≡ other
only_entry position symbol one other one_is other_is =
    let none : (j : ℕ) → j < 6 → lane j one ≡ lane j other =
    λ j lt. elim (cases_lt j 4) [
      | inl early ↦ one_is.whole j early ∙ sym (other_is.whole j early)
      | inr late ↦
          let place : 4 + (j - 4) ≡ j = omega arith in
          let lane_lt : j - 4 < 2 = omega arith in
          let same : lane (4 + (j - 4)) one ≡ lane (4 + (j - 4)) other =
          elim (cases_lt position 4) [
            | inl first ↦
                one_is.first_four (j - 4) lane_lt first ∙ sym (other_is.first_four (j - 4) lane_lt first)
            | inr later ↦ one_is.later (j - 4) lane_lt later ∙ sym (other_is.later (j - 4) lane_lt later)
          ] in
          ap (λ n. lane n one) (sym place) ∙ same ∙ ap (λ n. lane n other) place
    ] in
    sum_cancel one other
    (all_zero (bit_xor one other) (xor_lt 36 one other one_is.bound other_is.bound)
    (λ j lt. lane-xor j one other ∙ ap (λ n. bit_xor n (lane j other)) (none j lt) ∙ xor_self (lane j other)))

-- ---- One pass over a word.

-- the lanes of the symbols before place i: together with the sums of the others, they are the sums of the word
pub record IsPart (word : List ℕ) (i lanes : ℕ) : Type 0 where
  pub whole : (j : ℕ) → j < 4 → bit_xor (lane j lanes) (weighted_sum j (drop i word)) ≡ weighted_sum j word
  pub first_four : (j : ℕ) → j < 2
      → bit_xor (lane (4 + j) lanes) (weighted_sum j (drop i (take 4 word))) ≡ weighted_sum j (take 4 word)
  pub bound : lanes < 2 ^ 36

pub part_none : (word : List ℕ) → IsPart word 0 0
part_none word = record {
  whole = λ j lt. ap (λ n. bit_xor n (weighted_sum j word)) (lane_zero j) ∙ xor_zero_l (weighted_sum j word);
  first_four =
      λ j lt. ap (λ n. bit_xor n (weighted_sum j (take 4 word))) (lane_zero (4 + j))
      ∙ xor_zero_l (weighted_sum j (take 4 word));
  bound = lit< tt;
}

taken : (j : ℕ) (xs : List ℕ) (i k total part : ℕ) → i + suc k ≡ length xs
    → part ≡ product (alpha_power (j * k)) (get_or xs i 0)
    → bit_xor total (weighted_sum j (drop i xs)) ≡ weighted_sum j xs
    → bit_xor (bit_xor total part) (weighted_sum j (drop (i + 1) xs)) ≡ weighted_sum j xs
unfolding weighted_sum
taken j xs i k total part place part_is so_far =
    let rest = drop (i + 1) xs in
    let left : length rest ≡ k = length-drop (i + 1) xs ∙ omega arith in
    let one : weighted_sum j (drop i xs) ≡ bit_xor part (weighted_sum j rest) =
    ap (weighted_sum j) (drop_more xs i 0 (omega arith))
    ∙ ap (λ n. bit_xor n (weighted_sum j rest))
    (ap (λ n. product (alpha_power (j * n)) (get_or xs i 0)) left ∙ sym part_is) in
    xor_assoc total part (weighted_sum j rest) ∙ ap (bit_xor total) (sym one) ∙ so_far

pub part_more : (word : List ℕ) (i lanes part new : ℕ) → IsWord word → i < 24 → IsPart word i lanes
    → IsEntry i (get_or word i 0) part → new ≡ bit_xor lanes part
    → IsPart word (i + 1) new
part_more word i lanes part new is_word lt so_far is new_is =
    record {
      whole = λ j j_lt.
          ap (λ n. bit_xor (lane j n) (weighted_sum j (drop (i + 1) word))) new_is
          ∙ ap (λ n. bit_xor n (weighted_sum j (drop (i + 1) word))) (lane-xor j lanes part)
          ∙ taken j word i (23 - i) (lane j lanes) (lane j part) (omega (arith, is_word.size))
          (is.whole j j_lt) (so_far.whole j j_lt);
      first_four = λ j j_lt.
          ap (λ n. bit_xor (lane (4 + j) n) (weighted_sum j (drop (i + 1) (take 4 word)))) new_is
          ∙ ap (λ n. bit_xor n (weighted_sum j (drop (i + 1) (take 4 word)))) (lane-xor (4 + j) lanes part)
          ∙ elim (cases_lt i 4) [
            | inl early ↦
                taken j (take 4 word) i (3 - i) (lane (4 + j) lanes) (lane (4 + j) part)
                (omega (arith, four_size word is_word.size))
                (is.first_four j j_lt early
                ∙ ap (product (alpha_power (j * (3 - i)))) (sym (get_or-take 4 word i 0 early)))
                (so_far.first_four j j_lt)
            | inr late ↦
                let drop_this = drop_all i (take 4 word) (omega (arith, four_size word is_word.size)) in
                let drop_next = drop_all (i + 1) (take 4 word) (omega (arith, four_size word is_word.size)) in
                ap₂ (λ (n : ℕ) (xs : List ℕ). bit_xor (bit_xor (lane (4 + j) lanes) n) (weighted_sum j xs))
                (is.later j j_lt late) (drop_next ∙ sym drop_this)
                ∙ ap (λ n. bit_xor n (weighted_sum j (drop i (take 4 word))))
                (xor_zero_r (lane (4 + j) lanes))
                ∙ so_far.first_four j j_lt
          ];
      bound = subst (λ n. n < 2 ^ 36) (sym new_is) (xor_lt 36 lanes part so_far.bound is.bound);
    }

pub part_all : (word : List ℕ) (lanes : ℕ) → IsWord word → IsPart word 24 lanes → AreSyndromes word lanes
part_all word lanes is_word all = record {
  whole =
      λ j lt. sym (xor_zero_r (lane j lanes))
      ∙ ap (bit_xor (lane j lanes))
      (sym (ap (weighted_sum j) (drop_all 24 word (omega (arith, is_word.size))) ∙ weighted_sum_none j))
      ∙ all.whole j lt;
  first_four = λ j lt.
      sym (xor_zero_r (lane (4 + j) lanes))
      ∙ ap (bit_xor (lane (4 + j) lanes)) (sym (ap (weighted_sum j)
      (drop_all 24 (take 4 word) (omega (arith, four_size word is_word.size)))
      ∙ weighted_sum_none j))
      ∙ all.first_four j lt;
  bound = all.bound;
}

-- ---- Whether all are 0.

pub codeword_of_zero : (word : List ℕ) (lanes : ℕ) → IsWord word → AreSyndromes word lanes → lanes ≡ 0
    → IsCodeword word
codeword_of_zero word lanes is_word are none = record {
  is_word = is_word;
  whole = λ j lt. sym (are.whole j lt) ∙ ap (lane j) none ∙ lane_zero j;
  first_four = λ j lt. sym (are.first_four j lt) ∙ ap (lane (4 + j)) none ∙ lane_zero (4 + j);
}

pub zero_of_codeword : (word : List ℕ) (lanes : ℕ) → AreSyndromes word lanes → IsCodeword word → lanes ≡ 0
zero_of_codeword word lanes are is =
    all_zero lanes are.bound
    (λ j lt. elim (cases_lt j 4) [
      | inl early ↦ are.whole j early ∙ is.whole j early
      | inr late ↦
          let place : 4 + (j - 4) ≡ j = omega arith in
          ap (λ n. lane n lanes) (sym place)
          ∙ are.first_four (j - 4) (omega arith)
          ∙ is.first_four (j - 4) (omega arith)
    ])
