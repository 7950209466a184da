-- All symbols have a codeword.
use Rattle.std.proofs.Common.{◌≡◌, ℕ, suc, ◌<◌, List, [], ◌∷◌, ◌++◌, length, take, bit_xor, refl, sym, ap, ◌∙◌, subst, append_assoc, length-append, arith, All}
use Rattle.std.proofs.lemmas.Nat.{xor_lt}
use Rattle.std.proofs.lemmas.List.{append-nil}
use Rattle.std.proofs.lemmas.List.Elements.{All-cons, All-nil, All-append}
use Rattle.std.proofs.Math.Seq.{take-append_seam}
use Rattle.gf64.specs.Field.{product, alpha_power}
use Rattle.gf64.proofs.FieldLaws.{product-lt}
use Rattle.rw_code.specs.Codeword.{IsCodeword, weighted_sum}
use Rattle.rw_code.proofs.CodewordLemmas.{zero_sums}
use Rattle.rw_code.proofs.Parity.{first_continues, whole_continues}
use Rattle.cdg_instructions.specs.Instruction.{message_of}

abbrev Symbol : ℕ → Type 0
Symbol n = n < 64

sum_below : (a b : ℕ) → a < 64 → b < 64 → bit_xor a b < 64
sum_below a b a_lt b_lt = xor_lt 6 a b a_lt b_lt

-- two parity symbols behind some symbols, which make the first sums 0
record HasTwo (xs : List ℕ) : Type 0 where
  high : ℕ
  low : ℕ
  high_below : high < 64
  low_below : low < 64
  sums : (j : ℕ) → j < 2 → weighted_sum j (xs ++ high ∷ low ∷ []) ≡ 0

record HasFour (xs : List ℕ) : Type 0 where
  first : ℕ
  second : ℕ
  third : ℕ
  fourth : ℕ
  first_below : first < 64
  second_below : second < 64
  third_below : third < 64
  fourth_below : fourth < 64
  sums : (j : ℕ) → j < 4 → weighted_sum j (xs ++ first ∷ second ∷ third ∷ fourth ∷ []) ≡ 0

two_more : (xs : List ℕ) (symbol : ℕ) → symbol < 64 → HasTwo xs → HasTwo (xs ++ symbol ∷ [])
two_more xs symbol symbol_lt h =
    let f : ℕ = bit_xor h.high symbol in
    let f_lt : f < 64 = sum_below h.high symbol h.high_below symbol_lt in
    record {
      high = bit_xor h.low (product (alpha_power 6) f);
      low = product (alpha_power 1) f;
      high_below = sum_below h.low (product (alpha_power 6) f) h.low_below (product-lt (alpha_power 6) f);
      low_below = product-lt (alpha_power 1) f;
      sums =
          λ j lt. ap (weighted_sum j) (append_assoc xs (symbol ∷ []) _)
          ∙ first_continues h.high h.low symbol f refl f_lt j lt xs (h.sums j lt);
    }

four_more : (xs : List ℕ) (symbol : ℕ) → symbol < 64 → HasFour xs → HasFour (xs ++ symbol ∷ [])
four_more xs symbol symbol_lt h =
    let f : ℕ = bit_xor h.first symbol in
    let f_lt : f < 64 = sum_below h.first symbol h.first_below symbol_lt in
    record {
      first = bit_xor h.second (product (alpha_power 18) f);
      second = bit_xor h.third (product (alpha_power 39) f);
      third = bit_xor h.fourth (product (alpha_power 21) f);
      fourth = product (alpha_power 6) f;
      first_below =
          sum_below h.second (product (alpha_power 18) f) h.second_below (product-lt (alpha_power 18) f);
      second_below =
          sum_below h.third (product (alpha_power 39) f) h.third_below (product-lt (alpha_power 39) f);
      third_below =
          sum_below h.fourth (product (alpha_power 21) f) h.fourth_below (product-lt (alpha_power 21) f);
      fourth_below = product-lt (alpha_power 6) f;
      sums =
          λ j lt. ap (weighted_sum j) (append_assoc xs (symbol ∷ []) _)
          ∙ whole_continues h.first h.second h.third h.fourth symbol f refl f_lt j lt xs (h.sums j lt);
    }

four_after : (xs rest : List ℕ) → All Symbol rest → HasFour xs → HasFour (xs ++ rest)
four_after xs [] small h = subst HasFour (sym (append-nil xs)) h
four_after xs (x ∷ rest) small h =
    subst HasFour (append_assoc xs (x ∷ []) rest)
    (four_after (xs ++ x ∷ []) rest (λ k d lt. small (suc k) d (omega arith))
    (four_more xs x (small 0 0 (omega arith)) h))

four_small : (a b c d : ℕ) → a < 64 → b < 64 → c < 64 → d < 64 → All Symbol (a ∷ b ∷ c ∷ d ∷ [])
four_small a b c d a_lt b_lt c_lt d_lt =
    All-cons Symbol a (b ∷ c ∷ d ∷ []) a_lt (All-cons Symbol b (c ∷ d ∷ []) b_lt
    (All-cons Symbol c (d ∷ []) c_lt (All-cons Symbol d [] d_lt (All-nil Symbol))))

message_is : (a b high low : ℕ) (body tail : List ℕ) → length body ≡ 16
    → message_of ((a ∷ b ∷ high ∷ low ∷ []) ++ body ++ tail) ≡ a ∷ b ∷ body
message_is a b high low body tail size =
    ap (λ (xs : List ℕ). a ∷ b ∷ xs) (ap (λ k. take k (body ++ tail)) (sym size) ∙ take-append_seam body tail)

-- the codeword with these symbols at 0 and 1 and at 4 to 19
pub sealed_word : (a b : ℕ) (body : List ℕ) → a < 64 → b < 64 → length body ≡ 16 → All Symbol body
    → (word : List ℕ) × IsCodeword word × (message_of word ≡ a ∷ b ∷ body)
sealed_word a b body a_lt b_lt size small =
    let two : HasTwo (a ∷ b ∷ []) =
    two_more (a ∷ []) b b_lt (two_more [] a a_lt record {
      high = 0;
      low = 0;
      high_below = omega arith;
      low_below = omega arith;
      sums = λ j lt. zero_sums j 2;
    }) in
    let front : List ℕ = a ∷ b ∷ two.high ∷ two.low ∷ [] in
    let front_small : All Symbol front =
    four_small a b two.high two.low a_lt b_lt two.high_below two.low_below in
    let most : List ℕ = front ++ body in
    let most_small : All Symbol most = All-append Symbol front body front_small small in
    let four : HasFour most =
    four_after [] most most_small record {
      first = 0;
      second = 0;
      third = 0;
      fourth = 0;
      first_below = omega arith;
      second_below = omega arith;
      third_below = omega arith;
      fourth_below = omega arith;
      sums = λ j lt. zero_sums j 4;
    } in
    let tail : List ℕ = four.first ∷ four.second ∷ four.third ∷ four.fourth ∷ [] in
    let tail_small : All Symbol tail =
    four_small four.first four.second four.third four.fourth four.first_below four.second_below
    four.third_below four.fourth_below in (
      most ++ tail,
      record {
        is_word = record {
          size = omega (arith, length-append most tail, length-append front body);
          symbols = All-append Symbol most tail most_small tail_small;
        };
        whole = four.sums;
        first_four = two.sums;
      },
      message_is a b two.high two.low body tail size,
    )
