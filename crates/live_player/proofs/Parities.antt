-- A word has valid parity if and only if it is a codeword.
use Rattle.std.proofs.Common.{◌≡◌, ◌≢◌, ◌<◌, ◌%◌, ◌&&◌, ◌==◌, ◌∙◌, if◌then◌else◌, Bool, false, ℕ, List, arith, length, map, take, Decides, ap, refl}
use Rattle.std.proofs.lemmas.Bool.Decides.{Decides-and, Decides-below_and, Decides-eqb, Decides-like, nat_tests, same_from_decides}
use Rattle.std.proofs.lemmas.List.{length-map}
use Rattle.std.proofs.lemmas.List.Elements.{All-map}
use Rattle.rw_code.specs.Codeword.{IsCodeword, IsWord, weighted_sum}
use Rattle.rw_code.specs.Finding.{are_zero_sums}

sums_decided : (word : List ℕ) (n : ℕ)
    → Decides (are_zero_sums word n) ((j : ℕ) → j < n → weighted_sum j word ≡ 0)
unfolding are_zero_sums
sums_decided word n =
    Decides-below_and (λ j. weighted_sum j word == 0) (λ j. weighted_sum j word ≡ 0) (are_zero_sums word)
    (λ j. Decides-eqb (weighted_sum j word) 0) refl (λ _. refl) n

-- the six sums of a word decide whether it is a codeword
pub parity_decided : (word : List ℕ) → IsWord word
    → Decides (are_zero_sums word 4 && are_zero_sums (take 4 word) 2) (IsCodeword word)
parity_decided word is =
    let whole = sums_decided word 4 in
    let first_four = sums_decided (take 4 word) 2 in
    Decides-like _
    (λ p. record { is_word = is; whole = p.0; first_four = p.1 })
    (λ code. (code.whole, code.first_four))
    (Decides-and _ _ whole first_four)

-- the low six bits of 24 bytes are a word
pub pack_is_word : (pack : List ℕ) → length pack ≡ 24 → IsWord (map (λ byte. byte % 64) pack)
pack_is_word pack size = record {
  size = length-map pack (λ byte. byte % 64) ∙ size;
  symbols = All-map (λ symbol. symbol < 64) (λ byte. byte % 64) pack (λ k d lt. omega arith);
}

not_none : (n : ℕ) (b : Bool) → n ≢ 0 → b ≡ (if n == 0 then false else b)
not_none n b other = grind (arith, nat_tests)

-- if a word differs from another one, its sums agree with each test that decides whether it is a codeword
pub reported_by_sums : (word symbols : List ℕ) (reported : Bool) (different : ℕ) → word ≡ symbols
    → IsWord word
    → Decides reported (IsCodeword word) → different ≢ 0
    → reported
    ≡ (if different == 0 then false else are_zero_sums symbols 4 && are_zero_sums (take 4 symbols) 2)
reported_by_sums word symbols reported different same is decides other =
    same_from_decides _ _ decides (parity_decided word is)
    ∙ ap (λ (w : List ℕ). are_zero_sums w 4 && are_zero_sums (take 4 w) 2) same
    ∙ not_none different _ other
