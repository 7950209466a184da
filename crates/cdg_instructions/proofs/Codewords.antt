-- Each message has a codeword.
use Rattle.std.proofs.Common.{◌≡◌, ℕ, ◌<◌, List, [], ◌∷◌, ◌++◌, length, take, append_assoc, bit_xor, refl, sym, ap, ◌∙◌, lit<, arith}
use Rattle.std.specs.List.{AllByRecursion}
use Rattle.std.proofs.lemmas.List.{length-append}
use Rattle.std.proofs.lemmas.List.Elements.{All-from_recursion}
use Rattle.std.proofs.lemmas.Nat.{xor_lt}
use Rattle.std.proofs.Math.Seq.{take-append_seam}
use Rattle.gf64.specs.Field.{product, alpha_power}
use Rattle.gf64.proofs.FieldLaws.{product-lt}
use Rattle.rw_code.specs.Codeword.{IsCodeword, weighted_sum}
use Rattle.rw_code.proofs.CodewordLemmas.{zero_sums}
use Rattle.rw_code.proofs.Parity.{first_continues, whole_continues}
use Rattle.cdg_instructions.specs.Instruction.{message_of}

abbrev pub AreSymbols : List ℕ → Type 0
AreSymbols symbols = AllByRecursion (λ s. s < 64) symbols

pub symbols-append : (xs ys : List ℕ) → AreSymbols xs → AreSymbols ys → AreSymbols (xs ++ ys)
symbols-append [] ys small small' = small'
symbols-append (x ∷ xs) ys small small' = (small.0, symbols-append xs ys small.1 small')

sum_below : (a b : ℕ) → a < 64 → b < 64 → bit_xor a b < 64
sum_below a b x y = xor_lt 6 a b x y

-- The two parity symbols after one more symbol, and the four parity symbols.
first_next : ℕ × ℕ → ℕ → ℕ × ℕ
first_next r s =
    (bit_xor r.1 (product (alpha_power 6) (bit_xor r.0 s)), product (alpha_power 1) (bit_xor r.0 s))

abbrev Register : Type 0
Register = ℕ × ℕ × ℕ × ℕ

whole_next : Register → ℕ → Register
whole_next r s = (
  bit_xor r.1 (product (alpha_power 18) (bit_xor r.0 s)),
  bit_xor r.2 (product (alpha_power 39) (bit_xor r.0 s)),
  bit_xor r.3 (product (alpha_power 21) (bit_xor r.0 s)),
  product (alpha_power 6) (bit_xor r.0 s),
)

abbrev listed : Register → List ℕ
listed r = r.0 ∷ r.1 ∷ r.2 ∷ r.3 ∷ []

whole_next-small : (r : Register) (s : ℕ) → AreSymbols (listed r) → s < 64
    → AreSymbols (listed (whole_next r s))
unfolding whole_next
whole_next-small r s small lt = (
  sum_below _ _ small.1.0 (product-lt _ _),
  (
    sum_below _ _ small.1.1.0 (product-lt _ _),
    (sum_below _ _ small.1.1.1.0 (product-lt _ _), (product-lt _ _, tt)),
  ),
)

-- the four parity symbols after some symbols
parity : Register → List ℕ → Register
parity r [] = r
parity r (s ∷ symbols) = parity (whole_next r s) symbols

parity-small : (r : Register) (symbols : List ℕ) → AreSymbols (listed r) → AreSymbols symbols
    → AreSymbols (listed (parity r symbols))
unfolding parity
parity-small r [] small all = small
parity-small r (s ∷ symbols) small all =
    parity-small (whole_next r s) symbols (whole_next-small r s small all.0) all.1

parity_sums : (j : ℕ) → j < 4 → (xs symbols : List ℕ) (r : Register) → AreSymbols (listed r)
    → AreSymbols symbols → weighted_sum j (xs ++ listed r) ≡ 0
    → weighted_sum j (xs ++ (symbols ++ listed (parity r symbols))) ≡ 0
unfolding parity whole_next
parity_sums j lt xs [] r small all none = none
parity_sums j lt xs (s ∷ symbols) r small all none =
    let f : ℕ = bit_xor r.0 s in
    let next : weighted_sum j (xs ++ s ∷ listed (whole_next r s)) ≡ 0 =
    whole_continues r.0 r.1 r.2 r.3 s f refl (sum_below r.0 s small.0 all.0) j lt xs none in
    let here : weighted_sum j ((xs ++ s ∷ []) ++ listed (whole_next r s)) ≡ 0 =
    ap (weighted_sum j) (append_assoc xs (s ∷ []) (listed (whole_next r s))) ∙ next in
    ap (weighted_sum j) (sym (append_assoc xs (s ∷ []) (symbols ++ listed (parity (whole_next r s) symbols))))
    ∙ parity_sums j lt (xs ++ s ∷ []) symbols (whole_next r s) (whole_next-small r s small all.0) all.1 here

abbrev zeros : Register
zeros = (0, 0, 0, 0)

zeros-small : AreSymbols (listed zeros)
zeros-small = (lit< tt, (lit< tt, (lit< tt, (lit< tt, tt))))

-- the two parity symbols of two symbols
head_parity : ℕ → ℕ → ℕ × ℕ
head_parity a b = first_next (first_next (0, 0) a) b

head_sums : (j a b : ℕ) → j < 2 → a < 64 → b < 64
    → weighted_sum j (a ∷ b ∷ (head_parity a b).0 ∷ (head_parity a b).1 ∷ []) ≡ 0
unfolding head_parity first_next
head_sums j a b lt x y =
    let once : ℕ × ℕ = first_next (0, 0) a in
    let first : weighted_sum j (a ∷ once.0 ∷ once.1 ∷ []) ≡ 0 =
    first_continues 0 0 a (bit_xor 0 a) refl (sum_below 0 a (lit< tt) x) j lt [] (zero_sums j 2) in
    first_continues once.0 once.1 b (bit_xor once.0 b) refl (sum_below once.0 b
    (sum_below 0 (product (alpha_power 6) (bit_xor 0 a)) (lit< tt) (product-lt (alpha_power 6) (bit_xor 0 a)))
    y) j lt (a ∷ []) first

head_small : (a b : ℕ) → a < 64 → b < 64 → ((head_parity a b).0 < 64) × ((head_parity a b).1 < 64)
unfolding head_parity first_next
head_small a b x y = (sum_below _ _ (product-lt _ _) (product-lt _ _), product-lt _ _)

-- a message with its parity symbols
sealed : ℕ → ℕ → List ℕ → List ℕ
sealed a b body =
    let first = a ∷ b ∷ (head_parity a b).0 ∷ (head_parity a b).1 ∷ body in
    first ++ listed (parity zeros first)

module _ (a b : ℕ) (body : List ℕ) (a_lt : a < 64) (b_lt : b < 64) (size : length body ≡ 16)
    (small : AreSymbols body) where
  first_small : AreSymbols (a ∷ b ∷ (head_parity a b).0 ∷ (head_parity a b).1 ∷ body)
  first_small = let p = head_small a b a_lt b_lt in (a_lt, (b_lt, (p.0, (p.1, small))))

  sealed_small : AreSymbols (sealed a b body)
  unfolding sealed
  sealed_small =
      let first : List ℕ = a ∷ b ∷ (head_parity a b).0 ∷ (head_parity a b).1 ∷ body in
      symbols-append first (listed (parity zeros first)) first_small
      (parity-small zeros first zeros-small first_small)

  sealed_size : length (sealed a b body) ≡ 24
  unfolding sealed
  sealed_size =
      let first : List ℕ = a ∷ b ∷ (head_parity a b).0 ∷ (head_parity a b).1 ∷ body in
      length-append first (listed (parity zeros first)) ∙ omega (arith, size)

  sealed_codeword : IsCodeword (sealed a b body)
  unfolding sealed
  sealed_codeword =
      let first : List ℕ = a ∷ b ∷ (head_parity a b).0 ∷ (head_parity a b).1 ∷ body in
      record {
        is_word = record {
          size = sealed_size;
          symbols = All-from_recursion (λ s. s < 64) (sealed a b body) sealed_small;
        };
        whole = λ j lt. parity_sums j lt [] first zeros zeros-small first_small (zero_sums j 4);
        first_four = λ j lt. head_sums j a b lt a_lt b_lt;
      }

  sealed_message : message_of (sealed a b body) ≡ a ∷ b ∷ body
  unfolding sealed
  sealed_message =
      let first : List ℕ = a ∷ b ∷ (head_parity a b).0 ∷ (head_parity a b).1 ∷ body in
      let rest : List ℕ = listed (parity zeros first) in
      ap (λ xs. a ∷ b ∷ xs) (ap (λ n. take n (body ++ rest)) (sym size) ∙ take-append_seam body rest)

-- every message of eighteen symbols has a codeword
pub has_codeword : (symbols : List ℕ) → length symbols ≡ 18 → AreSymbols symbols
    → (word : List ℕ) × IsCodeword word × (message_of word ≡ symbols)
has_codeword [] size small = absurd (omega (arith, size))
has_codeword (a ∷ []) size small = absurd (omega (arith, size))
has_codeword (a ∷ b ∷ body) size small =
    let count : length body ≡ 16 = omega (arith, size) in (
      sealed a b body,
      sealed_codeword a b body small.0 small.1.0 count small.1.1,
      sealed_message a b body small.0 small.1.0 count small.1.1,
    )
