-- Pixels in pairs.
use Rattle.std.proofs.Common.{◌≡◌, ◌+◌, ◌*◌, ◌/◌, ◌%◌, ◌<◌, ◌≤◌, ℕ, suc, List, [], ◌∷◌, length, get_or, ap, refl, ◌∙◌, sym, inl, inr, arith}
use Rattle.std.proofs.Math.Nat.{mul_assoc, mul_left_comm}
use Rattle.std.proofs.lemmas.Bool.{cases_lt}
use Rattle.live_player.specs.Formats.{AreFirstBytes, AreFirstPairs, ArePairs}

twice : (size m i : ℕ) → m ≡ 2 * i → size * m ≡ 2 * size * i
twice size m i is = ap (λ n. size * n) is ∙ mul_left_comm size 2 i ∙ sym (mul_assoc 2 size i)

-- the bytes of both pixels of a pair
pub of_pair : (size : ℕ) (table : List (List ℕ)) (entry : List ℕ) (p q n k : ℕ) → p < 16 → q < 16
    → n ≡ p + 16 * q
    → k < size
    → AreFirstBytes size 2 (n % 16 ∷ n / 16 ∷ []) table entry
    → (get_or entry k 0 ≡ get_or (get_or table p []) k 0)
    × (get_or entry (size + k) 0 ≡ get_or (get_or table q []) k 0)
of_pair size table entry p q n k p_lt q_lt n_is k_lt bytes =
    let low : n % 16 ≡ p = omega (arith, n_is, p_lt) in
    let high : n / 16 ≡ q = omega (arith, n_is, p_lt) in (
      ap (λ m. get_or entry m 0) (omega arith)
          ∙ bytes 0 k (omega arith) k_lt
          ∙ ap (λ m. get_or (get_or table m []) k 0) low,
      ap (λ m. get_or entry m 0) (omega arith)
          ∙ bytes 1 k (omega arith) k_lt
          ∙ ap (λ m. get_or (get_or table m []) k 0) high,
    )

-- the first n pairs are the first 2 n pixels
pub first_bytes : (size count : ℕ) (pixels : List ℕ) (table pairs : List (List ℕ)) (line : List ℕ)
    → 2 * count ≤ length pixels
    → ((i : ℕ) → i < length pixels → get_or pixels i 0 < 16)
    → ArePairs size table pairs
    → AreFirstPairs size count pixels pairs line
    → AreFirstBytes size (2 * count) pixels table line
first_bytes size count pixels table pairs line fits small are first m k m_lt k_lt =
    let i = m / 2 in
    let p = get_or pixels (2 * i) 0 in
    let q = get_or pixels (2 * i + 1) 0 in
    let p_lt : p < 16 = small (2 * i) (omega (arith, m_lt, fits)) in
    let q_lt : q < 16 = small (2 * i + 1) (omega (arith, m_lt, fits)) in
    let entry = get_or pairs (p + 16 * q) [] in
    let two = of_pair size table entry p q (p + 16 * q) k p_lt q_lt refl k_lt
    (are.bytes (p + 16 * q) (omega (arith, p_lt, q_lt))) in
    elim (cases_lt (m % 2) 1) [
      | inl even ↦
          let m_is : m ≡ 2 * i = omega (arith, even) in
          let place : size * m + k ≡ 2 * size * i + k = ap (λ n. n + k) (twice size m i m_is) in
          ap (λ n. get_or line n 0) place
          ∙ first i k (omega (arith, m_lt)) (omega (arith, k_lt))
          ∙ two.0
          ∙ ap (λ n. get_or (get_or table (get_or pixels n 0) []) k 0) (omega (arith, even))
      | inr odd ↦
          let m_is : m ≡ suc (2 * i) = omega (arith, odd) in
          let place : size * m + k ≡ 2 * size * i + (size + k) =
          ap (λ n. size * n + k) m_is ∙ omega (arith, twice size (2 * i) i refl) in
          ap (λ n. get_or line n 0) place
          ∙ first i (size + k) (omega (arith, m_lt)) (omega (arith, k_lt))
          ∙ two.1
          ∙ ap (λ n. get_or (get_or table (get_or pixels n 0) []) k 0) (omega (arith, odd))
    ]
