-- The exit numbers of a conversion.
use Rattle.std.proofs.Common.{◌≡◌, ◌≢◌, ◌⊎◌, ℕ, ◌<◌, ◌≤◌, ◌==◌, true, false, subst, inl, inr, arith}
use Rattle.std.specs.Prelude.{◌↔◌, pos}
use Rattle.disc_time.specs.Counts.{most_lead_in}

other_number : (n k : ℕ) → (n == k) ≡ false → (k == k) ≢ false → pos n ≢ pos k
other_number n k other same = λ e. let equal : n ≡ k = cc in same (subst (λ m. (m == k) ≡ false) equal other)

-- two different answers are not equal
pub is_other : (n k : ℕ) (A : Type 0) → (n == k) ≡ false → (k == k) ≡ true → pos n ≡ pos k → A
is_other n k A other same e = absurd (other_number n k other (λ f. (cc)) e)

-- valid arguments, and an answer other than 2
pub is_no_usage : (n form lead_in : ℕ) → (n == 2) ≡ false → form ≤ 2 → lead_in ≤ most_lead_in
    → (pos n ≡ pos 2) ↔ ((2 < form) ⊎ (most_lead_in < lead_in))
is_no_usage n form lead_in other form_le lead_in_le = (
  (λ e. absurd (other_number n 2 other (λ f. (cc)) e)),
  λ past. elim past [ inl lt ↦ absurd (omega (arith, lt)) | inr lt ↦ absurd (omega (arith, lt)) ],
)

-- an answer other than 0 and 1 does not mean that everything was written
pub is_not_done : (n : ℕ) (A : Type 0) → (n == 0) ≡ false → (n == 1) ≡ false
    → (pos n ≡ pos 0) ⊎ (pos n ≡ pos 1)
    → A
is_not_done n A no_zero no_one (inl e) = absurd (other_number n 0 no_zero (λ f. (cc)) e)
is_not_done n A no_zero no_one (inr e) = absurd (other_number n 1 no_one (λ f. (cc)) e)
