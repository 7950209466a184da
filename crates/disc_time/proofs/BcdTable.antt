-- The tables for bytes of two decimal digits.
use Rattle.std.proofs.Common.{◌≡◌, ℕ, ◌+◌, ◌*◌, ◌/◌, ◌%◌, ◌<◌, ◌≤◌, ◌⊎◌, Bool, true, ◌==◌, get_or, if◌then◌else◌, ap, ◌∙◌, refl, arith, inl, inr}
use Rattle.std.specs.Prelude.{nat_le, ◌&&◌, ◌≢◌}
use Rattle.std.proofs.lemmas.Bool.{eqb-true}
use Rattle.std.proofs.lemmas.Bool.Decides.{leb_tells}
use Rattle.bit_lists.proofs.Tests.{all_below, all_below-at}
use Rattle.disc_time.specs.Time.{bcd}
use Rattle.disc_time.specs.declared.time.TheConstants.{BYTES, NUMBERS}

has_byte : ℕ → Bool
has_byte n = get_or BYTES n 0 == bcd n

test_bytes : all_below has_byte 100 ≡ true
unfolding all_below has_byte
test_bytes = refl

-- the table entry of a number is its byte
pub byte_at : (n place found : ℕ) → n ≤ 99 → place ≡ n → found ≡ get_or BYTES place 0 → found ≡ bcd n
unfolding has_byte
byte_at n place found small same is =
    is ∙ ap (λ k. get_or BYTES k 0) same
    ∙ eqb-true _ _ (all_below-at has_byte 100 n test_bytes (omega arith))

has_number : ℕ → Bool
has_number byte =
    get_or NUMBERS byte 0
    == (if nat_le (byte / 16) 9 && nat_le (byte % 16) 9 then 10 * (byte / 16) + byte % 16 else 255)

test_numbers : all_below has_number 256 ≡ true
unfolding all_below has_number
test_numbers = refl

-- the table entry of a byte is its number, or 255
pub number_at : (byte place found : ℕ) → byte < 256 → place ≡ byte → found ≡ get_or NUMBERS place 0
    → ((byte / 16 ≤ 9) × (byte % 16 ≤ 9) × (found ≡ 10 * (byte / 16) + byte % 16))
    ⊎ (((9 < byte / 16) ⊎ (9 < byte % 16)) × (found ≡ 255))
unfolding has_number
number_at byte place found small same is =
    let value : found
    ≡ (if nat_le (byte / 16) 9 && nat_le (byte % 16) 9 then 10 * (byte / 16) + byte % 16 else 255) =
    is ∙ ap (λ k. get_or NUMBERS k 0) same
    ∙ eqb-true _ _ (all_below-at has_number 256 byte test_numbers small) in
    elim (leb_tells (byte / 16) 9) [
      | inl (tens, few_tens) ↦ elim (leb_tells (byte % 16) 9) [
        | inl (ones, few_ones) ↦ inl (few_tens, few_ones, rw (tens, ones) at value)
        | inr (ones, many_ones) ↦ inr (inr many_ones, rw (tens, ones) at value)
      ]
      | inr (tens, many_tens) ↦ inr (inl many_tens, rw tens at value)
    ]

-- a byte with the entry 255 has no number
pub none_at : (byte place found : ℕ) → byte < 256 → place ≡ byte → found ≡ get_or NUMBERS place 0
    → found ≡ 255 → (9 < byte / 16) ⊎ (9 < byte % 16)
none_at byte place found small same is none = elim (number_at byte place found small same is) [
  | inl (tens, ones, value) ↦ absurd (omega arith)
  | inr (many, value) ↦ many
]

-- any other entry is a number
pub some_at : (byte place found : ℕ) → byte < 256 → place ≡ byte → found ≡ get_or NUMBERS place 0
    → found ≢ 255 → (found ≤ 99) × (byte ≡ bcd found)
some_at byte place found small same is some = elim (number_at byte place found small same is) [
  | inl (tens, ones, value) ↦ (omega arith, omega arith)
  | inr (many, value) ↦ absurd (some value)
]
