-- The table of the bits of a byte in eight lanes of a number, and the lanes of a number.
use Rattle.std.proofs.Common.{◌≡◌, ℕ, zero, suc, ◌+◌, ◌*◌, ◌/◌, ◌%◌, ◌^◌, ◌<◌, Bool, true, false, ◌&&◌, ◌==◌, get_or, refl, sym, ap, ◌∙◌, inl, inr, not-suc-le-zero, arith}
use Rattle.std.specs.Prelude.{if◌then◌else◌, slice_index, nat_lt}
use Rattle.std.specs.Int.{bytes_low_first}
use Rattle.std.proofs.Math.Nat.{div-div-eq-div-mul}
use Rattle.std.proofs.lemmas.Bool.{cases_lt, and_parts, eqb-true, ltb-true}
use Rattle.bit_lists.specs.Counting.{below}
use Rattle.raw_subcode.specs.declared.lane_table.TheConstants.{LANES}
use Rattle.raw_subcode.specs.Lanes.{in_lanes, lanes_of_byte}

-- ---- The table.

-- whether each number below n passes
unfoldable pub all_below : (ℕ → Bool) → ℕ → Bool
all_below p zero = true
all_below p (suc n) = p n && all_below p n

pub all_below-at : (p : ℕ → Bool) (n k : ℕ) → all_below p n ≡ true → k < n → p k ≡ true
unfolding all_below
all_below-at p zero k h lt = absurd (not-suc-le-zero lt)
all_below-at p (suc n) k h lt =
    let parts = and_parts (p n) (all_below p n) h in
    elim (cases_lt k n) [
      | inl below ↦ all_below-at p n k parts.1 below
      | inr last ↦ let at : n ≡ k = omega arith in ap p (sym at) ∙ parts.0
    ]

IsRight : ℕ → Bool
IsRight byte = (get_or LANES byte 0 == lanes_of_byte byte) && nat_lt (get_or LANES byte 0) 72340172838076674

test_lanes : all_below IsRight 256 ≡ true
unfolding all_below IsRight lanes_of_byte in_lanes
test_lanes = refl

pub lanes_are : (byte found : ℕ) → byte < 256 → found ≡ get_or LANES byte 0 → found ≡ lanes_of_byte byte
unfolding IsRight
lanes_are byte found lt is =
    let right =
    and_parts (get_or LANES byte 0 == lanes_of_byte byte) (nat_lt (get_or LANES byte 0) 72340172838076674)
    (all_below-at IsRight 256 byte test_lanes lt) in
    is ∙ eqb-true _ _ right.0

pub lanes-lt : (byte found : ℕ) → byte < 256 → found ≡ get_or LANES byte 0 → found < 72340172838076674
unfolding IsRight
lanes-lt byte found lt is =
    let right =
    and_parts (get_or LANES byte 0 == lanes_of_byte byte) (nat_lt (get_or LANES byte 0) 72340172838076674)
    (all_below-at IsRight 256 byte test_lanes lt) in
    let small = ltb-true _ _ right.1 in
    omega arith

-- ---- Numbers side by side.

-- a byte of a number with one number below 256 in each lane
pub in_lanes-byte : (n k : ℕ) (f : ℕ → ℕ) → ((j : ℕ) → j < n → f j < 256) → k < n
    → in_lanes n f / 256 ^ k % 256 ≡ f k
unfolding in_lanes
in_lanes-byte zero k f small lt = absurd (omega arith)
in_lanes-byte (suc n) zero f small lt = let first = small 0 (omega arith) in omega (arith, first)
in_lanes-byte (suc n) (suc k) f small lt =
    let first = small 0 (omega arith) in
    let rest = in_lanes n (λ j. f (suc j)) in
    let power : 256 ^ suc k ≡ 256 * 256 ^ k = omega arith in
    let shifted : (f 0 + 256 * rest) / 256 ≡ rest = omega (arith, first) in
    ap (λ w. (f 0 + 256 * rest) / w % 256) power
    ∙ ap (λ m. m % 256) (sym (div-div-eq-div-mul (f 0 + 256 * rest) 256 (256 ^ k)))
    ∙ ap (λ m. m / 256 ^ k % 256) shifted
    ∙ in_lanes-byte n k (λ j. f (suc j)) (λ j j_lt. small (suc j) (omega arith)) (omega arith)

-- a number times a bit
pub times_worth : (c : Bool) (n : ℕ) → n * (if c then 1 else 0) ≡ (if c then n else 0)
times_worth true n = omega arith
times_worth false n = omega arith

pub byte_at : (n j : ℕ) → j < 8 → slice_index (bytes_low_first 0 8 n) j ≡ n / 256 ^ j % 256
byte_at n zero lt = omega arith
byte_at n (suc zero) lt = refl
byte_at n (suc (suc zero)) lt = refl
byte_at n (suc (suc (suc zero))) lt = refl
byte_at n (suc (suc (suc (suc zero)))) lt = refl
byte_at n (suc (suc (suc (suc (suc zero))))) lt = refl
byte_at n (suc (suc (suc (suc (suc (suc zero)))))) lt = refl
byte_at n (suc (suc (suc (suc (suc (suc (suc zero))))))) lt = refl
byte_at n (suc (suc (suc (suc (suc (suc (suc (suc j)))))))) lt = absurd (omega (arith, lt))
