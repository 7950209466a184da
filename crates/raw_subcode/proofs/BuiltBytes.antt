-- Eight bytes of a block, built side by side in one number.
use Rattle.std.proofs.Common.{◌≡◌, ℕ, zero, suc, ◌+◌, ◌-◌, ◌*◌, ◌/◌, ◌%◌, ◌^◌, ◌<◌, ◌==◌, Bool, true, false, refl, sym, ap, get_or, ◌∙◌, arith}
use mir.Val.{bool_byte}
use Rattle.std.specs.Prelude.{if◌then◌else◌, slice_index}
use Rattle.std.specs.Int.{bytes_low_first}
use Rattle.bit_lists.specs.Bits.{has_bit}
use Rattle.raw_subcode.specs.Lanes.{in_lanes, lanes_of_byte}
use Rattle.raw_subcode.specs.declared.lane_table.TheConstants.{LANES}
use Rattle.raw_subcode.proofs.LaneNumbers.{in_lanes-byte, byte_at, lanes_are, lanes-lt}
use Rattle.raw_subcode.proofs.QBytes.{in_lanes-times}

in_lanes-plus : (n : ℕ) (f g : ℕ → ℕ) → in_lanes n f + in_lanes n g ≡ in_lanes n (λ k. f k + g k)
unfolding in_lanes
in_lanes-plus zero f g = refl
in_lanes-plus (suc n) f g =
    let rest = in_lanes-plus n (λ k. f (suc k)) (λ k. g (suc k)) in
    omega (arith, rest)

-- a P bit in each of eight bytes
p_lanes : (p : Bool) (n : ℕ) → n ≡ bool_byte p
    → 9259542123273814144 * n ≡ in_lanes 8 (λ k. if p then 128 else 0)
unfolding in_lanes
p_lanes true n is = omega arith
p_lanes false n is = omega arith

bit-lt : (p : Bool) (n : ℕ) → n ≡ bool_byte p → n < 2
bit-lt true n is = omega arith
bit-lt false n is = omega arith

in_lanes-lt : (f : ℕ → ℕ) → ((k : ℕ) → k < 8 → f k < 64) → in_lanes 8 f < 4557430888798830400
unfolding in_lanes
in_lanes-lt f small =
    omega (
      arith,
      small 0 (omega arith),
      small 1 (omega arith),
      small 2 (omega arith),
      small 3 (omega arith),
      small 4 (omega arith),
      small 5 (omega arith),
      small 6 (omega arith),
      small 7 (omega arith),
    )

-- the byte of a P bit, a Q bit and a symbol
abbrev byte_of : Bool → Bool → ℕ → ℕ
byte_of p q symbol = (if p then 128 else 0) + 64 * (if q then 1 else 0) + symbol

byte_of-lt : (p q : Bool) (symbol : ℕ) → symbol < 64 → byte_of p q symbol < 256
byte_of-lt true true symbol lt = omega arith
byte_of-lt true false symbol lt = omega arith
byte_of-lt false true symbol lt = omega arith
byte_of-lt false false symbol lt = omega arith

one : (n : ℕ) → n ≡ 1 → (n == 1) ≡ true
one n is = ap (λ m. m == 1) is

none : (n : ℕ) → n ≡ 0 → (n == 1) ≡ false
none n is = ap (λ m. m == 1) is

p_of : (p q : Bool) (symbol : ℕ) → symbol < 64 → has_bit 7 (byte_of p q symbol) ≡ p
p_of true true symbol lt = one _ (omega arith)
p_of true false symbol lt = one _ (omega arith)
p_of false true symbol lt = none _ (omega arith)
p_of false false symbol lt = none _ (omega arith)

q_of : (p q : Bool) (symbol : ℕ) → symbol < 64 → has_bit 6 (byte_of p q symbol) ≡ q
q_of true true symbol lt = one _ (omega arith)
q_of true false symbol lt = none _ (omega arith)
q_of false true symbol lt = one _ (omega arith)
q_of false false symbol lt = none _ (omega arith)

symbol_of : (p q : Bool) (symbol : ℕ) → symbol < 64 → byte_of p q symbol % 64 ≡ symbol
symbol_of true true symbol lt = omega arith
symbol_of true false symbol lt = omega arith
symbol_of false true symbol lt = omega arith
symbol_of false false symbol lt = omega arith

-- P bits, Q bits and symbols of eight bytes, each kind as one number
pub sum_of_lanes : (p : Bool) (q p_number place eight : ℕ) (symbols : ℕ → ℕ) → q < 256
    → p_number ≡ bool_byte p → place ≡ q → eight ≡ in_lanes 8 symbols
    → 9259542123273814144 * p_number + 64 * get_or LANES place 0 + eight
    ≡ in_lanes 8 (λ k. if p then 128 else 0) + 64 * lanes_of_byte q + in_lanes 8 symbols
sum_of_lanes p q p_number place eight symbols lt p_is q_is eight_is =
    let q_bits = lanes_are q _ lt (ap (λ k. get_or LANES k 0) q_is) in
    let p_bits = p_lanes p p_number p_is in
    omega arith

pub sum-fits : (p : Bool) (q p_number place eight : ℕ) (symbols : ℕ → ℕ) → q < 256
    → p_number ≡ bool_byte p → place ≡ q → eight ≡ in_lanes 8 symbols
    → ((k : ℕ) → k < 8 → symbols k < 64)
    → 9259542123273814144 * p_number + 64 * get_or LANES place 0 + eight < 2 ^ 64
sum-fits p q p_number place eight symbols lt p_is q_is eight_is small =
    let q_bits = lanes-lt q _ lt (ap (λ k. get_or LANES k 0) q_is) in
    let p_bit = bit-lt p p_number p_is in
    let rest = in_lanes-lt symbols small in
    omega arith

-- each of eight bytes
built_is : (p : Bool) (q n j : ℕ) (symbols : ℕ → ℕ) → ((k : ℕ) → k < 8 → symbols k < 64)
    → n ≡ in_lanes 8 (λ k. if p then 128 else 0) + 64 * lanes_of_byte q + in_lanes 8 symbols → j < 8
    → slice_index (bytes_low_first 0 8 n) j ≡ byte_of p (has_bit (7 - j) q) (symbols j)
unfolding lanes_of_byte
built_is p q n j symbols small is lt =
    let bit : ℕ → Bool = λ k. has_bit (7 - k) q in
    let ps : ℕ → ℕ = λ k. if p then 128 else 0 in
    let qs : ℕ → ℕ = λ k. 64 * (if bit k then 1 else 0) in
    let all : ℕ → ℕ = λ k. byte_of p (bit k) (symbols k) in
    let sums : n ≡ in_lanes 8 all =
    is
    ∙ ap (λ m. in_lanes 8 ps + m + in_lanes 8 symbols)
    (sym (in_lanes-times 8 64 (λ k. if bit k then 1 else 0)))
    ∙ ap (λ m. m + in_lanes 8 symbols) (in_lanes-plus 8 ps qs) ∙ in_lanes-plus 8 (λ k. ps k + qs k) symbols in
    byte_at n j lt ∙ ap (λ m. m / 256 ^ j % 256) sums
    ∙ in_lanes-byte 8 j all (λ k k_lt. byte_of-lt p (bit k) (symbols k) (small k k_lt)) lt

pub built_p : (p : Bool) (q n j : ℕ) (symbols : ℕ → ℕ) → ((k : ℕ) → k < 8 → symbols k < 64)
    → n ≡ in_lanes 8 (λ k. if p then 128 else 0) + 64 * lanes_of_byte q + in_lanes 8 symbols → j < 8
    → has_bit 7 (slice_index (bytes_low_first 0 8 n) j) ≡ p
built_p p q n j symbols small is lt =
    ap (has_bit 7) (built_is p q n j symbols small is lt)
    ∙ p_of p (has_bit (7 - j) q) (symbols j) (small j lt)

pub built_q : (p : Bool) (q n j : ℕ) (symbols : ℕ → ℕ) → ((k : ℕ) → k < 8 → symbols k < 64)
    → n ≡ in_lanes 8 (λ k. if p then 128 else 0) + 64 * lanes_of_byte q + in_lanes 8 symbols → j < 8
    → has_bit 6 (slice_index (bytes_low_first 0 8 n) j) ≡ has_bit (7 - j) q
built_q p q n j symbols small is lt =
    ap (has_bit 6) (built_is p q n j symbols small is lt)
    ∙ q_of p (has_bit (7 - j) q) (symbols j) (small j lt)

pub built_symbol : (p : Bool) (q n j : ℕ) (symbols : ℕ → ℕ) → ((k : ℕ) → k < 8 → symbols k < 64)
    → n ≡ in_lanes 8 (λ k. if p then 128 else 0) + 64 * lanes_of_byte q + in_lanes 8 symbols → j < 8
    → slice_index (bytes_low_first 0 8 n) j % 64 ≡ symbols j
built_symbol p q n j symbols small is lt =
    ap (λ b. b % 64) (built_is p q n j symbols small is lt)
    ∙ symbol_of p (has_bit (7 - j) q) (symbols j) (small j lt)
