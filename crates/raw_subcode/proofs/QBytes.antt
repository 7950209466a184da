-- The Q bits of eight bytes, moved together by one product.
use Rattle.std.proofs.Common.{◌≡◌, ℕ, zero, suc, ◌+◌, ◌*◌, ◌/◌, ◌%◌, ◌^◌, ◌<◌, ◌≤◌, ◌==◌, Bool, true, false, map, refl, ap, ap₂, ◌∙◌, arith}
use Rattle.std.specs.Prelude.{if◌then◌else◌, bit_and}
use Rattle.std.specs.Int.{bit_at}
use Rattle.std.specs.Int.Bits.{and_zero_l}
use Rattle.std.proofs.lemmas.Nat.{and_block}
use Rattle.std.proofs.lemmas.Nat.Bits.{and_pow, bit_at-lt}
use Rattle.bit_lists.specs.Bits.{has_bit, number_of}
use Rattle.bit_lists.specs.Counting.{below}
use Rattle.raw_subcode.specs.Lanes.{in_lanes}
use Rattle.raw_subcode.proofs.Eight.{eight_sum}
use Rattle.raw_subcode.proofs.LaneNumbers.{times_worth}

-- 1 if the Q bit of a byte is set
abbrev mark : ℕ → ℕ
mark byte = if has_bit 6 byte then 1 else 0

mark-le : (b : Bool) → (if b then 1 else 0) ≤ 1
mark-le true = omega arith
mark-le false = omega arith

one_or_none : (n : ℕ) → n < 2 → n ≡ (if n == 1 then 1 else 0)
one_or_none zero lt = refl
one_or_none (suc zero) lt = refl
one_or_none (suc (suc n)) lt = absurd (omega arith)

q_alone : (byte : ℕ) → bit_and byte 64 ≡ 64 * mark byte
q_alone byte = and_pow byte 6 ∙ omega (arith, one_or_none (bit_at byte 6) (bit_at-lt byte 6))

in_lanes-and : (n : ℕ) (f g : ℕ → ℕ) → ((k : ℕ) → k < n → f k < 256) → ((k : ℕ) → g k < 256)
    → bit_and (in_lanes n f) (in_lanes n g) ≡ in_lanes n (λ k. bit_and (f k) (g k))
unfolding in_lanes
in_lanes-and zero f g small small' = and_zero_l 0
in_lanes-and (suc n) f g small small' =
    let rest = in_lanes n (λ k. f (suc k)) in
    let rest' = in_lanes n (λ k. g (suc k)) in
    let split : f 0 + 256 * rest ≡ rest * 2 ^ 8 + f 0 = omega arith in
    let split' : g 0 + 256 * rest' ≡ rest' * 2 ^ 8 + g 0 = omega arith in
    let others =
    in_lanes-and n (λ k. f (suc k)) (λ k. g (suc k)) (λ k lt. small (suc k) (omega (arith, lt)))
    (λ k. small' (suc k)) in
    ap₂ bit_and split split'
    ∙ and_block 8 rest rest' (f 0) (g 0) (small 0 (omega arith)) (small' 0)
    ∙ omega (arith, others)

in_lanes-same : (n : ℕ) (f g : ℕ → ℕ) → ((k : ℕ) → f k ≡ g k) → in_lanes n f ≡ in_lanes n g
unfolding in_lanes
in_lanes-same zero f g same = refl
in_lanes-same (suc n) f g same =
    ap₂ (λ a b. a + 256 * b) (same 0) (in_lanes-same n (λ k. f (suc k)) (λ k. g (suc k)) (λ k. same (suc k)))

pub in_lanes-times : (n m : ℕ) (f : ℕ → ℕ) → in_lanes n (λ k. m * f k) ≡ m * in_lanes n f
unfolding in_lanes
in_lanes-times zero m f = omega arith
in_lanes-times (suc n) m f = ap (λ r. m * f 0 + 256 * r) (in_lanes-times n m (λ k. f (suc k))) ∙ omega arith

-- the byte at bit 56 of a sum
high_byte : (q t s n : ℕ) → t < 256 → s < 72057594037927936
    → n ≡ 18446744073709551616 * q + 72057594037927936 * t + s
    → n % 18446744073709551616 / 72057594037927936 ≡ t
high_byte q t s n t_lt s_lt is = omega arith

moved : (c0 c1 c2 c3 c4 c5 c6 c7 n : ℕ) → c0 ≤ 1 → c1 ≤ 1 → c2 ≤ 1 → c3 ≤ 1 → c4 ≤ 1 → c5 ≤ 1 → c6 ≤ 1
    → c7 ≤ 1
    → n ≡ c0 + 256 * (c1 + 256 * (c2 + 256 * (c3 + 256 * (c4 + 256 * (c5 + 256 * (c6 + 256 * c7))))))
    → n * 9241421688590303745 % 18446744073709551616 / 72057594037927936
    ≡ 128 * c0 + 64 * c1 + 32 * c2 + 16 * c3 + 8 * c4 + 4 * c5 + 2 * c6 + c7
moved c0 c1 c2 c3 c4 c5 c6 c7 n l0 l1 l2 l3 l4 l5 l6 l7 is =
    high_byte (128 * c1 + 32832 * c2 + 8405024 * c3 + 2151686160 * c4 + 550831656968 * c5
    + 141012904183812 * c6 + 36099303471055874 * c7)
    (128 * c0 + 64 * c1 + 32 * c2 + 16 * c3 + 8 * c4 + 4 * c5 + 2 * c6 + c7)
    (18049651735527937 * c0 + 9024825867763968 * c1 + 4512412933881856 * c2 + 2256206466908160 * c3
    + 1128103225065472 * c4 + 564049465049088 * c5 + 281474976710656 * c6)
    (n * 9241421688590303745) (omega arith) (omega arith) (omega arith)

-- the product collects the Q bits of eight bytes
pub q_byte_is : (f : ℕ → ℕ) (n : ℕ) → ((k : ℕ) → k < 8 → f k < 256) → n ≡ in_lanes 8 f
    → bit_and n 4629771061636907072 / 64 * 9241421688590303745 % 18446744073709551616 / 72057594037927936
    ≡ number_of (map (λ j. has_bit 6 (f j)) (below 8))
unfolding in_lanes
q_byte_is f n small is =
    let c : ℕ → ℕ = λ k. mark (f k) in
    let one : (k : ℕ) → c k ≤ 1 = λ k. mark-le (has_bit 6 (f k)) in
    let masked : bit_and n (in_lanes 8 (λ k. 64)) ≡ 64 * in_lanes 8 c =
    ap (λ m. bit_and m (in_lanes 8 (λ k. 64))) is ∙ in_lanes-and 8 f (λ k. 64) small (λ k. omega arith)
    ∙ in_lanes-same 8 (λ k. bit_and (f k) 64) (λ k. 64 * c k) (λ k. q_alone (f k)) ∙ in_lanes-times 8 64 c in
    let marks : bit_and n 4629771061636907072 / 64 ≡ in_lanes 8 c = omega (arith, masked) in
    moved (c 0) (c 1) (c 2) (c 3) (c 4) (c 5) (c 6) (c 7) (bit_and n 4629771061636907072 / 64) (one 0) (one 1)
    (one 2) (one 3) (one 4) (one 5) (one 6) (one 7) (omega (arith, marks))
    ∙ eight_sum (λ j. has_bit 6 (f j)) (128 * c 0) (64 * c 1) (32 * c 2) (16 * c 3) (8 * c 4) (4 * c 5)
    (2 * c 6) (c 7)
    (times_worth (has_bit 6 (f 0)) 128) (times_worth (has_bit 6 (f 1)) 64) (times_worth (has_bit 6 (f 2)) 32)
    (times_worth (has_bit 6 (f 3)) 16) (times_worth (has_bit 6 (f 4)) 8) (times_worth (has_bit 6 (f 5)) 4)
    (times_worth (has_bit 6 (f 6)) 2) refl
