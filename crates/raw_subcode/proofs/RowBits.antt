-- Rows of lanes: bits exchanged between two rows, and their lanes interleaved.
use Rattle.std.proofs.Common.{◌≡◌, ℕ, zero, suc, ◌+◌, ◌-◌, ◌*◌, ◌/◌, ◌%◌, ◌^◌, ◌<◌, ◌≤◌, Bool, true, false, ◌==◌, ◌&&◌, List, [], ◌∷◌, ◌++◌, length, get_or, map, min, replicate, refl, sym, ap, ap₂, ◌∙◌, arith, inl, inr, bit_and, bit_xor}
use Rattle.std.specs.Prelude.{if◌then◌else◌, slice_index, nat_le}
use Rattle.std.specs.Int.{bit_at}
use Rattle.std.specs.Simd.Lanes.{put_chunk, zip2}
use Rattle.std.proofs.lemmas.Bool.{cases_lt, eqb-true, le-leb, lt-leb}
use Rattle.std.proofs.lemmas.List.{get_or-map, get_or-append_right, get_or_append_left}
use Rattle.std.proofs.lemmas.Nat.{and_le_r, pow_pos}
use Rattle.std.proofs.lemmas.Nat.Bits.{bit_at_and, bit_at_cat_high, bit_at_cat_low, bit_at-lt, bit_at-zero}
use Rattle.std.proofs.lemmas.Simd.{get_or-put_chunk_at, get_or-put_chunk_below, get_or-replicate, get_or-zip2, length-put_chunk, length-zip2}
use Rattle.bit_lists.specs.Bits.{has_bit}
use Rattle.bit_lists.specs.Polynomial.{exclusive_or}
use Rattle.bit_lists.proofs.BitsLemmas.{has_bit-shr, has_bit-xor}
use Rattle.raw_subcode.specs.Channels.{IsPlanarForm}
use Rattle.raw_subcode.specs.Rows.{AreRows, in_rows}
use Rattle.raw_subcode.proofs.LaneNumbers.{all_below, all_below-at}

-- ---- The bits of a mask.

both_set : (a b : ℕ) → a < 2 → b < 2 → (min a b == 1) ≡ ((a == 1) && (b == 1))
both_set zero zero a_lt b_lt = refl
both_set zero (suc zero) a_lt b_lt = refl
both_set (suc zero) zero a_lt b_lt = refl
both_set (suc zero) (suc zero) a_lt b_lt = refl
both_set zero (suc (suc b)) a_lt b_lt = absurd (omega arith)
both_set (suc zero) (suc (suc b)) a_lt b_lt = absurd (omega arith)
both_set (suc (suc a)) b a_lt b_lt = absurd (omega arith)

has_bit-and : (b x y : ℕ) → has_bit b (bit_and x y) ≡ (has_bit b x && has_bit b y)
has_bit-and b x y =
    ap (λ n. n == 1) (bit_at_and x y b) ∙ both_set (bit_at x b) (bit_at y b) (bit_at-lt x b) (bit_at-lt y b)

has_bit-shl : (b places x : ℕ) → has_bit b (x * 2 ^ places) ≡ (nat_le places b && has_bit (b - places) x)
has_bit-shl b places x =
    let whole : x * 2 ^ places ≡ x * 2 ^ places + 0 = omega arith in
    elim (cases_lt b places) [
      | inl under ↦
          ap (λ n. bit_at n b == 1) whole
          ∙ ap (λ n. n == 1) (bit_at_cat_low x places 0 b under ∙ bit_at-zero b)
          ∙ ap (λ c. c && has_bit (b - places) x) (sym (lt-leb places b under))
      | inr over ↦
          ap (λ n. bit_at n b == 1) whole
          ∙ ap (λ n. n == 1) (bit_at_cat_high x places 0 b (pow_pos places) over)
          ∙ ap (λ c. c && has_bit (b - places) x) (sym (le-leb places b over))
    ]

-- combining a bit with a masked difference gives the other bit, if the mask has it
named : (a b m : Bool) → exclusive_or a (exclusive_or a b && m) ≡ (if m then b else a)
named true true true = refl
named true true false = refl
named true false true = refl
named true false false = refl
named false true true = refl
named false true false = refl
named false false true = refl
named false false false = refl

-- the same for the other row
named_over : (a b m n : Bool) → exclusive_or b (n && (exclusive_or a b && m)) ≡ (if n && m then a else b)
named_over true true true true = refl
named_over true true true false = refl
named_over true true false true = refl
named_over true true false false = refl
named_over true false true true = refl
named_over true false true false = refl
named_over true false false true = refl
named_over true false false false = refl
named_over false true true true = refl
named_over false true true false = refl
named_over false true false true = refl
named_over false true false false = refl
named_over false false true true = refl
named_over false false true false = refl
named_over false false false true = refl
named_over false false false false = refl

-- the differences of two bytes at the bits of a mask, with the second byte moved down
abbrev differences : ℕ → ℕ → ℕ → ℕ → ℕ
differences upper lower places mask = bit_and (bit_xor upper (lower / 2 ^ places)) mask

differences_bit : (b upper lower places mask : ℕ)
    → has_bit b (differences upper lower places mask)
    ≡ (exclusive_or (has_bit b upper) (has_bit (places + b) lower) && has_bit b mask)
differences_bit b upper lower places mask =
    has_bit-and b (bit_xor upper (lower / 2 ^ places)) mask
    ∙ ap (λ c. c && has_bit b mask) (has_bit-xor b upper (lower / 2 ^ places)
    ∙ ap (exclusive_or (has_bit b upper)) (sym (has_bit-shr b places lower)))

upper_bit : (b upper lower places mask : ℕ)
    → has_bit b (bit_xor upper (differences upper lower places mask))
    ≡ (if has_bit b mask then has_bit (places + b) lower else has_bit b upper)
upper_bit b upper lower places mask =
    has_bit-xor b upper (differences upper lower places mask)
    ∙ ap (exclusive_or (has_bit b upper)) (differences_bit b upper lower places mask)
    ∙ named (has_bit b upper) (has_bit (places + b) lower) (has_bit b mask)

times-le : (a b c : ℕ) → a ≤ b → a * c ≤ b * c
times-le a b c le = search (arith, le)

lower_bit : (b upper lower places mask : ℕ) → mask * 2 ^ places < 256
    → has_bit b (bit_xor lower (differences upper lower places mask * 2 ^ places % 2 ^ 8))
    ≡ (if nat_le places b && has_bit (b - places) mask then has_bit (b - places) upper else has_bit b lower)
lower_bit b upper lower places mask small =
    let other = differences upper lower places mask in
    let le = times-le other mask (2 ^ places) (and_le_r (bit_xor upper (lower / 2 ^ places)) mask) in
    let all : other * 2 ^ places % 2 ^ 8 ≡ other * 2 ^ places = omega arith in
    ap (λ n. has_bit b (bit_xor lower n)) all
    ∙ has_bit-xor b lower (other * 2 ^ places)
    ∙ ap (exclusive_or (has_bit b lower)) (has_bit-shl b places other
    ∙ ap (λ c. nat_le places b && c) (differences_bit (b - places) upper lower places mask))
    ∙ elim (cases_lt b places) [
      | inl under ↦
          let no = lt-leb places b under in
          ap (λ n. exclusive_or (has_bit b lower) (n && (exclusive_or (has_bit (b - places) upper)
          (has_bit (places + (b - places)) lower) && has_bit (b - places) mask))) no
          ∙ named_over true (has_bit b lower) true false
          ∙ ap (λ n. if n && has_bit (b - places) mask then has_bit (b - places) upper else has_bit b lower)
          (sym no)
      | inr over ↦
          let at : places + (b - places) ≡ b = omega arith in
          ap (λ k. exclusive_or (has_bit b lower) (nat_le places b
          && (exclusive_or (has_bit (b - places) upper) (has_bit k lower) && has_bit (b - places) mask))) at
          ∙ named_over (has_bit (b - places) upper) (has_bit b lower) (has_bit (b - places) mask)
          (nat_le places b)
    ]

-- ---- Two rows, lane by lane.

-- the differences of two rows
abbrev other_row : List ℕ → List ℕ → ℕ → ℕ → List ℕ
other_row upper lower places mask =
    zip2 bit_and (zip2 bit_xor upper (zip2 (λ a s. a / 2 ^ s) lower (replicate 16 places)))
    (replicate 16 mask)

other_row-lanes : (upper lower : List ℕ) (places mask i : ℕ) → length upper ≡ 16 → length lower ≡ 16 → i < 16
    → (length (other_row upper lower places mask) ≡ 16)
    × (slice_index (other_row upper lower places mask) i
    ≡ differences (slice_index upper i) (slice_index lower i) places mask)
other_row-lanes upper lower places mask i size size' lt =
    let down = zip2 (λ a s. a / 2 ^ s) lower (replicate 16 places) in
    let down_size : length down ≡ 16 =
    length-zip2 (λ a s. a / 2 ^ s) lower (replicate 16 places) size' ∙ size' in
    let apart = zip2 bit_xor upper down in
    let apart_size : length apart ≡ 16 = length-zip2 bit_xor upper down (size ∙ sym down_size) ∙ size in (
      length-zip2 bit_and apart (replicate 16 mask) apart_size ∙ apart_size,
      get_or-zip2 bit_and apart (replicate 16 mask) i 0 0 0 (omega arith) lt
          ∙ ap₂ bit_and
          (get_or-zip2 bit_xor upper down i 0 0 0 (omega arith) (omega arith)
          ∙ ap (bit_xor (slice_index upper i))
          (get_or-zip2 (λ a s. a / 2 ^ s) lower (replicate 16 places) i 0 0 0 (omega arith) lt
          ∙ ap (λ s. slice_index lower i / 2 ^ s) (get_or-replicate 16 i places 0 lt)))
          (get_or-replicate 16 i mask 0 lt),
    )

pub upper_size : (upper lower : List ℕ) (places mask : ℕ) → length upper ≡ 16 → length lower ≡ 16
    → length (zip2 bit_xor upper (other_row upper lower places mask)) ≡ 16
upper_size upper lower places mask size size' =
    let other = other_row-lanes upper lower places mask 0 size size' (omega arith) in
    length-zip2 bit_xor upper (other_row upper lower places mask) (size ∙ sym other.0) ∙ size

pub upper_lane : (upper lower : List ℕ) (places mask b i : ℕ) → length upper ≡ 16 → length lower ≡ 16 → i < 16
    → has_bit b (slice_index (zip2 bit_xor upper (other_row upper lower places mask)) i)
    ≡ (if has_bit b mask then has_bit (places + b) (slice_index lower i) else has_bit b (slice_index upper i))
upper_lane upper lower places mask b i size size' lt =
    let other = other_row-lanes upper lower places mask i size size' lt in
    ap (has_bit b) (get_or-zip2 bit_xor upper (other_row upper lower places mask) i 0 0 0 (omega arith)
    (omega (arith, other.0))
    ∙ ap (bit_xor (slice_index upper i)) other.1)
    ∙ upper_bit b (slice_index upper i) (slice_index lower i) places mask

-- the differences moved up again
abbrev moved_row : List ℕ → List ℕ → ℕ → ℕ → List ℕ
moved_row upper lower places mask =
    zip2 (λ a s. a * 2 ^ s % 2 ^ 8) (other_row upper lower places mask) (replicate 16 places)

moved_size : (upper lower : List ℕ) (places mask : ℕ) → length upper ≡ 16 → length lower ≡ 16
    → length (moved_row upper lower places mask) ≡ 16
moved_size upper lower places mask size size' =
    let other = other_row-lanes upper lower places mask 0 size size' (omega arith) in
    length-zip2 (λ a s. a * 2 ^ s % 2 ^ 8) (other_row upper lower places mask) (replicate 16 places) other.0
    ∙ other.0

pub lower_size : (upper lower : List ℕ) (places mask : ℕ) → length upper ≡ 16 → length lower ≡ 16
    → length (zip2 bit_xor lower (moved_row upper lower places mask)) ≡ 16
lower_size upper lower places mask size size' =
    length-zip2 bit_xor lower (moved_row upper lower places mask)
    (size' ∙ sym (moved_size upper lower places mask size size'))
    ∙ size'

pub lower_lane : (upper lower : List ℕ) (places mask b i : ℕ) → length upper ≡ 16 → length lower ≡ 16
    → mask * 2 ^ places < 256 → i < 16
    → has_bit b (slice_index (zip2 bit_xor lower (moved_row upper lower places mask)) i)
    ≡ (if nat_le places b && has_bit (b - places) mask
    then has_bit (b - places) (slice_index upper i)
    else has_bit b (slice_index lower i))
lower_lane upper lower places mask b i size size' small lt =
    let other = other_row-lanes upper lower places mask i size size' lt in
    let moved = moved_size upper lower places mask size size' in
    ap (has_bit b) (get_or-zip2 bit_xor lower (moved_row upper lower places mask) i 0 0 0 (omega arith)
    (omega (arith, moved))
    ∙ ap (bit_xor (slice_index lower i))
    (get_or-zip2 (λ a s. a * 2 ^ s % 2 ^ 8) (other_row upper lower places mask) (replicate 16 places) i 0 0 0
    (omega (arith, other.0)) lt
    ∙ ap₂ (λ a s. a * 2 ^ s % 2 ^ 8) other.1 (get_or-replicate 16 i places 0 lt)))
    ∙ lower_bit b (slice_index upper i) (slice_index lower i) places mask small

-- ---- Interleaved lanes.

-- the interleaved lanes of two rows, from a lane on
abbrev from_both : ℕ → List ℕ
from_both start = (start + 0) ∷ (start + 16) ∷ (start + 1) ∷ (start + 17) ∷ (start + 2) ∷ (start + 18)
    ∷ (start + 3) ∷ (start + 19)
    ∷ (start + 4) ∷ (start + 20) ∷ (start + 5) ∷ (start + 21) ∷ (start + 6) ∷ (start + 22) ∷ (start + 7)
    ∷ (start + 23) ∷ []

abbrev IsByTurns : ℕ → ℕ → Bool
IsByTurns start i = get_or (from_both start) i 0 == 16 * (i % 2) + (start + i / 2)

test_first : all_below (IsByTurns 0) 16 ≡ true
unfolding all_below
test_first = refl

test_second : all_below (IsByTurns 8) 16 ≡ true
unfolding all_below
test_second = refl

woven_lane : (even odd : List ℕ) (start i : ℕ) → length even ≡ 16 → length odd ≡ 16
    → all_below (IsByTurns start) 16 ≡ true → start ≤ 8 → i < 16
    → slice_index (map (λ k. get_or (even ++ odd) k 0) (from_both start)) i
    ≡ slice_index (if i % 2 == 0 then even else odd) (start + i / 2)
woven_lane even odd start i size size' test le lt =
    let from : get_or (from_both start) i 0 ≡ 16 * (i % 2) + (start + i / 2) =
    eqb-true _ _ (all_below-at (IsByTurns start) 16 i test lt) in
    get_or-map (λ k. get_or (even ++ odd) k 0) (from_both start) i 0 0 lt
    ∙ ap (λ k. get_or (even ++ odd) k 0) from
    ∙ elim (cases_lt (i % 2) 1) [
      | inl first ↦
          let none : i % 2 ≡ 0 = omega arith in
          let at : 16 * (i % 2) + (start + i / 2) ≡ start + i / 2 = omega arith in
          ap (λ k. get_or (even ++ odd) k 0) at
          ∙ get_or_append_left even odd 0 (start + i / 2) (omega arith)
          ∙ ap (λ r. slice_index (if r == 0 then even else odd) (start + i / 2)) (sym none)
      | inr second ↦
          let one : i % 2 ≡ 1 = omega arith in
          let at : 16 * (i % 2) + (start + i / 2) - 16 ≡ start + i / 2 = omega arith in
          get_or-append_right even odd 16 (16 * (i % 2) + (start + i / 2)) 0 size (omega arith)
          ∙ ap (λ k. get_or odd k 0) at
          ∙ ap (λ r. slice_index (if r == 0 then even else odd) (start + i / 2)) (sym one)
    ]

pub first_woven : (even odd : List ℕ) → length even ≡ 16 → length odd ≡ 16 → (i : ℕ) → i < 16
    → slice_index (map (λ k. get_or (even ++ odd) k 0) (from_both 0)) i
    ≡ slice_index (if i % 2 == 0 then even else odd) (i / 2)
first_woven even odd size size' i lt =
    let at : 0 + i / 2 ≡ i / 2 = omega arith in
    woven_lane even odd 0 i size size' test_first (omega arith) lt
    ∙ ap (slice_index (if i % 2 == 0 then even else odd)) at

pub second_woven : (even odd : List ℕ) → length even ≡ 16 → length odd ≡ 16 → (i : ℕ) → i < 16
    → slice_index (map (λ k. get_or (even ++ odd) k 0) (from_both 8)) i
    ≡ slice_index (if i % 2 == 0 then even else odd) (8 + i / 2)
second_woven even odd size size' i lt = woven_lane even odd 8 i size size' test_second (omega arith) lt

-- a vector rotated by four lanes
abbrev from_fourth : List ℕ
from_fourth = 4 ∷ 5 ∷ 6 ∷ 7 ∷ 8 ∷ 9 ∷ 10 ∷ 11 ∷ 12 ∷ 13 ∷ 14 ∷ 15 ∷ 0 ∷ 1 ∷ 2 ∷ 3 ∷ []

abbrev IsFourOn : ℕ → Bool
IsFourOn i = get_or from_fourth i 0 == i + 4

test_fourth : all_below IsFourOn 12 ≡ true
unfolding all_below
test_fourth = refl

pub four_on : (xs : List ℕ) → length xs ≡ 16 → (k : ℕ) → k < 12
    → slice_index (map (λ i. get_or (xs ++ xs) i 0) from_fourth) k ≡ slice_index xs (k + 4)
four_on xs size k lt =
    let from : get_or from_fourth k 0 ≡ k + 4 = eqb-true _ _ (all_below-at IsFourOn 12 k test_fourth lt) in
    get_or-map (λ i. get_or (xs ++ xs) i 0) from_fourth k 0 0 (omega arith)
    ∙ ap (λ i. get_or (xs ++ xs) i 0) from
    ∙ get_or_append_left xs xs 0 (k + 4) (omega arith)

-- ---- One row is stored.

pub stored : (bytes row : List ℕ) (first n : ℕ) → length row ≡ 16 → first + 16 ≤ length bytes → first ≤ n
    → n < first + 16
    → slice_index (put_chunk first bytes row) n ≡ slice_index row (n - first)
stored bytes row first n size room from to =
    let place : n ≡ first + (n - first) = omega arith in
    ap (slice_index (put_chunk first bytes row)) place
    ∙ get_or-put_chunk_at first bytes row (n - first) 0 (omega arith) (omega arith)

-- two rows are stored
pub both_stored : (bytes row row' even odd : List ℕ) (k n : ℕ) → length bytes ≡ 96 → length row ≡ 16
    → length row' ≡ 16 → k < 3 → n / 32 ≡ k
    → ((i : ℕ) → i < 16 → slice_index row i ≡ slice_index (if i % 2 == 0 then even else odd) (i / 2))
    → ((i : ℕ) → i < 16 → slice_index row' i ≡ slice_index (if i % 2 == 0 then even else odd) (8 + i / 2))
    → slice_index (put_chunk (32 * k + 16) (put_chunk (32 * k) bytes row) row') n
    ≡ slice_index (if n % 2 == 0 then even else odd) (n % 32 / 2)
both_stored bytes row row' even odd k n long size size' lt at first second =
    let once = put_chunk (32 * k) bytes row in
    let once_long : length once ≡ 96 = length-put_chunk (32 * k) bytes row ∙ long in
    elim (cases_lt n (32 * k + 16)) [
      | inl under ↦
          let parity : (n - 32 * k) % 2 ≡ n % 2 = omega arith in
          let place : (n - 32 * k) / 2 ≡ n % 32 / 2 = omega arith in
          get_or-put_chunk_below (32 * k + 16) once row' n 0 under
          ∙ stored bytes row (32 * k) n size (omega arith) (omega arith) (omega arith)
          ∙ first (n - 32 * k) (omega arith)
          ∙ ap₂ (λ p i. slice_index (if p == 0 then even else odd) i) parity place
      | inr over ↦
          let parity : (n - (32 * k + 16)) % 2 ≡ n % 2 = omega arith in
          let place : 8 + (n - (32 * k + 16)) / 2 ≡ n % 32 / 2 = omega arith in
          stored once row' (32 * k + 16) n size' (omega arith) over (omega arith)
          ∙ second (n - (32 * k + 16)) (omega arith)
          ∙ ap₂ (λ p i. slice_index (if p == 0 then even else odd) i) parity place
    ]

-- ---- Eight rows.

-- P holds for each of eight numbers
pub eight : (P : ℕ → Type 0) → P 0 → P 1 → P 2 → P 3 → P 4 → P 5 → P 6 → P 7 → (k : ℕ) → k < 8 → P k
eight P p0 p1 p2 p3 p4 p5 p6 p7 zero lt = p0
eight P p0 p1 p2 p3 p4 p5 p6 p7 (suc zero) lt = p1
eight P p0 p1 p2 p3 p4 p5 p6 p7 (suc (suc zero)) lt = p2
eight P p0 p1 p2 p3 p4 p5 p6 p7 (suc (suc (suc zero))) lt = p3
eight P p0 p1 p2 p3 p4 p5 p6 p7 (suc (suc (suc (suc zero)))) lt = p4
eight P p0 p1 p2 p3 p4 p5 p6 p7 (suc (suc (suc (suc (suc zero))))) lt = p5
eight P p0 p1 p2 p3 p4 p5 p6 p7 (suc (suc (suc (suc (suc (suc zero)))))) lt = p6
eight P p0 p1 p2 p3 p4 p5 p6 p7 (suc (suc (suc (suc (suc (suc (suc zero))))))) lt = p7
eight P p0 p1 p2 p3 p4 p5 p6 p7 (suc (suc (suc (suc (suc (suc (suc (suc k)))))))) lt = absurd (omega arith)

pub eight_rows : (r0 r1 r2 r3 r4 r5 r6 r7 : List ℕ) → length r0 ≡ 16 → length r1 ≡ 16 → length r2 ≡ 16
    → length r3 ≡ 16 → length r4 ≡ 16 → length r5 ≡ 16 → length r6 ≡ 16 → length r7 ≡ 16
    → AreRows (r0 ∷ r1 ∷ r2 ∷ r3 ∷ r4 ∷ r5 ∷ r6 ∷ r7 ∷ [])
eight_rows r0 r1 r2 r3 r4 r5 r6 r7 s0 s1 s2 s3 s4 s5 s6 s7 = record {
  count = refl;
  lanes =
      eight (λ r. length (get_or (r0 ∷ r1 ∷ r2 ∷ r3 ∷ r4 ∷ r5 ∷ r6 ∷ r7 ∷ []) r []) ≡ 16) s0 s1 s2 s3 s4 s5 s6
      s7;
}

-- the bits of a row, lane by lane
pub record Holds (row : List ℕ) (f : ℕ → ℕ → Bool) : Type 0 where
  pub bit : (b i : ℕ) → i < 16 → has_bit b (slice_index row i) ≡ f b i

pub exchanged_hold : (places mask : ℕ) (upper lower : List ℕ) (result : List ℕ × List ℕ) (f g : ℕ → ℕ → Bool)
    → Holds upper f → Holds lower g
    → ((b i : ℕ) → i < 16 → has_bit b (slice_index result.0 i)
    ≡ (if has_bit b mask
    then has_bit (places + b) (slice_index lower i)
    else has_bit b (slice_index upper i)))
    → ((b i : ℕ) → i < 16 → has_bit b (slice_index result.1 i)
    ≡ (if nat_le places b && has_bit (b - places) mask
    then has_bit (b - places) (slice_index upper i)
    else has_bit b (slice_index lower i)))
    → Holds result.0 (λ b i. if has_bit b mask then g (places + b) i else f b i)
    × Holds result.1 (λ b i. if nat_le places b && has_bit (b - places) mask then f (b - places) i else g b i)
exchanged_hold places mask upper lower result f g held held' is is' = (
  record {
    bit =
        λ b i lt. is b i lt
        ∙ ap₂ (λ x y. if has_bit b mask then x else y) (held'.bit (places + b) i lt) (held.bit b i lt);
  },
  record {
    bit =
        λ b i lt. is' b i lt
        ∙ ap₂ (λ x y. if nat_le places b && has_bit (b - places) mask then x else y)
        (held.bit (b - places) i lt) (held'.bit b i lt);
  },
)

-- the bits of a row at one lane, the highest first
pub row_bits : (row : List ℕ) (f : ℕ → ℕ → Bool) (g : ℕ → Bool) (i : ℕ) → i < 16 → Holds row f
    → f 7 i ≡ g 0 → f 6 i ≡ g 1 → f 5 i ≡ g 2 → f 4 i ≡ g 3 → f 3 i ≡ g 4 → f 2 i ≡ g 5 → f 1 i ≡ g 6
    → f 0 i ≡ g 7
    → (w : ℕ) → w < 8 → has_bit (7 - w) (slice_index row i) ≡ g w
row_bits row f g i lt held e0 e1 e2 e3 e4 e5 e6 e7 =
    eight (λ w. has_bit (7 - w) (slice_index row i) ≡ g w) (held.bit 7 i lt ∙ e0) (held.bit 6 i lt ∙ e1)
    (held.bit 5 i lt ∙ e2) (held.bit 4 i lt ∙ e3)
    (held.bit 3 i lt ∙ e4) (held.bit 2 i lt ∙ e5) (held.bit 1 i lt ∙ e6) (held.bit 0 i lt ∙ e7)

-- a lane of two interleaved rows
by_turns : (even odd : List ℕ) (x i k v : ℕ) → x ≡ slice_index (if i % 2 == 0 then even else odd) k
    → (i % 2 ≡ 0 → slice_index even k ≡ v) → (i % 2 ≡ 1 → slice_index odd k ≡ v) → x ≡ v
by_turns even odd x i k v is one other = elim (cases_lt (i % 2) 1) [
  | inl first ↦
      let none : i % 2 ≡ 0 = omega arith in
      is ∙ ap (λ p. slice_index (if p == 0 then even else odd) k) none ∙ one none
  | inr second ↦
      let set : i % 2 ≡ 1 = omega arith in
      is ∙ ap (λ p. slice_index (if p == 0 then even else odd) k) set ∙ other set
]

-- a lane of eight rows that were interleaved three times
pub woven_thrice : (rows : List (List ℕ)) (a b c d e f : List ℕ) (x n m q p : ℕ)
    → x ≡ slice_index (if n % 2 == 0 then e else f) m
    → slice_index e m ≡ slice_index (if m % 2 == 0 then a else c) q
    → slice_index f m ≡ slice_index (if m % 2 == 0 then b else d) q
    → slice_index a q ≡ slice_index (if q % 2 == 0 then get_or rows 0 [] else get_or rows 4 []) p
    → slice_index b q ≡ slice_index (if q % 2 == 0 then get_or rows 1 [] else get_or rows 5 []) p
    → slice_index c q ≡ slice_index (if q % 2 == 0 then get_or rows 2 [] else get_or rows 6 []) p
    → slice_index d q ≡ slice_index (if q % 2 == 0 then get_or rows 3 [] else get_or rows 7 []) p
    → n % 8 ≡ n % 2 + 2 * (m % 2) + 4 * (q % 2) → p ≡ n / 8 → x ≡ in_rows rows (n % 8) (n / 8)
woven_thrice rows a b c d e f x n m q p x_is e_is f_is a_is b_is c_is d_is row place =
    let v = in_rows rows (n % 8) (n / 8) in
    let at : (r : ℕ) → r ≡ n % 8 → in_rows rows r p ≡ v = λ r is. ap₂ (in_rows rows) is place in
    by_turns e f x n m v x_is
    (λ n0. by_turns a c (slice_index e m) m q v e_is
    (λ m0. by_turns (get_or rows 0 []) (get_or rows 4 []) (slice_index a q) q p v a_is
    (λ q0. at 0 (omega arith)) (λ q1. at 4 (omega arith)))
    (λ m1. by_turns (get_or rows 2 []) (get_or rows 6 []) (slice_index c q) q p v c_is
    (λ q0. at 2 (omega arith)) (λ q1. at 6 (omega arith))))
    (λ n1. by_turns b d (slice_index f m) m q v f_is
    (λ m0. by_turns (get_or rows 1 []) (get_or rows 5 []) (slice_index b q) q p v b_is
    (λ q0. at 1 (omega arith)) (λ q1. at 5 (omega arith)))
    (λ m1. by_turns (get_or rows 3 []) (get_or rows 7 []) (slice_index d q) q p v d_is
    (λ q0. at 3 (omega arith)) (λ q1. at 7 (omega arith))))

-- a block of rows whose bits were exchanged has the planar form of the rows before
pub rows_form : (bytes planar : List ℕ) (rows rows' : List (List ℕ)) → length planar ≡ 96
    → ((n : ℕ) → n < 96 → slice_index bytes n ≡ in_rows rows' (n % 8) (n / 8))
    → ((r w i : ℕ) → r < 8 → w < 8 → i < 16
    → has_bit (7 - w) (in_rows rows' r i) ≡ has_bit (7 - r) (in_rows rows w i))
    → ((channel : ℕ) → channel < 8 → (k : ℕ) → k < 12
    → in_rows rows channel k ≡ slice_index planar (12 * channel + k))
    → IsPlanarForm bytes planar
rows_form bytes planar rows rows' size beside bits channels = record {
  size = size;
  bit = λ channel k j channel_lt k_lt j_lt.
      let row : (8 * k + j) % 8 ≡ j = omega arith in
      let lane : (8 * k + j) / 8 ≡ k = omega arith in
      let at : slice_index bytes (8 * k + j) ≡ in_rows rows' j k =
      beside (8 * k + j) (omega arith) ∙ ap₂ (in_rows rows') row lane in
      sym (ap (has_bit (7 - channel)) at
      ∙ bits j channel k j_lt channel_lt (omega arith)
      ∙ ap (has_bit (7 - j)) (channels channel channel_lt k k_lt));
}

-- ---- Rows one behind another.

-- the places of the lanes 8 to 11 of a row, and of the first twelve lanes of the next row
abbrev from_last : List ℕ
from_last = 8 ∷ 9 ∷ 10 ∷ 11 ∷ 16 ∷ 17 ∷ 18 ∷ 19 ∷ 20 ∷ 21 ∷ 22 ∷ 23 ∷ 24 ∷ 25 ∷ 26 ∷ 27 ∷ []

abbrev IsFour : ℕ → Bool
IsFour i = get_or from_last i 0 == 8 + i

test_four : all_below IsFour 4 ≡ true
unfolding all_below
test_four = refl

abbrev IsTwelve : ℕ → Bool
IsTwelve i = get_or from_last (4 + i) 0 == 16 + i

test_twelve : all_below IsTwelve 12 ≡ true
unfolding all_below
test_twelve = refl

pub four_of : (row next : List ℕ) → length row ≡ 16 → (i : ℕ) → i < 4
    → slice_index (map (λ k. get_or (row ++ next) k 0) from_last) i ≡ slice_index row (8 + i)
four_of row next size i lt =
    let from : get_or from_last i 0 ≡ 8 + i = eqb-true _ _ (all_below-at IsFour 4 i test_four lt) in
    get_or-map (λ k. get_or (row ++ next) k 0) from_last i 0 0 (omega arith)
    ∙ ap (λ k. get_or (row ++ next) k 0) from
    ∙ get_or_append_left row next 0 (8 + i) (omega arith)

pub twelve_of : (row next : List ℕ) → length row ≡ 16 → (i : ℕ) → i < 12
    → slice_index (map (λ k. get_or (row ++ next) k 0) from_last) (4 + i) ≡ slice_index next i
twelve_of row next size i lt =
    let from : get_or from_last (4 + i) 0 ≡ 16 + i =
    eqb-true _ _ (all_below-at IsTwelve 12 i test_twelve lt) in
    let at : 16 + i - 16 ≡ i = omega arith in
    get_or-map (λ k. get_or (row ++ next) k 0) from_last (4 + i) 0 0 (omega arith)
    ∙ ap (λ k. get_or (row ++ next) k 0) from
    ∙ get_or-append_right row next 16 (16 + i) 0 size (omega arith)
    ∙ ap (λ k. get_or next k 0) at

-- ---- Bytes at the places of groups of eight.

-- a byte of a block, from its place in a group of sixteen
abbrev Placed : List ℕ → ℕ → ℕ → ℕ → List ℕ → Type 0
Placed bytes j k m row =
    (p : ℕ) → p < 16 → 8 * k + j ≡ 16 * m + p → slice_index row p ≡ slice_index bytes (8 * k + j)

pub placed_in : (bytes row : List ℕ) (j k m : ℕ)
    → ((p : ℕ) → p < 16 → slice_index row p ≡ slice_index bytes (16 * m + p))
    → Placed bytes j k m row
placed_in bytes row j k m lanes = λ p lt at. lanes p lt ∙ ap (slice_index bytes) (sym at)

-- rows that were interleaved four times: k is a lane of the last rows, and q, s and t are lanes of the earlier ones
pub woven_four : (bytes g0 g1 e0 e1 f0 f1 a0 a1 b0 b1 c0 c1 d0 d1 v0 v1 v2 v3 v4 v5 none : List ℕ)
    (x j k q s t p p' : ℕ)
    → Placed bytes j k 0 v0 → Placed bytes j k 1 v1 → Placed bytes j k 2 v2 → Placed bytes j k 3 v3
    → Placed bytes j k 4 v4 → Placed bytes j k 5 v5
    → x ≡ slice_index (if k % 2 == 0 then g0 else g1) q
    → slice_index g0 q ≡ slice_index (if q % 2 == 0 then e0 else f0) s
    → slice_index g1 q ≡ slice_index (if q % 2 == 0 then e1 else f1) s
    → slice_index e0 s ≡ slice_index (if s % 2 == 0 then a0 else c0) t
    → slice_index e1 s ≡ slice_index (if s % 2 == 0 then a1 else c1) t
    → slice_index f0 s ≡ slice_index (if s % 2 == 0 then b0 else d0) t
    → slice_index f1 s ≡ slice_index (if s % 2 == 0 then b1 else d1) t
    → slice_index a0 t ≡ slice_index (if t % 2 == 0 then v0 else v4) p
    → slice_index a1 t ≡ slice_index (if t % 2 == 0 then v0 else v4) p'
    → slice_index b0 t ≡ slice_index (if t % 2 == 0 then v1 else v5) p
    → slice_index b1 t ≡ slice_index (if t % 2 == 0 then v1 else v5) p'
    → slice_index c0 t ≡ slice_index (if t % 2 == 0 then v2 else none) p
    → slice_index c1 t ≡ slice_index (if t % 2 == 0 then v2 else none) p'
    → slice_index d0 t ≡ slice_index (if t % 2 == 0 then v3 else none) p
    → slice_index d1 t ≡ slice_index (if t % 2 == 0 then v3 else none) p'
    → j < 8 → k < 12 → p < 8 → p' ≡ 8 + p
    → 8 * k + j ≡ 16 * (q % 2 + 2 * (s % 2) + 4 * (t % 2)) + 8 * (k % 2) + p
    → x ≡ slice_index bytes (8 * k + j)
woven_four bytes g0 g1 e0 e1 f0 f1 a0 a1 b0 b1 c0 c1 d0 d1 v0 v1 v2 v3 v4 v5 none x j k q s t p p' at0 at1 at2
    at3 at4 at5
    x_is g0_is g1_is e0_is e1_is f0_is f1_is a0_is a1_is b0_is b1_is c0_is c1_is d0_is d1_is j_lt k_lt p_lt
    p'_is place =
    let v = slice_index bytes (8 * k + j) in
    by_turns g0 g1 x k q v x_is
    (λ k0. by_turns e0 f0 (slice_index g0 q) q s v g0_is
    (λ q0. by_turns a0 c0 (slice_index e0 s) s t v e0_is
    (λ s0. by_turns v0 v4 (slice_index a0 t) t p v a0_is (λ t0. at0 p (omega arith) (omega arith))
    (λ t1. at4 p (omega arith) (omega arith)))
    (λ s1. by_turns v2 none (slice_index c0 t) t p v c0_is (λ t0. at2 p (omega arith) (omega arith))
    (λ t1. absurd (omega arith))))
    (λ q1. by_turns b0 d0 (slice_index f0 s) s t v f0_is
    (λ s0. by_turns v1 v5 (slice_index b0 t) t p v b0_is (λ t0. at1 p (omega arith) (omega arith))
    (λ t1. at5 p (omega arith) (omega arith)))
    (λ s1. by_turns v3 none (slice_index d0 t) t p v d0_is (λ t0. at3 p (omega arith) (omega arith))
    (λ t1. absurd (omega arith)))))
    (λ k1. by_turns e1 f1 (slice_index g1 q) q s v g1_is
    (λ q0. by_turns a1 c1 (slice_index e1 s) s t v e1_is
    (λ s0. by_turns v0 v4 (slice_index a1 t) t p' v a1_is (λ t0. at0 p' (omega arith) (omega arith))
    (λ t1. at4 p' (omega arith) (omega arith)))
    (λ s1. by_turns v2 none (slice_index c1 t) t p' v c1_is (λ t0. at2 p' (omega arith) (omega arith))
    (λ t1. absurd (omega arith))))
    (λ q1. by_turns b1 d1 (slice_index f1 s) s t v f1_is
    (λ s0. by_turns v1 v5 (slice_index b1 t) t p' v b1_is (λ t0. at1 p' (omega arith) (omega arith))
    (λ t1. at5 p' (omega arith) (omega arith)))
    (λ s1. by_turns v3 none (slice_index d1 t) t p' v d1_is (λ t0. at3 p' (omega arith) (omega arith))
    (λ t1. absurd (omega arith)))))

-- the rows of a block, with their bits exchanged, are its planar form
pub form_of_rows : (bytes planar : List ℕ) (rows rows' : List (List ℕ)) → length planar ≡ 96
    → ((n : ℕ) → n < 96 → slice_index planar n ≡ in_rows rows' (n / 12) (n % 12))
    → ((r w i : ℕ) → r < 8 → w < 8 → i < 16
    → has_bit (7 - w) (in_rows rows' r i) ≡ has_bit (7 - r) (in_rows rows w i))
    → ((j k : ℕ) → j < 8 → k < 12 → in_rows rows j k ≡ slice_index bytes (8 * k + j))
    → IsPlanarForm bytes planar
form_of_rows bytes planar rows rows' size after bits places = record {
  size = size;
  bit = λ channel k j channel_lt k_lt j_lt.
      let row : (12 * channel + k) / 12 ≡ channel = omega arith in
      let lane : (12 * channel + k) % 12 ≡ k = omega arith in
      let at : slice_index planar (12 * channel + k) ≡ in_rows rows' channel k =
      after (12 * channel + k) (omega arith) ∙ ap₂ (in_rows rows') row lane in
      ap (has_bit (7 - j)) at
      ∙ bits channel j k channel_lt j_lt (omega arith)
      ∙ ap (has_bit (7 - channel)) (places j k j_lt k_lt);
}
