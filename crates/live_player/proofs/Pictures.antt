-- Bytes and parts of the picture, row by row.
use Rattle.std.proofs.Common.{◌≡◌, ◌≢◌, ◌+◌, ◌-◌, ◌*◌, ◌/◌, ◌%◌, ◌<◌, ◌≤◌, ◌&&◌, ℕ, suc, if◌then◌else◌, List, [], ◌∷◌, length, get_or, sym, ap, ap₂, ◌∙◌, inl, inr, arith}
use Rattle.std.specs.Prelude.{nat_le, nat_lt, slice_index}
use Rattle.std.proofs.Math.Nat.{mul-le-mul_left}
use Rattle.std.proofs.lemmas.Bool.{cases_lt}
use Rattle.std.proofs.lemmas.Bool.Decides.{nat_tests}
use Rattle.cdg_screen.specs.Standing.{Standing, screen_pixel}
use Rattle.cdg_screen.specs.Texts.{colour_bytes}
use Rattle.cdg_screen.proofs.WholeRows.{else_before, else_behind, then_within}
use Rattle.live_player.specs.Lives.{picture_byte}

-- ---- three bytes per pixel

byte_at : (now : Standing) (x y k n : ℕ) → x < 300 → k < 3 → n ≡ 3 * (300 * y + x) + k
    → picture_byte now n ≡ slice_index (colour_bytes (slice_index now.colours (screen_pixel now x y))) k
unfolding picture_byte
byte_at now x y k n x_lt k_lt is =
    let across : n / 3 % 300 ≡ x = omega (arith, is, x_lt, k_lt) in
    let down : n / 3 / 300 ≡ y = omega (arith, is, x_lt, k_lt) in
    let which : n % 3 ≡ k = omega (arith, is, k_lt) in
    ap₂ (λ i j. slice_index (colour_bytes (slice_index now.colours (screen_pixel now i j))) (n % 3)) across
    down
    ∙ ap (slice_index (colour_bytes (slice_index now.colours (screen_pixel now x y)))) which

from_there : (at n a b : ℕ) → at ≤ n → (if nat_le at n then a else b) ≡ a
from_there at n a b from = grind (arith, nat_tests)

before_there : (at n a b : ℕ) → n < at → (if nat_le at n then a else b) ≡ b
before_there at n a b lt = grind (arith, nat_tests)

pub three_written : (now : Standing) (old new : List ℕ) (red green blue pixel x y : ℕ) → x < 300
    → pixel ≡ screen_pixel now x y
    → red ≡ slice_index (colour_bytes (slice_index now.colours pixel)) 0
    → green ≡ slice_index (colour_bytes (slice_index now.colours pixel)) 1
    → blue ≡ slice_index (colour_bytes (slice_index now.colours pixel)) 2
    → ((n : ℕ) → n < 3 * (300 * y + x) → get_or old n 0 ≡ picture_byte now n)
    → ((n : ℕ) → n < 3 * (300 * y + x) + 3 → get_or new n 0
    ≡ (if nat_le (3 * (300 * y + x)) n
    then get_or (red ∷ green ∷ blue ∷ []) (n - 3 * (300 * y + x)) 0
    else get_or old n 0))
    → (n : ℕ) → n < 3 * (300 * y + (x + 1)) → get_or new n 0 ≡ picture_byte now n
three_written now old new red green blue pixel x y x_lt is r g b before written n lt =
    let at : ℕ = 3 * (300 * y + x) in
    let here : get_or new n 0
    ≡ (if nat_le at n then get_or (red ∷ green ∷ blue ∷ []) (n - at) 0 else get_or old n 0) =
    written n (omega (arith, lt)) in
    let part : (k : ℕ)
    → slice_index (colour_bytes (slice_index now.colours pixel)) k
    ≡ slice_index (colour_bytes (slice_index now.colours (screen_pixel now x y))) k =
    λ k. ap (λ p. slice_index (colour_bytes (slice_index now.colours p)) k) is in
    elim (cases_lt n at) [
      | inl early ↦ here ∙ before_there at n _ _ early ∙ before n early
      | inr from ↦ elim (cases_lt n (at + 1)) [
        | inl first ↦
            let k : n - at ≡ 0 = omega (arith, first) in
            here
            ∙ from_there at n _ _ from
            ∙ ap (λ i. get_or (red ∷ green ∷ blue ∷ []) i 0) k
            ∙ r
            ∙ part 0
            ∙ sym (byte_at now x y 0 n x_lt (omega arith) (omega (arith, first, from)))
        | inr after ↦ elim (cases_lt n (at + 2)) [
          | inl second ↦
              let k : n - at ≡ 1 = omega (arith, second, after) in
              here
              ∙ from_there at n _ _ from
              ∙ ap (λ i. get_or (red ∷ green ∷ blue ∷ []) i 0) k
              ∙ g
              ∙ part 1
              ∙ sym (byte_at now x y 1 n x_lt (omega arith) (omega (arith, second, after)))
          | inr last ↦
              let k : n - at ≡ 2 = omega (arith, last, lt) in
              here
              ∙ from_there at n _ _ from
              ∙ ap (λ i. get_or (red ∷ green ∷ blue ∷ []) i 0) k
              ∙ b
              ∙ part 2
              ∙ sym (byte_at now x y 2 n x_lt (omega arith) (omega (arith, last, lt)))
        ]
      ]
    ]

-- ---- parts of the screen

-- a row of a part was written behind the rows before it
module _ (now : Standing) (piece old new first : List ℕ) (left top width stride j : ℕ)
    (size : length piece ≡ width) (apart : width ≤ stride)
    (shown : (i : ℕ) → i < width → get_or piece i 0 ≡ screen_pixel now (left + i) (top + j))
    (written : (n : ℕ)
    → get_or new n 0
    ≡ (if nat_le (stride * j) n && nat_lt n (stride * j + length piece)
    then get_or piece (n - stride * j) 0
    else get_or old n 0)) where
  earlier : (i k : ℕ) → i < width → k < j → k * stride + i < stride * j
  earlier i k i_lt k_lt =
      let below : stride * suc k ≤ stride * j = mul-le-mul_left stride (omega (arith, k_lt)) in
      omega (arith, below, i_lt, apart)

  pub part_pixels
      : ((i k : ℕ) → i < width → k < j
      → get_or old (k * stride + i) 0 ≡ screen_pixel now (left + i) (top + k))
      → (i k : ℕ) → i < width
      → k < j + 1 → get_or new (k * stride + i) 0 ≡ screen_pixel now (left + i) (top + k)
  part_pixels before i k i_lt k_lt = elim (cases_lt k j) [
    | inl early ↦
        written (k * stride + i)
        ∙ else_before (stride * j) (stride * j + length piece) (k * stride + i) _ _ (earlier i k i_lt early)
        ∙ before i k i_lt early
    | inr late ↦
        let same : k ≡ j = omega (arith, late, k_lt) in
        let place : k * stride + i ≡ stride * j + i = ap (λ m. m * stride + i) same ∙ omega arith in
        ap (λ n. get_or new n 0) place
        ∙ written (stride * j + i)
        ∙ then_within (stride * j) (stride * j + length piece) (stride * j + i) _ _ (omega arith)
        (omega (arith, i_lt, size))
        ∙ ap (λ n. get_or piece n 0) (omega arith)
        ∙ shown i i_lt
        ∙ ap (λ m. screen_pixel now (left + i) (top + m)) (sym same)
  ]

  pub part_others
      : ((n : ℕ) → ((i k : ℕ) → i < width → k < j → n ≢ k * stride + i) → get_or old n 0 ≡ get_or first n 0)
      → (n : ℕ)
      → ((i k : ℕ) → i < width → k < j + 1 → n ≢ k * stride + i) → get_or new n 0 ≡ get_or first n 0
  part_others before n out =
      let kept : get_or old n 0 ≡ get_or first n 0 =
      before n (λ i k i_lt k_lt. out i k i_lt (omega (arith, k_lt))) in
      elim (cases_lt n (stride * j)) [
        | inl early ↦ written n ∙ else_before (stride * j) (stride * j + length piece) n _ _ early ∙ kept
        | inr from ↦ elim (cases_lt n (stride * j + length piece)) [
          | inl within ↦
              absurd
              (out (n - stride * j) j (omega (arith, from, within, size)) (omega arith) (omega (arith, from)))
          | inr past ↦ written n ∙ else_behind (stride * j) (stride * j + length piece) n _ _ past ∙ kept
        ]
      ]
