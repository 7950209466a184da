-- The window of the screen.
use Rattle.std.proofs.Common.{◌≡◌, ◌⊎◌, ℕ, ◌+◌, ◌-◌, ◌<◌, ◌≤◌, inl, inr, arith}
use Rattle.std.specs.Prelude.{min}
use Rattle.std.proofs.lemmas.Bool.{cases_lt}
use Rattle.std.proofs.lemmas.Bool.Decides.{nat_tests}
use Rattle.cdg_screen.specs.Standing.{Standing, pixel_at, screen_pixel}

-- the window shows the memory
pub window_pixel : (now : Standing) (x y pixel : ℕ) → 6 ≤ x → x ≤ 293 → 12 ≤ y → y ≤ 203
    → pixel ≡ pixel_at now.memory (x + now.h) (y + now.v)
    → pixel ≡ screen_pixel now x y
window_pixel now x y pixel left right top bottom is = grind (arith, nat_tests)

-- the border is outside the window
pub border_pixel : (now : Standing) (x y pixel : ℕ) → pixel ≡ now.border
    → (y < 12) ⊎ ((203 < y) ⊎ ((x < 6) ⊎ (293 < x)))
    → pixel ≡ screen_pixel now x y
border_pixel now x y pixel is (inl above) = grind (arith, nat_tests)
border_pixel now x y pixel is (inr (inl below)) = grind (arith, nat_tests)
border_pixel now x y pixel is (inr (inr (inl before))) = grind (arith, nat_tests)
border_pixel now x y pixel is (inr (inr (inr behind))) = grind (arith, nat_tests)

-- columns without a part of the window are left or right of it
pub no_column : (x i end left right : ℕ) → i < end → left ≡ min (6 - x) end → right ≡ min (294 - x) end
    → left ≡ right
    → (x + i < 6) ⊎ (293 < x + i)
no_column x i end left right lt left_is right_is same = elim (cases_lt (x + i) 6) [
  | inl before ↦ inl before
  | inr from ↦ inr (omega arith)
]
