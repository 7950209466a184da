-- The pixels of the memory after a scroll.
use Rattle.std.proofs.Common.{◌≡◌, ◌-◌, ◌%◌, ◌<◌, ◌≤◌, ◌&&◌, ℕ, Option, Some, None, arith}
use Rattle.std.specs.Prelude.{if◌then◌else◌}
use Rattle.std.proofs.lemmas.Bool.Decides.{nat_tests}
use Rattle.cdg_screen.specs.Memory.{moved_in}
use Rattle.cdg_screen.specs.Standing.{is_inside, source_x, source_y}

-- a scroll in no direction moves no pixel
pub unmoved_pixel : (incoming : Option ℕ) (across down : ℕ) (old : ℕ → ℕ → ℕ) (x y : ℕ) → across ≡ 0
    → down ≡ 0
    → x < 300 → y < 216 → old x y ≡ moved_in incoming across down old x y
unfolding moved_in
unmoved_pixel (Some colour) across down old x y across_is down_is x_lt y_lt = grind (arith, nat_tests)
unmoved_pixel None across down old x y across_is down_is x_lt y_lt = grind (arith, nat_tests)

-- a pixel that enters at the other end gets the colour
pub filled_pixel : (colour across down : ℕ) (old : ℕ → ℕ → ℕ) (x y turned columns rows : ℕ) → across ≤ 2
    → down ≤ 2
    → x < 300 → y < 216
    → turned ≡ moved_in None across down old x y
    → columns ≡ (if is_inside 300 (source_x across x) then turned else colour)
    → rows ≡ (if is_inside 216 (source_y down y) then columns else colour)
    → rows ≡ moved_in (Some colour) across down old x y
unfolding moved_in
filled_pixel colour across down old x y turned columns rows across_most down_most x_lt y_lt is columns_is
    rows_is =
    grind (arith, nat_tests)
