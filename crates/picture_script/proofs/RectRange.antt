-- The ranges of the numbers of a `rect` line.
use Rattle.std.proofs.Common.{◌≡◌, ◌+◌, ◌&&◌, ℕ, true, arith}
use Rattle.std.specs.Prelude.{nat_le, nat_lt}
use Rattle.std.proofs.lemmas.Bool.Decides.{nat_tests}
use Rattle.picture_script.specs.Script.{Rect}
use Rattle.picture_script.specs.ScriptGrammar.{is_in_range}

-- a rectangle whose numbers are in their ranges can be kept as a line
pub rect_kept : (x y width height colour : ℕ) → is_in_range (Rect x y width height colour) ≡ true
    → (nat_le (x + width) 288 && nat_le (y + height) 192 && nat_lt colour 16) ≡ true
rect_kept x y width height colour fits = grind (arith, nat_tests)
