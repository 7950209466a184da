-- The pictures of lines whose colours are in their ranges.
use Rattle.std.proofs.Common.{ℕ, zero, suc, ◌-◌, ◌<◌, Bool, true, false, List, [], ◌∷◌, ◌++◌, get_or, arith}
use Rattle.std.specs.Prelude.{fold, ◌==◌, if◌then◌else◌}
use Rattle.std.specs.List.{AllByRecursion}
use Rattle.picture_script.specs.Script.{Drawing, Colour, Border, Fill, Rect, Row, Show, Picture, lines_before, blank_picture, drawn, drawn_by, picture_pixel, picture_border, picture_colour}
use Rattle.pack_schedule.specs.Shown.{AreColoursInRange}

-- the colours of a line are in their ranges
abbrev pub InColours : Drawing → Type 0
InColours (Colour number value) = value < 4096
InColours (Border colour) = colour < 16
InColours (Fill colour) = colour < 16
InColours (Rect x y width height colour) = colour < 16
InColours (Row x y pixels) = (i : ℕ) → get_or pixels i 0 < 16
InColours (Show ready hold) = Unit {0}

abbrev pub AllInColours : List Drawing → Type 0
AllInColours lines = AllByRecursion InColours lines

pub in_colours-append : (xs ys : List Drawing) → AllInColours xs → AllInColours ys → AllInColours (xs ++ ys)
in_colours-append [] ys all all' = all'
in_colours-append (x ∷ xs) ys all all' = (all.0, in_colours-append xs ys all.1 all')

in_colours-before : (script : List Drawing) (k : ℕ) → AllInColours script
    → AllInColours (lines_before script k)
unfolding lines_before
in_colours-before [] k all = tt
in_colours-before (Show ready hold ∷ rest) zero all = tt
in_colours-before (Show ready hold ∷ rest) (suc k) all = (tt, in_colours-before rest k all.1)
in_colours-before (line ∷ rest) k all = (all.0, in_colours-before rest k all.1)

either_below : (limit : ℕ) (b : Bool) (m n : ℕ) → m < limit → n < limit → (if b then m else n) < limit
either_below limit true m n p q = p
either_below limit false m n p q = q

-- the colours of the picture are in their ranges
record IsSmall (picture : Picture) : Type 0 where
  pixels : (x y : ℕ) → picture.pixel x y < 16
  border : picture.border < 16
  colours : (n : ℕ) → picture.colour n < 4096

blank_small : IsSmall blank_picture
blank_small = record { pixels = λ x y. omega arith; border = omega arith; colours = λ n. omega arith }

line_small : (p : Picture) (line : Drawing) → IsSmall p → InColours line → IsSmall (drawn p line)
line_small p (Colour number value) h all = record {
  pixels = h.pixels;
  border = h.border;
  colours = λ n. either_below 4096 (number == n) value (p.colour n) all (h.colours n);
}
line_small p (Border colour) h all = record { pixels = h.pixels; border = all; colours = h.colours }
line_small p (Fill colour) h all = record { pixels = λ x y. all; border = h.border; colours = h.colours }
line_small p (Rect left top width height colour) h all = record {
  pixels = λ x y. either_below 16 _ colour (p.pixel x y) all (h.pixels x y);
  border = h.border;
  colours = h.colours;
}
line_small p (Row left top colours) h all = record {
  pixels =
      λ x y. either_below 16 _ (get_or colours (x - left) 0) (p.pixel x y) (all (x - left)) (h.pixels x y);
  border = h.border;
  colours = h.colours;
}
line_small p (Show ready hold) h all = h

lines_small : (lines : List Drawing) (p : Picture) → IsSmall p → AllInColours lines
    → IsSmall (fold drawn p lines)
lines_small [] p h all = h
lines_small (line ∷ lines) p h all = lines_small lines (drawn p line) (line_small p line h all.0) all.1

module _ (script : List Drawing) (all : AllInColours script) where
  picture_small : (k : ℕ) → IsSmall (drawn_by (lines_before script k))
  picture_small k =
      lines_small (lines_before script k) blank_picture blank_small (in_colours-before script k all)

  pub pixels_in_range : (k x y : ℕ) → picture_pixel script k x y < 16
  unfolding picture_pixel
  pixels_in_range k x y = (picture_small k).pixels x y

  borders_in_range : (k : ℕ) → picture_border script k < 16
  unfolding picture_border
  borders_in_range k = (picture_small k).border

  table_in_range : (k n : ℕ) → picture_colour script k n < 4096
  unfolding picture_colour
  table_in_range k n = (picture_small k).colours n

  pub colours_in_range : AreColoursInRange script
  colours_in_range = record { border = borders_in_range; colour = table_in_range }
