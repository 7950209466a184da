-- The pixels and the border of generated scripts have numbers of colours, and their colours twelve bits.
use Rattle.std.proofs.Common.{ℕ, ◌+◌, ◌*◌, ◌<◌, Bool, true, false, List, [], ◌∷◌, length, get_or, map, flat_map, All, ◌≡◌, ◌==◌, ◌∙◌, sym, subst, arith, mod-lt, lit<}
use Rattle.std.specs.Prelude.{fold, if◌then◌else◌, ◌/◌}
use Rattle.std.proofs.lemmas.List.Elements.{All-nil, All-cons, All-head, All-tail, All-take, All-append, All-from_get_or, All-map}
use Rattle.std.proofs.lemmas.List.FromFn.{get_or-range_with_len}
use Rattle.bit_lists.specs.Counting.{below}
use Rattle.picture_script.specs.Script.{Drawing, Colour, Border, Fill, Rect, Row, Show, Picture, lines_before, blank_picture, drawn, drawn_by, picture_border, picture_colour, picture_pixel}
use Rattle.picture_script.proofs.Scripts.{before_prefix}
use Rattle.pack_schedule.specs.Shown.{AreColoursInRange}
use Rattle.cdg_workload.specs.Generator.{generator_word}
use Rattle.cdg_workload.specs.Generated.{grey, rect, picture, generated_drawings}

pub every : {X : Type 0} (P : X → Type 0) (xs : List X) → ((x : X) → P x) → All P xs
every P [] h = All-nil P
every P (x ∷ xs) h = All-cons P x xs (h x) (every P xs h)

-- The line sets a colour that is in range, or it draws a rectangle in a colour that is in range,
-- or it shows a picture.
IsGenerated : Drawing → Type 0
IsGenerated (Colour number value) = value < 4096
IsGenerated (Rect left top width height colour) = colour < 16
IsGenerated (Show ready hold) = Unit {0}
IsGenerated _ = ⊥

either_small : (b : Bool) (m n : ℕ) → m < 16 → n < 16 → (if b then m else n) < 16
either_small true m n p q = p
either_small false m n p q = q

either_in : (b : Bool) (m n : ℕ) → m < 4096 → n < 4096 → (if b then m else n) < 4096
either_in true m n p q = p
either_in false m n p q = q

record IsPictureInRange (p : Picture) : Type 0 where
  pub pixel : (x y : ℕ) → p.pixel x y < 16
  pub border : p.border < 16
  pub colour : (n : ℕ) → p.colour n < 4096

line_in : (p : Picture) (line : Drawing) → IsPictureInRange p → IsGenerated line
    → IsPictureInRange (drawn p line)
unfolding IsGenerated
line_in p (Colour number value) h is =
    record {
      pixel = h.pixel;
      border = h.border;
      colour =
          λ n. either_in (number == n) value (p.colour n) is (h.colour n);
    }
line_in p (Rect left top width height colour) h is =
    record {
      pixel = λ x y. either_small _ colour (p.pixel x y) is (h.pixel x y);
      border = h.border;
      colour =
          h.colour;
    }
line_in p (Show ready hold) h is = h
line_in p (Border colour) h is = absurd is
line_in p (Fill colour) h is = absurd is
line_in p (Row left top colours) h is = absurd is

drawn_in : (lines : List Drawing) (p : Picture) → IsPictureInRange p → All IsGenerated lines
    → IsPictureInRange (fold drawn p lines)
drawn_in [] p h all = h
drawn_in (line ∷ lines) p h all =
    drawn_in lines (drawn p line) (line_in p line h (All-head IsGenerated line lines all))
    (All-tail IsGenerated line lines all)

blank_in : IsPictureInRange blank_picture
blank_in = record { pixel = λ x y. omega arith; border = omega arith; colour = λ n. omega arith }

rect_generated : (a b : ℕ) → IsGenerated (rect a b)
unfolding IsGenerated
rect_generated a b = mod-lt (b / 256) (lit< tt)

four_generated : (a b c d : Drawing) → IsGenerated a → IsGenerated b → IsGenerated c → IsGenerated d
    → All IsGenerated (a ∷ b ∷ c ∷ d ∷ [])
four_generated a b c d one two three four =
    All-cons IsGenerated a (b ∷ c ∷ d ∷ []) one
    (All-cons IsGenerated b (c ∷ d ∷ []) two
    (All-cons IsGenerated c (d ∷ []) three (All-cons IsGenerated d [] four (All-nil IsGenerated))))

shown_generated : (ready hold : ℕ) → IsGenerated (Show ready hold)
unfolding IsGenerated
shown_generated ready hold = tt

picture_generated : (seed k : ℕ) → All IsGenerated (picture seed k)
unfolding picture
picture_generated seed k =
    four_generated (rect (generator_word seed (6 * k)) (generator_word seed (6 * k + 1)))
    (rect (generator_word seed (6 * k + 2)) (generator_word seed (6 * k + 3)))
    (rect (generator_word seed (6 * k + 4)) (generator_word seed (6 * k + 5)))
    (Show (800 * (k + 1)) (800 * (k + 1) + 20))
    (rect_generated (generator_word seed (6 * k)) (generator_word seed (6 * k + 1)))
    (rect_generated (generator_word seed (6 * k + 2)) (generator_word seed (6 * k + 3)))
    (rect_generated (generator_word seed (6 * k + 4)) (generator_word seed (6 * k + 5)))
    (shown_generated (800 * (k + 1)) (800 * (k + 1) + 20))

pictures_generated : (seed : ℕ) (ks : List ℕ) → All IsGenerated (flat_map (picture seed) ks)
pictures_generated seed [] = All-nil IsGenerated
pictures_generated seed (k ∷ ks) = All-append IsGenerated (picture seed k) (flat_map (picture seed) ks)
    (picture_generated seed k) (pictures_generated seed ks)

grey_generated : (k : ℕ) → k < 16 → IsGenerated (grey k)
unfolding IsGenerated
grey_generated k lt = omega (arith, lt)

in_below : (i : ℕ) → i < 16 → get_or (below 16) i 0 < 16
in_below i lt = let here : 0 + i ≡ i = omega arith in
    subst (λ n. n < 16) (sym (get_or-range_with_len 0 16 i 0 lt ∙ here)) lt

greys_generated : All IsGenerated (map grey (below 16))
greys_generated =
    All-map IsGenerated grey (below 16)
    (All-from_get_or (λ k. IsGenerated (grey k)) (below 16) 0
    (λ i lt. grey_generated (get_or (below 16) i 0) (in_below i lt)))

script_generated : (seed count : ℕ) → All IsGenerated (generated_drawings seed count)
unfolding generated_drawings
script_generated seed count =
    All-append IsGenerated (map grey (below 16)) (flat_map (picture seed) (below count)) greys_generated
    (pictures_generated seed (below count))

before : (seed count k : ℕ) → IsPictureInRange (drawn_by (lines_before (generated_drawings seed count) k))
before seed count k =
    let script = generated_drawings seed count in
    let first = lines_before script k in
    drawn_in first blank_picture blank_in
    (subst (All IsGenerated) (sym (before_prefix script k))
    (All-take IsGenerated (length first) script (script_generated seed count)))

border_in : (seed count k : ℕ) → picture_border (generated_drawings seed count) k < 16
unfolding picture_border
border_in seed count k = (before seed count k).border

colour_in : (seed count k n : ℕ) → picture_colour (generated_drawings seed count) k n < 4096
unfolding picture_colour
colour_in seed count k = (before seed count k).colour

pub colours_small : (seed count : ℕ) → AreColoursInRange (generated_drawings seed count)
colours_small seed count = record { border = border_in seed count; colour = colour_in seed count }

pub pixels_small : (seed count k x y : ℕ) → picture_pixel (generated_drawings seed count) k x y < 16
unfolding picture_pixel
pixels_small seed count k = (before seed count k).pixel
