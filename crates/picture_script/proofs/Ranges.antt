-- The ranges of the values in the lines of a script.
use Rattle.std.proofs.Common.{◌≡◌, ℕ, ◌+◌, ◌-◌, ◌<◌, ◌≤◌, Bool, true, false, List, [], ◌∷◌, length, take, drop, map, get_or, All, ap, sym, subst, ◌∙◌, inl, inr, arith}
use Rattle.std.specs.Prelude.{fold, ◌==◌, if◌then◌else◌}
use Rattle.std.proofs.lemmas.Bool.{cases_lt}
use Rattle.std.proofs.lemmas.Bool.Decides.{nat_tests}
use Rattle.std.proofs.lemmas.List.{get_or-take, get_or-drop, get_or_past, get_or_default, length-take, get_or-map}
use Rattle.std.proofs.lemmas.List.Elements.{All-nil, All-cons, All-head, All-tail, All-take}
use Rattle.picture_script.specs.Script.{Drawing, Colour, Border, Fill, Rect, Row, Show, shows, pictures, ready_time, hold_time, lines_before, Picture, blank_picture, drawn, drawn_by, picture_pixel, picture_border, picture_colour}
use Rattle.picture_script.specs.Board.{AreColours}
use Rattle.picture_script.specs.Lines.{said, all_said, is_kept, no_show, times_of, IsIndexed}
use Rattle.picture_script.specs.declared.script.ScriptLine.{ScriptLine}
use Rattle.picture_script.specs.declared.script.ScriptLine.TheVariants.{TableColour, BorderColour, Filled, Rectangle, PixelRow, ShowLine}
use Rattle.picture_script.specs.declared.script.Shown.{Shown}
use Rattle.picture_script.proofs.Scripts.{before_prefix}
use Rattle.picture_script.proofs.Drafts.{shown_count}

-- the colours of the line are in their ranges
InColours : Drawing → Type 0
InColours (Colour number value) = value < 4096
InColours (Border colour) = colour < 16
InColours (Fill colour) = colour < 16
InColours (Rect x y width height colour) = colour < 16
InColours (Row x y pixels) = AreColours pixels
InColours (Show ready hold) = Unit {0}

either_small : (b : Bool) (m n : ℕ) → m < 16 → n < 16 → (if b then m else n) < 16
either_small true m n p q = p
either_small false m n p q = q

either_value : (b : Bool) (m n : ℕ) → m < 4096 → n < 4096 → (if b then m else n) < 4096
either_value true m n p q = p
either_value false m n p q = q

-- the colours of the picture are in their ranges
record IsSmall (picture : Picture) : Type 0 where
  pixels : (x y : ℕ) → picture.pixel x y < 16
  border : picture.border < 16
  colours : (n : ℕ) → picture.colour n < 4096

blank_small : IsSmall blank_picture
blank_small = record { pixels = λ x y. omega arith; border = omega arith; colours = λ n. omega arith }

line_small : (p : Picture) (line : Drawing) → IsSmall p → InColours line → IsSmall (drawn p line)
unfolding InColours
line_small p (Colour number value) h all = record {
  pixels = h.pixels;
  border = h.border;
  colours = λ n. either_value (number == n) value (p.colour n) all (h.colours n);
}
line_small p (Border colour) h all = record { pixels = h.pixels; border = all; colours = h.colours }
line_small p (Fill colour) h all = record { pixels = λ x y. all; border = h.border; colours = h.colours }
line_small p (Rect left top width height colour) h all = record {
  pixels = λ x y. either_small _ colour (p.pixel x y) all (h.pixels x y);
  border = h.border;
  colours = h.colours;
}
line_small p (Row left top colours) h all = record {
  pixels = λ x y. either_small _ (get_or colours (x - left) 0) (p.pixel x y) (all (x - left)) (h.pixels x y);
  border = h.border;
  colours = h.colours;
}
line_small p (Show ready hold) h all = h

lines_small : (lines : List Drawing) (p : Picture) → IsSmall p → All InColours lines
    → IsSmall (fold drawn p lines)
lines_small [] p h all = h
lines_small (line ∷ lines) p h all =
    lines_small lines (drawn p line) (line_small p line h (All-head InColours line lines all))
    (All-tail InColours line lines all)

part_small : (pixels : List ℕ) (first count : ℕ) → AreColours pixels
    → AreColours (take count (drop first pixels))
part_small pixels first count all i = elim (cases_lt i count) [
  | inl lt ↦ rw (get_or-take count (drop first pixels) i 0 lt, get_or-drop first pixels i 0) (all (first + i))
  | inr past ↦
      rw (get_or_past {X = ℕ} (take count (drop first pixels)) i 0
      (omega (arith, length-take count (drop first pixels)))) (omega arith)
]

said_small : (pixels : List ℕ) (line : ScriptLine) → AreColours pixels → is_kept (length pixels) line ≡ true
    → InColours (said pixels line)
unfolding InColours
said_small pixels (TableColour number value) all h = grind (arith, nat_tests)
said_small pixels (BorderColour colour) all h = grind (arith, nat_tests)
said_small pixels (Filled colour) all h = grind (arith, nat_tests)
said_small pixels (Rectangle x y width height colour) all h = grind (arith, nat_tests)
said_small pixels (PixelRow y x first count) all h = part_small pixels first count all
said_small pixels (ShowLine ready hold) all h = tt

all_small : (pixels : List ℕ) (lines : List ScriptLine) → AreColours pixels
    → All (λ line. is_kept (length pixels) line ≡ true) lines
    → All InColours (all_said pixels lines)
unfolding all_said
all_small pixels [] all kept = All-nil InColours
all_small pixels (line ∷ lines) all kept =
    All-cons InColours (said pixels line) (map (said pixels) lines)
    (said_small pixels line all (All-head (λ l. is_kept (length pixels) l ≡ true) line lines kept))
    (all_small pixels lines all (All-tail (λ l. is_kept (length pixels) l ≡ true) line lines kept))

before_small : (pixels : List ℕ) (lines : List ScriptLine) (shown : List Shown) (k : ℕ)
    → IsIndexed pixels lines shown
    → IsSmall (drawn_by (lines_before (all_said pixels lines) k))
before_small pixels lines shown k h =
    lines_small (lines_before (all_said pixels lines) k) blank_picture blank_small
    (subst (All InColours) (sym (before_prefix (all_said pixels lines) k))
    (All-take InColours (length (lines_before (all_said pixels lines) k)) (all_said pixels lines)
    (all_small pixels lines h.colours h.kept)))

pub pixels_below : (pixels : List ℕ) (lines : List ScriptLine) (shown : List Shown) (k x y : ℕ)
    → IsIndexed pixels lines shown
    → picture_pixel (all_said pixels lines) k x y < 16
unfolding picture_pixel
pixels_below pixels lines shown k x y h = (before_small pixels lines shown k h).pixels x y

pub borders_below : (pixels : List ℕ) (lines : List ScriptLine) (shown : List Shown) (k : ℕ)
    → IsIndexed pixels lines shown
    → picture_border (all_said pixels lines) k < 16
unfolding picture_border
borders_below pixels lines shown k h = (before_small pixels lines shown k h).border

pub colours_below : (pixels : List ℕ) (lines : List ScriptLine) (shown : List Shown) (k n : ℕ)
    → IsIndexed pixels lines shown
    → picture_colour (all_said pixels lines) k n < 4096
unfolding picture_colour
colours_below pixels lines shown k n h = (before_small pixels lines shown k h).colours n

-- the times of a picture are its stored times
times_at : (pixels : List ℕ) (lines : List ScriptLine) (shown : List Shown) (k : ℕ)
    → IsIndexed pixels lines shown → k < length shown
    → get_or {A = ℕ × ℕ} (shows (all_said pixels lines)) k (0, 0) ≡ times_of (get_or shown k no_show)
times_at pixels lines shown k h lt =
    ap (λ (ts : List (ℕ × ℕ)). get_or {A = ℕ × ℕ} ts k (0, 0)) (sym h.times)
    ∙ get_or-map times_of shown k no_show (0, 0) lt

pub times_held : (pixels : List ℕ) (lines : List ScriptLine) (shown : List Shown) (k : ℕ)
    → IsIndexed pixels lines shown → k < pictures (all_said pixels lines)
    → ready_time (all_said pixels lines) k ≤ hold_time (all_said pixels lines) k
times_held pixels lines shown k h lt =
    let count = shown_count pixels lines shown h in
    let inside : k < length shown = omega arith in
    subst (λ (t : ℕ × ℕ). t.0 ≤ t.1) (sym (times_at pixels lines shown k h inside)) (h.lasting k inside)

pub times_later : (pixels : List ℕ) (lines : List ScriptLine) (shown : List Shown) (k : ℕ)
    → IsIndexed pixels lines shown → k + 1 < pictures (all_said pixels lines)
    → hold_time (all_said pixels lines) k < ready_time (all_said pixels lines) (k + 1)
times_later pixels lines shown k h lt =
    let count = shown_count pixels lines shown h in
    let inside : k + 1 < length shown = omega arith in
    let script = all_said pixels lines in
    subst (λ (t : ℕ × ℕ). t.1 < ready_time script (k + 1))
    (sym (times_at pixels lines shown k h (omega arith)))
    (subst (λ (t : ℕ × ℕ). (get_or shown k no_show).hold < t.0)
    (sym (times_at pixels lines shown (k + 1) h inside)) (h.ordered k inside))

pub times_end : (pixels : List ℕ) (lines : List ScriptLine) (shown : List Shown) (k : ℕ)
    → IsIndexed pixels lines shown → k < pictures (all_said pixels lines)
    → hold_time (all_said pixels lines) k < 450000
times_end pixels lines shown k h lt =
    let count = shown_count pixels lines shown h in
    let inside : k < length shown = omega arith in
    subst (λ (t : ℕ × ℕ). t.1 < 450000) (sym (times_at pixels lines shown k h inside)) (h.ending k inside)

-- the same for a stored picture of the script in a struct
module _ (pixels : List ℕ) (lines : List ScriptLine) (shown : List Shown) (script : List Drawing)
    (view : all_said pixels lines ≡ script) (h : IsIndexed pixels lines shown) where
  pub shown_inside : (k : ℕ) → k < pictures script → k < length shown
  shown_inside k lt = omega (arith, shown_count pixels lines shown h, ap pictures view)

  pub shown_times_at : (k : ℕ) (t : Shown) → k < pictures script → t ≡ get_or shown k t
      → times_of t ≡ (ready_time script k, hold_time script k)
  shown_times_at k t lt is =
      ap times_of (is ∙ get_or_default shown k t no_show (shown_inside k lt))
      ∙ sym (times_at pixels lines shown k h (shown_inside k lt))
      ∙ ap (λ (s : List Drawing). (ready_time s k, hold_time s k)) view

  pub shown_held : (k : ℕ) → k < pictures script → ready_time script k ≤ hold_time script k
  shown_held =
      subst (λ (s : List Drawing). (k : ℕ) → k < pictures s → ready_time s k ≤ hold_time s k) view
      (λ k lt. times_held pixels lines shown k h lt)

  pub shown_later : (k : ℕ) → k + 1 < pictures script → hold_time script k < ready_time script (k + 1)
  shown_later =
      subst (λ (s : List Drawing). (k : ℕ) → k + 1 < pictures s → hold_time s k < ready_time s (k + 1)) view
      (λ k lt. times_later pixels lines shown k h lt)

  pub shown_end : (k : ℕ) → k < pictures script → hold_time script k < 450000
  shown_end =
      subst (λ (s : List Drawing). (k : ℕ) → k < pictures s → hold_time s k < 450000) view
      (λ k lt. times_end pixels lines shown k h lt)
