-- A script with one more line.
use Rattle.std.proofs.Common.{◌≡◌, ◌⊎◌, ℕ, zero, suc, ◌+◌, ◌-◌, ◌<◌, ◌≤◌, Bool, true, false, List, [], ◌∷◌, ◌++◌, length, take, drop, map, get_or, All, refl, ap, ap₂, sym, subst, ◌∙◌, inl, inr, arith, length-append}
use Rattle.std.specs.Prelude.{filter_map, ◌&&◌}
use Rattle.std.specs.Char.{digit_value, is_ascii_hexdigit}
use Rattle.std.specs.List.{list_all}
use Rattle.std.proofs.lemmas.Bool.{cases_lt}
use Rattle.std.proofs.lemmas.Bool.Decides.{nat_tests}
use Rattle.std.proofs.lemmas.List.{get_or_append_left, get_or-append_right, get_or-append-add, drop-append-le, take-append-le, length-drop, map-append, length-map, get_or-map, take_all, append-nil, drop_all}
use Rattle.std.proofs.lemmas.List.Elements.{All-nil, All-cons, All-push, All-head, All-tail, filter_map-append}
use Rattle.picture_script.specs.Script.{Drawing, Row, Show, shows, pictures, shown_times, lines_before, hold_time}
use Rattle.picture_script.specs.ScriptGrammar.{is_after_hold}
use Rattle.picture_script.specs.Board.{AreColours}
use Rattle.picture_script.specs.Lines.{said, all_said, is_kept, is_drawing, no_show, times_of, IsIndexed, said_in, IsSound, Adds}
use Rattle.picture_script.specs.declared.reader.ScriptDraft.{ScriptDraft}
use Rattle.picture_script.specs.declared.script.ScriptLine.{ScriptLine}
use Rattle.picture_script.specs.declared.script.ScriptLine.TheVariants.{TableColour, BorderColour, Filled, Rectangle, PixelRow, ShowLine}
use Rattle.picture_script.specs.declared.script.Shown.{Shown}
use Rattle.picture_script.proofs.Scripts.{before_snoc, before_last}
use Rattle.picture_script.proofs.Drawn.{length-all_said}

empty-indexed : IsIndexed [] [] []
unfolding all_said shows
empty-indexed = record {
  kept = All-nil (λ line. is_kept 0 line ≡ true);
  colours = λ i. omega arith;
  times = refl;
  places = λ k lt. absurd (omega arith);
  lasting = λ k lt. absurd (omega arith);
  ending = λ k lt. absurd (omega arith);
  ordered = λ k lt. absurd (omega arith);
  most = omega arith;
}

pub none-indexed : (pixels : List ℕ) (lines : List ScriptLine) (shown : List Shown) → pixels ≡ [] → lines ≡ []
    → shown ≡ []
    → IsIndexed pixels lines shown
none-indexed pixels lines shown p l s =
    subst (λ ps. IsIndexed ps lines shown) (sym p)
    (subst (λ ls. IsIndexed [] ls shown) (sym l) (subst (λ ss. IsIndexed [] [] ss) (sym s) empty-indexed))

pub none-said : (pixels : List ℕ) (lines : List ScriptLine) → lines ≡ [] → all_said pixels lines ≡ []
unfolding all_said
none-said pixels lines h = ap (map (said pixels)) h

-- More pixels of rows change nothing.

row_fits : (x y first count size : ℕ) → is_kept size (PixelRow y x first count) ≡ true
    → (x + count ≤ 288) × (y < 192) × (first + count ≤ size)
row_fits x y first count size h =
    (grind (arith, nat_tests), grind (arith, nat_tests), grind (arith, nat_tests))

pub fits_row : (x y first count size : ℕ) → x + count ≤ 288 → y < 192 → first + count ≤ size
    → is_kept size (PixelRow y x first count) ≡ true
fits_row x y first count size a b c = grind (arith, nat_tests)

kept_more : (size more : ℕ) (line : ScriptLine) → size ≤ more → is_kept size line ≡ true
    → is_kept more line ≡ true
kept_more size more (TableColour number value) le h = h
kept_more size more (BorderColour colour) le h = h
kept_more size more (Filled colour) le h = h
kept_more size more (Rectangle x y width height colour) le h = h
kept_more size more (PixelRow y x first count) le h = let fits = row_fits x y first count size h in
    fits_row x y first count more fits.0 fits.1 (omega arith)
kept_more size more (ShowLine ready hold) le h = h

said_more : (pixels more : List ℕ) (line : ScriptLine) → is_kept (length pixels) line ≡ true
    → said (pixels ++ more) line ≡ said pixels line
said_more pixels more (TableColour number value) h = refl
said_more pixels more (BorderColour colour) h = refl
said_more pixels more (Filled colour) h = refl
said_more pixels more (Rectangle x y width height colour) h = refl
said_more pixels more (PixelRow y x first count) h =
    let fits = row_fits x y first count (length pixels) h in
    let size = length-drop first pixels in
    ap (Row x y) (ap (take count) (drop-append-le first pixels more (omega arith))
    ∙ take-append-le count (drop first pixels) more (omega arith))
said_more pixels more (ShowLine ready hold) h = refl

pub all_said_more : (pixels more : List ℕ) (lines : List ScriptLine)
    → All (λ line. is_kept (length pixels) line ≡ true) lines
    → all_said (pixels ++ more) lines ≡ all_said pixels lines
unfolding all_said
all_said_more pixels more [] all = refl
all_said_more pixels more (line ∷ lines) all =
    ap (λ d. d ∷ map (said (pixels ++ more)) lines)
    (said_more pixels more line (All-head (λ l. is_kept (length pixels) l ≡ true) line lines all))
    ∙ ap (λ ds. said pixels line ∷ ds)
    (all_said_more pixels more lines (All-tail (λ l. is_kept (length pixels) l ≡ true) line lines all))

all_kept_more : (size more : ℕ) (lines : List ScriptLine) → size ≤ more
    → All (λ line. is_kept size line ≡ true) lines
    → All (λ line. is_kept more line ≡ true) lines
all_kept_more size more [] le all = All-nil (λ line. is_kept more line ≡ true)
all_kept_more size more (line ∷ lines) le all = All-cons (λ l. is_kept more l ≡ true) line lines
    (kept_more size more line le (All-head (λ l. is_kept size l ≡ true) line lines all))
    (all_kept_more size more lines le (All-tail (λ l. is_kept size l ≡ true) line lines all))

pub and_true : (a b : Bool) → (a && b) ≡ true → (a ≡ true) × (b ≡ true)
and_true true true h = (refl, refl)
and_true true false h = absurd (cc)
and_true false b h = absurd (cc)

hex_small : (d : ℕ) → is_ascii_hexdigit d ≡ true → digit_value d < 16
hex_small d h = grind (arith, nat_tests)

pub digits_colours : (digits : List ℕ) → list_all is_ascii_hexdigit digits ≡ true
    → AreColours (map digit_value digits)
digits_colours [] h i = omega arith
digits_colours (d ∷ digits) h zero =
    hex_small d (and_true (is_ascii_hexdigit d) (list_all is_ascii_hexdigit digits) h).0
digits_colours (d ∷ digits) h (suc i) =
    digits_colours digits (and_true (is_ascii_hexdigit d) (list_all is_ascii_hexdigit digits) h).1 i

pub colours_more : (pixels more : List ℕ) → AreColours pixels → AreColours more → AreColours (pixels ++ more)
colours_more pixels more old new i = elim (cases_lt i (length pixels)) [
  | inl lt ↦ subst (λ n. n < 16) (sym (get_or_append_left pixels more 0 i lt)) (old i)
  | inr past ↦
      subst (λ n. n < 16) (sym (get_or-append_right pixels more (length pixels) i 0 refl past))
      (new (i - length pixels))
]

pub more-indexed : (pixels more : List ℕ) (lines : List ScriptLine) (shown : List Shown)
    → IsIndexed pixels lines shown → AreColours (pixels ++ more)
    → IsIndexed (pixels ++ more) lines shown
more-indexed pixels more lines shown h new =
    let size = length-append pixels more in
    let same = all_said_more pixels more lines h.kept in
    record {
      kept = all_kept_more (length pixels) (length (pixels ++ more)) lines (omega arith) h.kept;
      colours = new;
      times = h.times ∙ ap shows (sym same);
      places = λ k lt. h.places k lt ∙ ap (λ s. length (lines_before s k)) (sym same);
      lasting = h.lasting;
      ending = h.ending;
      ordered = h.ordered;
      most = h.most;
    }

-- A line that draws.

pub all_said-snoc : (pixels : List ℕ) (lines : List ScriptLine) (line : ScriptLine)
    → all_said pixels (lines ++ line ∷ []) ≡ all_said pixels lines ++ said pixels line ∷ []
unfolding all_said
all_said-snoc pixels lines line = map-append (said pixels) lines (line ∷ [])

drawing_shows : (pixels : List ℕ) (line : ScriptLine) → is_drawing line ≡ true
    → filter_map shown_times (said pixels line ∷ []) ≡ []
drawing_shows pixels (TableColour number value) h = refl
drawing_shows pixels (BorderColour colour) h = refl
drawing_shows pixels (Filled colour) h = refl
drawing_shows pixels (Rectangle x y width height colour) h = refl
drawing_shows pixels (PixelRow y x first count) h = refl
drawing_shows pixels (ShowLine ready hold) h = absurd (cc)

pub shows-drawing : (script : List Drawing) (pixels : List ℕ) (line : ScriptLine) → is_drawing line ≡ true
    → shows (script ++ said pixels line ∷ []) ≡ shows script
unfolding shows
shows-drawing script pixels line h =
    filter_map-append shown_times script (said pixels line ∷ [])
    ∙ ap (λ ts. filter_map shown_times script ++ ts) (drawing_shows pixels line h)
    ∙ append-nil (filter_map shown_times script)

pub shows-row : (script : List Drawing) (x y : ℕ) (colours : List ℕ)
    → shows (script ++ Row x y colours ∷ []) ≡ shows script
unfolding shows
shows-row script x y colours =
    filter_map-append shown_times script (Row x y colours ∷ []) ∙ append-nil (filter_map shown_times script)

pub shown_count : (pixels : List ℕ) (lines : List ScriptLine) (shown : List Shown)
    → IsIndexed pixels lines shown
    → length shown ≡ pictures (all_said pixels lines)
shown_count pixels lines shown h = sym (length-map shown times_of) ∙ ap length h.times

pub drawing-indexed : (pixels : List ℕ) (lines : List ScriptLine) (shown : List Shown) (line : ScriptLine)
    → IsIndexed pixels lines shown → is_kept (length pixels) line ≡ true → is_drawing line ≡ true
    → IsIndexed pixels (lines ++ line ∷ []) shown
drawing-indexed pixels lines shown line h kept draws =
    let count = shown_count pixels lines shown h in
    let more = all_said-snoc pixels lines line in
    record {
      kept = All-push (λ l. is_kept (length pixels) l ≡ true) lines line h.kept kept;
      colours = h.colours;
      times = h.times ∙ sym (ap shows more ∙ shows-drawing (all_said pixels lines) pixels line draws);
      places =
          λ k lt. h.places k lt
          ∙ sym (ap (λ s. length (lines_before s k)) more
          ∙ ap length (before_snoc (all_said pixels lines) (said pixels line) k (omega arith)));
      lasting = h.lasting;
      ending = h.ending;
      ordered = h.ordered;
      most = h.most;
    }

after_front : (xs ys : List ℕ) → drop (length xs) (xs ++ ys) ≡ ys
after_front xs ys =
    drop-append-le (length xs) xs ys (omega arith)
    ∙ ap (λ zs. zs ++ ys) (drop_all (length xs) xs (omega arith))

pub row_said : (old digits pixels : List ℕ) (x y count : ℕ) → pixels ≡ old ++ map digit_value digits
    → count ≡ length digits
    → said pixels (PixelRow y x (length old) count) ≡ Row x y (map digit_value digits)
row_said old digits pixels x y count grown size =
    let values = length-map digits digit_value in
    ap (λ ps. Row x y (take count (drop (length old) ps))) grown
    ∙ ap (λ ps. Row x y (take count ps)) (after_front old (map digit_value digits))
    ∙ ap (Row x y) (take_all count (map digit_value digits) (omega arith))

-- A picture.

pub shows-show : (script : List Drawing) (ready hold : ℕ)
    → shows (script ++ Show ready hold ∷ []) ≡ shows script ++ (ready, hold) ∷ []
unfolding shows
shows-show script ready hold = filter_map-append shown_times script (Show ready hold ∷ [])

last_or_before : (xs : List Shown) (x : Shown) (k : ℕ) → k < length (xs ++ x ∷ [])
    → ((k < length xs) × (get_or (xs ++ x ∷ []) k no_show ≡ get_or xs k no_show))
    ⊎ ((k ≡ length xs) × (get_or (xs ++ x ∷ []) k no_show ≡ x))
last_or_before xs x k lt =
    let size = length-append xs (x ∷ []) in
    elim (cases_lt k (length xs)) [
      | inl before ↦ inl (before, get_or_append_left xs (x ∷ []) no_show k before)
      | inr past ↦
          let last : k ≡ length xs = omega arith in
          let start : length xs ≡ length xs + 0 = omega arith in
          inr (
            last,
            ap (λ n. get_or (xs ++ x ∷ []) n no_show) (last ∙ start)
                ∙ get_or-append-add xs (x ∷ []) 0 no_show,
          )
    ]

last_hold : (pixels : List ℕ) (lines : List ScriptLine) (shown : List Shown) (ready k : ℕ)
    → IsIndexed pixels lines shown → is_after_hold (all_said pixels lines) ready ≡ true → k + 1 ≡ length shown
    → (get_or shown k no_show).hold < ready
last_hold pixels lines shown ready k h after last =
    let count = shown_count pixels lines shown h in
    let at : pictures (all_said pixels lines) - 1 ≡ k = omega arith in
    let hold : hold_time (all_said pixels lines) (pictures (all_said pixels lines) - 1)
    ≡ (get_or shown k no_show).hold =
    ap (λ n. (get_or {A = ℕ × ℕ} (shows (all_said pixels lines)) n (0, 0)).1) at
    ∙ ap (λ (ts : List (ℕ × ℕ)). (get_or {A = ℕ × ℕ} ts k (0, 0)).1) (sym h.times)
    ∙ ap (λ (t : ℕ × ℕ). t.1) (get_or-map times_of shown k no_show (0, 0) (omega arith)) in
    grind (arith, nat_tests)

pub show-indexed : (pixels : List ℕ) (lines : List ScriptLine) (shown : List Shown) (ready hold : ℕ)
    → IsIndexed pixels lines shown → ready ≤ hold → hold < 450000
    → is_after_hold (all_said pixels lines) ready ≡ true → pictures (all_said pixels lines) < 20000
    → IsIndexed pixels (lines ++ ShowLine ready hold ∷ [])
    (shown ++ record { place = length lines; ready = ready; hold = hold } ∷ [])
show-indexed pixels lines shown ready hold h order ending after room =
    let new : Shown = record { place = length lines; ready = ready; hold = hold } in
    let script = all_said pixels lines in
    let count = shown_count pixels lines shown h in
    let more = all_said-snoc pixels lines (ShowLine ready hold) in
    let size = length-append shown (new ∷ []) in
    record {
      kept = All-push (λ l. is_kept (length pixels) l ≡ true) lines (ShowLine ready hold) h.kept refl;
      colours = h.colours;
      times =
          map-append times_of shown (new ∷ [])
          ∙ ap (λ ts. ts ++ (ready, hold) ∷ []) h.times
          ∙ sym (ap shows more ∙ shows-show script ready hold);
      places = λ k lt. elim (last_or_before shown new k lt) [
        | inl old ↦
            ap (λ s. s.place) old.1
            ∙ h.places k old.0
            ∙ sym (ap (λ s. length (lines_before s k)) more
            ∙ ap length (before_snoc script (Show ready hold) k (omega (arith, old.0))))
        | inr last ↦ ap (λ s. s.place) last.1 ∙ sym (length-all_said pixels lines)
            ∙ sym (ap (λ s. length (lines_before s k)) more
            ∙ ap (λ n. length (lines_before (script ++ Show ready hold ∷ []) n)) (last.0 ∙ count)
            ∙ ap length (before_last script ready hold))
      ];
      lasting = λ k lt. elim (last_or_before shown new k lt) [
        | inl old ↦ subst (λ s. s.ready ≤ s.hold) (sym old.1) (h.lasting k old.0)
        | inr last ↦ subst (λ s. s.ready ≤ s.hold) (sym last.1) order
      ];
      ending = λ k lt. elim (last_or_before shown new k lt) [
        | inl old ↦ subst (λ s. s.hold < 450000) (sym old.1) (h.ending k old.0)
        | inr last ↦ subst (λ s. s.hold < 450000) (sym last.1) ending
      ];
      ordered = λ k lt. elim (last_or_before shown new (k + 1) lt) [
        | inl old ↦
            subst (λ s. s.hold < (get_or (shown ++ new ∷ []) (k + 1) no_show).ready)
            (sym (get_or_append_left shown (new ∷ []) no_show k (omega (arith, old.0))))
            (subst (λ s. (get_or shown k no_show).hold < s.ready) (sym old.1) (h.ordered k old.0))
        | inr last ↦
            subst (λ s. s.hold < (get_or (shown ++ new ∷ []) (k + 1) no_show).ready)
            (sym (get_or_append_left shown (new ∷ []) no_show k (omega (arith, last.0))))
            (subst (λ s. (get_or shown k no_show).hold < s.ready) (sym last.1)
            (last_hold pixels lines shown ready k h after last.0))
      ];
      most = omega arith;
    }

-- Drafts.

pub line-added : (old new : ScriptDraft) (line : ScriptLine) → IsSound old
    → is_kept (length old.pixels.items) line ≡ true → is_drawing line ≡ true
    → new.lines.items ≡ old.lines.items ++ line ∷ [] → new.pixels.items ≡ old.pixels.items
    → new.shown.items ≡ old.shown.items
    → Adds old new (said old.pixels.items line)
line-added old new line sound kept draws lines pixels shown = record {
  sound =
      rw (lines, pixels, shown)
      (drawing-indexed old.pixels.items old.lines.items old.shown.items line sound kept draws);
  lines_are = rw (lines, pixels) (all_said-snoc old.pixels.items old.lines.items line);
}

pub show-added : (old new : ScriptDraft) (ready hold : ℕ) → IsSound old → ready ≤ hold → hold < 450000
    → is_after_hold (said_in old) ready ≡ true → pictures (said_in old) < 20000
    → new.lines.items ≡ old.lines.items ++ ShowLine ready hold ∷ [] → new.pixels.items ≡ old.pixels.items
    → new.shown.items
    ≡ old.shown.items ++ record { place = length old.lines.items; ready = ready; hold = hold } ∷ []
    → Adds old new (Show ready hold)
show-added old new ready hold sound order ending after room lines pixels shown = record {
  sound =
      rw (lines, pixels, shown) (show-indexed old.pixels.items old.lines.items old.shown.items ready hold
      sound order ending after room);
  lines_are = rw (lines, pixels) (all_said-snoc old.pixels.items old.lines.items (ShowLine ready hold));
}

pub row-added : (old mid new : ScriptDraft) (x y first count : ℕ) (digits : List ℕ) → IsSound old
    → mid.lines.items ≡ old.lines.items → mid.pixels.items ≡ old.pixels.items ++ map digit_value digits
    → first ≡ length old.pixels.items → count ≡ length digits
    → Adds mid new (said mid.pixels.items (PixelRow y x first count))
    → Adds old new (Row x y (map digit_value digits))
row-added old mid new x y first count digits sound lines pixels start size h =
    let same : said_in mid ≡ said_in old =
    rw (lines, pixels) (all_said_more old.pixels.items (map digit_value digits) old.lines.items sound.kept) in
    let line : said mid.pixels.items (PixelRow y x first count) ≡ Row x y (map digit_value digits) =
    ap (λ n. said mid.pixels.items (PixelRow y x n count)) start
    ∙ row_said old.pixels.items digits mid.pixels.items x y count pixels size in
    record { sound = h.sound; lines_are = h.lines_are ∙ ap₂ (λ before line. before ++ line ∷ []) same line }

pub more-sound : (old : ScriptDraft) (pixels digits : List ℕ) → IsSound old
    → list_all is_ascii_hexdigit digits ≡ true → pixels ≡ old.pixels.items ++ map digit_value digits
    → IsIndexed pixels old.lines.items old.shown.items
more-sound old pixels digits sound hex grown =
    rw grown (more-indexed old.pixels.items (map digit_value digits) old.lines.items old.shown.items sound
    (colours_more old.pixels.items (map digit_value digits) sound.colours (digits_colours digits hex)))
