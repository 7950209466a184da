-- Pixels outside the reported change are unchanged.
use Rattle.std.proofs.Common.{◌≡◌, ℕ, ◌+◌, ◌-◌, ◌*◌, ◌/◌, ◌<◌, ◌≤◌, ◌&&◌, Bool, true, false, List, [], ◌∷◌, get_or, max, min, if◌then◌else◌, refl, sym, ap, ap₂, subst, ◌∙◌, inl, inr, arith}
use Rattle.std.specs.Prelude.{nat_le, nat_lt}
use Rattle.std.proofs.lemmas.Bool.{cases_lt}
use Rattle.std.proofs.lemmas.Bool.Decides.{nat_tests}
use Rattle.std.proofs.lemmas.List.{get_or_past}
use Rattle.cdg_io.specs.Run.{run_state}
use Rattle.cdg_instructions.specs.Effect.{effect_of}
use Rattle.cdg_instructions.specs.declared.instr.Instr.{Instr}
use Rattle.cdg_instructions.specs.declared.instr.Instr.TheVariants.{Idle, Foreign, Unknown, MemoryPreset, BorderPreset, SetTile, XorTile, ScrollPreset, ScrollCopy, Transparency, ColoursLow, ColoursHigh}
use Rattle.cdg_screen.specs.Standing.{IsWholeStanding, Standing, memory_from, offsets_from, pixel_at, rows_of, screen_pixel, standing_after}
use Rattle.cdg_screen.specs.Touched.{IsSameBeside, IsSamePlace, KeepsTheRest, touched_by}
use Rattle.cdg_screen.specs.declared.touching.Touched.{Touched}
use Rattle.cdg_screen.specs.declared.touching.Touched.TheVariants.{Nothing, Tile, All, Border, Colours, Levels}
use Rattle.cdg_screen.proofs.Lists.{length-row, length-rows_of}
use Rattle.cdg_screen.proofs.Turns.{in_turn, whole_after}
use Rattle.live_player.specs.Changes.{touched_change, join, offsets_by, rectangle, sees, tile_change, IsInChange, KeepsUnchanged}
use Rattle.live_player.specs.declared.change.ScreenChange.{ScreenChange}
use Rattle.live_player.specs.declared.watch.Watch.{Watch}

-- ---- offsets

pub offsets_of : (instr : Instr) (offsets : ℕ × ℕ)
    → offsets_by (effect_of instr) offsets ≡ offsets_from offsets (instr ∷ [])
offsets_of Idle offsets = refl
offsets_of Foreign offsets = refl
offsets_of Unknown offsets = refl
offsets_of (MemoryPreset colour repeat) offsets = refl
offsets_of (BorderPreset colour) offsets = refl
offsets_of (SetTile colour0 colour1 row column lines) offsets = refl
offsets_of (XorTile colour0 colour1 row column lines) offsets = refl
offsets_of (ScrollPreset colour across h down v) offsets = refl
offsets_of (ScrollCopy colour across h down v) offsets = refl
offsets_of (Transparency levels) offsets = refl
offsets_of (ColoursLow colours) offsets = refl
offsets_of (ColoursHigh colours) offsets = refl

-- ---- pixels outside the memory

past_rows : (pixel : ℕ → ℕ → ℕ) (x y : ℕ) → 216 ≤ y → pixel_at (rows_of pixel) x y ≡ 0
unfolding pixel_at
past_rows pixel x y past =
    ap (λ (row : List ℕ). get_or row x 0)
    (get_or_past (rows_of pixel) y [] (omega (arith, past, length-rows_of pixel)))

past_row : (pixel : ℕ → ℕ → ℕ) (x y : ℕ) → y < 216 → 300 ≤ x → pixel_at (rows_of pixel) x y ≡ 0
unfolding pixel_at
past_row pixel x y lt past =
    get_or_past (get_or (rows_of pixel) y []) x 0 (omega (arith, past, length-row pixel y lt))

as_rows : (now : Standing) (x y : ℕ) → IsWholeStanding now
    → pixel_at now.memory x y ≡ pixel_at (rows_of (memory_from (pixel_at now.memory) [])) x y
as_rows now x y whole = ap (λ (s : Standing). pixel_at s.memory x y) (sym whole)

-- if the pixels of the memory are equal, so are those outside it
pub same_pixels : (old new : Standing) (x y : ℕ) → IsWholeStanding old → IsWholeStanding new
    → (x < 300 → y < 216 → pixel_at new.memory x y ≡ pixel_at old.memory x y)
    → pixel_at new.memory x y ≡ pixel_at old.memory x y
same_pixels old new x y whole whole_new same = elim (cases_lt y 216) [
  | inl y_lt ↦ elim (cases_lt x 300) [
    | inl x_lt ↦ same x_lt y_lt
    | inr past ↦
        as_rows new x y whole_new
        ∙ past_row (memory_from (pixel_at new.memory) []) x y y_lt past
        ∙ sym (past_row (memory_from (pixel_at old.memory) []) x y y_lt past)
        ∙ sym (as_rows old x y whole)
  ]
  | inr past ↦
      as_rows new x y whole_new
      ∙ past_rows (memory_from (pixel_at new.memory) []) x y past
      ∙ sym (past_rows (memory_from (pixel_at old.memory) []) x y past)
      ∙ sym (as_rows old x y whole)
]

-- ---- the window

if_same : (b : Bool) (one other here there : ℕ) → (b ≡ true → one ≡ other) → here ≡ there
    → (if b then one else here) ≡ (if b then other else there)
if_same true one other here there inside beside = inside refl
if_same false one other here there inside beside = beside

pub record IsShown (x y : ℕ) : Type 0 where
  pub left : 6 ≤ x
  pub right : x ≤ 293
  pub top : 12 ≤ y
  pub bottom : y ≤ 203

in_window : (x y : ℕ) → (nat_le 6 x && nat_le x 293 && nat_le 12 y && nat_le y 203) ≡ true → IsShown x y
in_window x y is = record {
  left = grind (arith, nat_tests);
  right = grind (arith, nat_tests);
  top = grind (arith, nat_tests);
  bottom = grind (arith, nat_tests);
}

-- the screen shows the same pixel if the memory and the border are the same there
screen_same : (old new : Standing) (x y : ℕ)
    → (IsShown x y
    → pixel_at new.memory (x + new.h) (y + new.v) ≡ pixel_at old.memory (x + old.h) (y + old.v))
    → new.border ≡ old.border
    → screen_pixel new x y ≡ screen_pixel old x y
screen_same old new x y inside beside =
    if_same (nat_le 6 x && nat_le x 293 && nat_le 12 y && nat_le y 203) _ _ new.border old.border
    (λ is. inside (in_window x y is)) beside

-- ---- rectangles

if_true : (b : Bool) (one other : ScreenChange) → b ≡ true → (if b then one else other) ≡ one
if_true b one other is = ap (λ it. if it then one else other) is

has_pixel : (left top right bottom x y : ℕ) → left ≤ x → x < right → top ≤ y → y < bottom
    → (nat_lt left right && nat_lt top bottom) ≡ true
has_pixel left top right bottom x y l r t b =
    let across : left < right = omega (arith, l, r) in
    let down : top < bottom = omega (arith, t, b) in
    grind (arith, nat_tests)

in_rectangle : (left top right bottom x y : ℕ) → left ≤ x → x < right → top ≤ y → y < bottom
    → IsInChange (rectangle left top right bottom) x y
in_rectangle left top right bottom x y l r t b =
    subst (λ (it : ScreenChange). IsInChange it x y)
    (sym (if_true (nat_lt left right && nat_lt top bottom)
    (record { left = left; top = top; right = right; bottom = bottom; colours = 0; levels = 0 }) _
    (has_pixel left top right bottom x y l r t b)))
    (record { left = l; right = r; top = t; bottom = b })

in_tile : (row column h v x y : ℕ) → IsShown x y → (x + h) / 6 ≡ column → (y + v) / 12 ≡ row
    → IsInChange (tile_change row column h v) x y
in_tile row column h v x y shown is_column is_row =
    in_rectangle (max (6 * column - h) 6) (max (12 * row - v) 12) (min (6 * column + 6 - h) 294)
    (min (12 * row + 12 - v) 204) x y
    (omega (arith, shown.left, is_column)) (omega (arith, shown.right, is_column))
    (omega (arith, shown.top, is_row)) (omega (arith, shown.bottom, is_row))

join_left : (one other : ScreenChange) (x y : ℕ) → IsInChange one x y → IsInChange (join one other) x y
join_left one other x y is = record {
  left = omega (arith, is.left);
  right = omega (arith, is.right);
  top = omega (arith, is.top);
  bottom = omega (arith, is.bottom);
}

join_right : (one other : ScreenChange) (x y : ℕ) → IsInChange other x y → IsInChange (join one other) x y
join_right one other x y is = record {
  left = omega (arith, is.left);
  right = omega (arith, is.right);
  top = omega (arith, is.top);
  bottom = omega (arith, is.bottom);
}

-- ---- one instruction

beside_same : (change : ScreenChange) (old new : Standing) → IsSameBeside old new
    → ((x y : ℕ) → ¬ IsInChange change x y → x < 300 → y < 216 → screen_pixel new x y ≡ screen_pixel old x y)
    → KeepsUnchanged change old new
beside_same change old new same pixels = record {
  pixels = pixels;
  colours = λ _. same.colours;
  levels = λ _. same.levels;
}

-- the memory and the offsets are the same
moved_same : (old new : Standing) (x y : ℕ) → new.memory ≡ old.memory → IsSamePlace old new
    → pixel_at new.memory (x + new.h) (y + new.v) ≡ pixel_at old.memory (x + old.h) (y + old.v)
moved_same old new x y memory place =
    ap (λ (rows : List (List ℕ)). pixel_at rows (x + new.h) (y + new.v)) memory
    ∙ ap₂ (λ h v. pixel_at old.memory (x + h) (y + v)) place.0 place.1

pub step_keeps : (touched : Touched) (old new : Standing) → IsWholeStanding old → IsWholeStanding new
    → KeepsTheRest touched old new → KeepsUnchanged (touched_change touched old.h old.v) old new
step_keeps Nothing old new whole whole_new same = record {
  pixels = λ x y out x_lt y_lt. ap (λ (s : Standing). screen_pixel s x y) same;
  colours = λ _. ap (λ (s : Standing). s.colours) same;
  levels = λ _. ap (λ (s : Standing). s.levels) same;
}
step_keeps (Tile row column) old new whole whole_new same =
    beside_same (tile_change row column old.h old.v) old new same.1
    (λ x y out x_lt y_lt. screen_same old new x y
    (λ shown. ap₂ (λ h v. pixel_at new.memory (x + h) (y + v)) same.2.0 same.2.1
    ∙ same_pixels old new (x + old.h) (y + old.v) whole whole_new
    (λ a b. same.0 (x + old.h) (y + old.v) a b
    (λ at. out (in_tile row column old.h old.v x y shown at.0 at.1)))) same.1.border)
step_keeps All old new whole whole_new same =
    beside_same (touched_change All old.h old.v) old new same
    (λ x y out x_lt y_lt. screen_same old new x y
    (λ shown. absurd (out (in_rectangle 6 12 294 204 x y shown.left (omega (arith, shown.right)) shown.top
    (omega (arith, shown.bottom))))) same.border)
step_keeps Border old new whole whole_new same = record {
  pixels =
      λ x y out x_lt y_lt. absurd (out (in_rectangle 0 0 300 216 x y (omega arith) x_lt (omega arith) y_lt));
  colours = λ _. same.1;
  levels = λ _. same.2;
}
step_keeps Colours old new whole whole_new same = record {
  pixels =
      λ x y out x_lt y_lt. screen_same old new x y (λ shown. moved_same old new x y same.0 same.3) same.1;
  colours = λ none. let no : ⊥ = omega (arith, none) in absurd no;
  levels = λ _. same.2;
}
step_keeps Levels old new whole whole_new same = record {
  pixels =
      λ x y out x_lt y_lt. screen_same old new x y (λ shown. moved_same old new x y same.0 same.3) same.1;
  colours = λ _. same.2;
  levels = λ none. let no : ⊥ = omega (arith, none) in absurd no;
}

-- ---- all instructions

-- earlier changes are still reported, and all other pixels are unchanged
pub record CoversChange (reported : ScreenChange) (before : ScreenChange) (old new : Standing) : Type 0 where
  pub keeps : KeepsUnchanged reported old new
  pub within : (x y : ℕ) → IsInChange before x y → IsInChange reported x y
  pub colours : reported.colours ≡ 0 → before.colours ≡ 0
  pub levels : reported.levels ≡ 0 → before.levels ≡ 0

pub decides : ((instr : Instr) (now : Standing) → IsWholeStanding now
    → KeepsTheRest (touched_by instr) now (standing_after now (instr ∷ [])))
    → (instrs : List Instr) (watch : Watch) (now : Standing) → IsWholeStanding now
    → watch.across ≡ now.h → watch.down ≡ now.v
    → CoversChange (run_state sees watch instrs).change watch.change now (standing_after now instrs)
decides untouched [] watch now whole across down = record {
  keeps = record {
    pixels = λ x y out x_lt y_lt. ap (λ (s : Standing). screen_pixel s x y) whole;
    colours = λ _. ap (λ (s : Standing). s.colours) whole;
    levels = λ _. ap (λ (s : Standing). s.levels) whole;
  };
  within = λ x y is. is;
  colours = λ none. none;
  levels = λ none. none;
}
decides untouched (instr ∷ rest) watch now whole across down =
    let next : Standing = standing_after now (instr ∷ []) in
    let whole_next : IsWholeStanding next = whole_after now (instr ∷ []) in
    let change : ScreenChange = touched_change (touched_by instr) watch.across watch.down in
    let there : touched_change (touched_by instr) now.h now.v ≡ change =
    ap₂ (touched_change (touched_by instr)) (sym across) (sym down) in
    let step : KeepsUnchanged change now next =
    subst (λ (it : ScreenChange). KeepsUnchanged it now next) there
    (step_keeps (touched_by instr) now next whole whole_next (untouched instr now whole)) in
    let offsets : offsets_from (watch.across, watch.down) (instr ∷ [])
    ≡ offsets_from (now.h, now.v) (instr ∷ []) =
    ap₂ (λ h v. offsets_from (h, v) (instr ∷ [])) across down in
    let further : CoversChange (run_state sees (sees watch instr) rest).change (join watch.change change) next
    (standing_after next rest) =
    decides untouched rest (sees watch instr) next whole_next (ap (λ (o : ℕ × ℕ). o.0) offsets)
    (ap (λ (o : ℕ × ℕ). o.1) offsets) in
    let turn : standing_after now (instr ∷ rest) ≡ standing_after next rest = in_turn now (instr ∷ []) rest in
    record {
      keeps = record {
        pixels =
            λ x y out x_lt y_lt. ap (λ (s : Standing). screen_pixel s x y) turn
            ∙ further.keeps.pixels x y out x_lt y_lt
            ∙ step.pixels x y (λ is. out (further.within x y (join_right watch.change change x y is))) x_lt
            y_lt;
        colours =
            λ none. ap (λ (s : Standing). s.colours) turn
            ∙ further.keeps.colours none
            ∙ step.colours (omega (arith, further.colours none));
        levels =
            λ none. ap (λ (s : Standing). s.levels) turn
            ∙ further.keeps.levels none
            ∙ step.levels (omega (arith, further.levels none));
      };
      within = λ x y is. further.within x y (join_left watch.change change x y is);
      colours = λ none. omega (arith, further.colours none);
      levels = λ none. omega (arith, further.levels none);
    }
