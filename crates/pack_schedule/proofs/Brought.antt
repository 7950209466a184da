-- Every valid change for a picture draws it.
use Rattle.std.proofs.Common.{◌≡◌, ℕ, zero, suc, ◌+◌, ◌-◌, ◌*◌, ◌/◌, ◌%◌, ◌<◌, ◌==◌, All, Bool, true, false, cond, List, [], ◌∷◌, ◌++◌, refl, sym, ap, ap₂, ◌∙◌, subst, arith, Some, None}
use Rattle.std.specs.Prelude.{count_by, sum_by}
use Rattle.std.specs.declared.option.Option.{Option}
use Rattle.std.specs.List.{AllByRecursion}
use Rattle.std.proofs.lemmas.List.Elements.{All-from_recursion, recursion_from_All}
use Rattle.std.proofs.lemmas.List.Sums.{sum_by-append}
use Rattle.cdg_instructions.specs.Instruction.{InRange, IsKnown}
use Rattle.cdg_instructions.specs.declared.instr.Instr.{Instr}
use Rattle.cdg_instructions.specs.declared.instr.Instr.TheVariants.{MemoryPreset, BorderPreset, ColoursLow, ColoursHigh, SetTile, XorTile, ScrollPreset, ScrollCopy}
use Rattle.cdg_instructions.specs.Drawing.{IsOfPlace}
use Rattle.cdg_screen.specs.Standing.{Standing, standing_after, pixel_at}
use Rattle.picture_script.specs.Script.{Drawing, low_colours, high_colours, picture_border, picture_pixel, picture_tile}
use Rattle.tile_author.specs.Plan.{are_equal}
use Rattle.pack_schedule.specs.Change.{settings, preset_of, tiles_before, AreTileChanges, window_places, IsChangeFrom, IsOrderedChange}
use Rattle.pack_schedule.specs.Shown.{AreColoursInRange, ShowsPicture}
use Rattle.pack_schedule.proofs.Tiles.{InTurn, place_row, place_column, tile_x, tile_y}
use Rattle.pack_schedule.proofs.ScheduleOrder.{in_window}
use Rattle.pack_schedule.proofs.Changes.{IsReady, Stands, change_stands}
use Rattle.pack_schedule.specs.Brings.{IsBefore, IsStill, SetsAll, Brings, sets_memory, sets_border, sets_low, sets_high}
use Rattle.pack_schedule.proofs.SettingPlaces.{tile_pixel, tile_shown}

abbrev IsSound : Instr → Type 0
IsSound instr = InRange instr × IsKnown instr

abbrev pub ChangesAreSound : Type 0
ChangesAreSound = (script : List Drawing) (k : ℕ) (start : Option ℕ) (instrs : List Instr)
    → AreColoursInRange script → IsChangeFrom script k start instrs
    → All IsSound instrs

-- ---- no instruction of a change scrolls

abbrev IsNoScroll : Instr → Type 0
IsNoScroll (ScrollPreset colour across h down v) = ⊥
IsNoScroll (ScrollCopy colour across h down v) = ⊥
IsNoScroll instr = Unit {0}

still_of : (instr : Instr) → IsNoScroll instr → InRange instr → IsStill instr
still_of (ScrollPreset colour across h down v) none range = absurd none
still_of (ScrollCopy colour across h down v) none range = absurd none
still_of instr none range = range

all_still : (instrs : List Instr) → AllByRecursion IsNoScroll instrs → AllByRecursion IsSound instrs
    → AllByRecursion IsStill instrs
all_still [] none sound = tt
all_still (instr ∷ instrs) none sound = (still_of instr none.0 sound.0.0, all_still instrs none.1 sound.1)

none_append : (xs ys : List Instr) → AllByRecursion IsNoScroll xs → AllByRecursion IsNoScroll ys
    → AllByRecursion IsNoScroll (xs ++ ys)
none_append [] ys all all' = all'
none_append (x ∷ xs) ys all all' = (all.0, none_append xs ys all.1 all')

none_of_place : (row column : ℕ) (instr : Instr) → IsOfPlace row column instr → IsNoScroll instr
none_of_place row column (SetTile colour0 colour1 r c lines) of_place = tt
none_of_place row column (XorTile colour0 colour1 r c lines) of_place = tt
none_of_place row column _ of_place = absurd of_place

none_tiles : (row column : ℕ) (instrs : List Instr) → AllByRecursion (IsOfPlace row column) instrs
    → AllByRecursion IsNoScroll instrs
none_tiles row column [] all = tt
none_tiles row column (i ∷ instrs) all =
    (none_of_place row column i all.0, none_tiles row column instrs all.1)

none_changes : (old new : ℕ → ℕ → List ℕ) (places : List (ℕ × ℕ)) (instrs : List Instr)
    → AreTileChanges old new places instrs
    → AllByRecursion IsNoScroll instrs
none_changes old new [] instrs changes = subst (AllByRecursion IsNoScroll) (sym changes) tt
none_changes old new (place ∷ rest) instrs changes =
    let (first, others, whole, turns, least, more) = changes in
    subst (AllByRecursion IsNoScroll) (sym whole) (none_append first others
    (none_tiles place.0 place.1 first (recursion_from_All (IsOfPlace place.0 place.1) first turns.of_place))
    (none_changes old new rest others more))

maybe_none : (skips : Bool) (instr : Instr) → IsNoScroll instr
    → AllByRecursion IsNoScroll (cond skips [] (instr ∷ []))
maybe_none true instr none = tt
maybe_none false instr none = (none, tt)

none_settings : (script : List Drawing) (k : ℕ) → AllByRecursion IsNoScroll (settings script k)
none_settings script zero = (tt, (tt, (tt, tt)))
none_settings script (suc k) =
    none_append _ _ (none_append _ _ (maybe_none (picture_border script k == picture_border script (suc k))
    (BorderPreset (picture_border script (suc k))) tt)
    (maybe_none (are_equal (low_colours script k) (low_colours script (suc k)))
    (ColoursLow (low_colours script (suc k))) tt))
    (maybe_none (are_equal (high_colours script k) (high_colours script (suc k)))
    (ColoursHigh (high_colours script (suc k))) tt)

none_preset : (start : Option ℕ) → AllByRecursion IsNoScroll (preset_of start)
none_preset (Some colour) = (tt, tt)
none_preset None = tt

none_change : (script : List Drawing) (k : ℕ) (start : Option ℕ) (instrs : List Instr)
    → IsChangeFrom script k start instrs
    → AllByRecursion IsNoScroll instrs
none_change script k start instrs change =
    subst (AllByRecursion IsNoScroll) (sym change.whole)
    (none_append (preset_of start ++ settings script k) change.tiles
    (none_append (preset_of start) (settings script k) (none_preset start) (none_settings script k))
    (none_changes (tiles_before script k start) (picture_tile script k) window_places change.tiles
    change.tile_changes))

-- ---- the first change sets everything

count_parts : (test : Instr → Bool) (a b c instrs : List Instr) → instrs ≡ a ++ b ++ c
    → count_by test instrs ≡ count_by test a + count_by test b + count_by test c
count_parts test a b c instrs whole =
    let f : Instr → ℕ = λ i. cond (test i) 1 0 in
    ap (sum_by f) whole ∙ sum_by-append f (a ++ b) c ∙ ap (λ n. n + sum_by f c) (sum_by-append f a b)

first_sets : (script : List Drawing) (start : Option ℕ) (instrs : List Instr)
    → IsChangeFrom script 0 start instrs
    → SetsAll instrs
first_sets script None instrs change = absurd change.allowed
first_sets script (Some colour) instrs change =
    let preset : List Instr = MemoryPreset colour 0 ∷ [] in
    let first : List Instr = settings script 0 in
    let memory : count_by sets_memory preset ≡ 1 = refl in
    let border : count_by sets_border first ≡ 1 = refl in
    let low : count_by sets_low first ≡ 1 = refl in
    let high : count_by sets_high first ≡ 1 = refl in
    record {
      memory = omega (arith, memory, count_parts sets_memory preset first change.tiles instrs change.whole);
      border = omega (arith, border, count_parts sets_border preset first change.tiles instrs change.whole);
      low = omega (arith, low, count_parts sets_low preset first change.tiles instrs change.whole);
      high = omega (arith, high, count_parts sets_high preset first change.tiles instrs change.whole);
    }

sets_if_first : (script : List Drawing) (k : ℕ) (start : Option ℕ) (instrs : List Instr)
    → IsChangeFrom script k start instrs → k ≡ 0
    → SetsAll instrs
sets_if_first script zero start instrs change first = first_sets script start instrs change
sets_if_first script (suc k) start instrs change first = absurd (omega (arith, first))

-- ---- after the change its picture is shown

-- the tile of a pixel of the window, and the number of the pixel in that tile
abbrev tile_number : ℕ → ℕ → ℕ
tile_number x y = 48 * (y / 12) + x / 6

abbrev pixel_number : ℕ → ℕ → ℕ
pixel_number x y = 6 * (y % 12) + x % 6

pub shown : (script : List Drawing) (k : ℕ) (s : Standing) → Stands script k s → ShowsPicture script k s
shown script k s stands = record {
  pixels = λ x y xs ys.
      let i : ℕ = 48 * (y / 12) + x / 6 in
      let p : ℕ = 6 * (y % 12) + x % 6 in
      let small : 6 * (y % 12) + x % 6 < 72 = omega arith in
      let bound : 48 * (y / 12) + x / 6 < 768 = omega (arith, xs, ys) in
      let across : x + 6 + s.h ≡ tile_x (place_column (tile_number x y)) (pixel_number x y) =
      omega (arith, stands.h, xs) in
      let down : y + 12 + s.v ≡ tile_y (place_row (tile_number x y)) (pixel_number x y) =
      omega (arith, stands.v, xs, ys) in
      let column : 6 * (place_column (tile_number x y) - 1) + pixel_number x y % 6 ≡ x = omega (arith, xs) in
      let row : 12 * (place_row (tile_number x y) - 1) + pixel_number x y / 6 ≡ y = omega (arith, xs, ys) in
      ap (λ t. cond t (pixel_at s.memory (x + 6 + s.h) (y + 12 + s.v)) s.border) (in_window x y xs ys)
      ∙ ap₂ (pixel_at s.memory) across down
      ∙ stands.tiles (tile_number x y) bound (pixel_number x y) small
      ∙ tile_pixel script k (place_row (tile_number x y)) (place_column (tile_number x y)) (pixel_number x y)
      small
      ∙ ap₂ (picture_pixel script k) column row;
  border = stands.border;
  colours = stands.colours;
}

is_ready : (script : List Drawing) (k : ℕ) (now : Standing) → IsBefore script k now → IsReady script k now
is_ready script zero now is = is
is_ready script (suc k) now is = record {
  tiles = tile_shown script k now is.0 is.1;
  border = is.0.border;
  colours = is.0.colours;
  h = is.1.0;
  v = is.1.1;
}

pub brings : InTurn → ChangesAreSound → (script : List Drawing) (k : ℕ) (now : Standing) (instrs : List Instr)
    → AreColoursInRange script → IsOrderedChange script k instrs → IsBefore script k now
    → Brings script k now instrs
brings in_turn sound_changes script k now instrs ranges change is = record {
  still =
      All-from_recursion IsStill instrs (all_still instrs
      (none_change script k change.start instrs change.change)
      (recursion_from_All IsSound instrs (sound_changes script k change.start instrs ranges change.change)));
  shows =
      shown script k (standing_after now instrs)
      (change_stands in_turn script k change.start instrs now change.change (is_ready script k now is));
  sets = sets_if_first script k change.start instrs change.change;
}
