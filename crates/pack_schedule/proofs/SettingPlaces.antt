-- Each place of the window needs its least number of instructions.
use Rattle.std.proofs.Common.{◌≡◌, ℕ, zero, suc, ◌+◌, ◌-◌, ◌*◌, ◌/◌, ◌%◌, ◌<◌, ◌≤◌, cond, List, length, get_or, map, replicate, refl, sym, ap, ap₂, ◌∙◌, subst, arith, All, Some, None}
use Rattle.std.specs.Prelude.{reverse, sum_by}
use Rattle.std.specs.declared.option.Option.{Option}
use Rattle.std.specs.List.{AllByRecursion}
use Rattle.std.proofs.lemmas.List.{ext_get_or, length-reverse, reverse-reverse}
use Rattle.std.proofs.lemmas.List.Elements.{All-from_recursion, recursion_from_All, All-map, All-from_get_or}
use Rattle.std.proofs.lemmas.List.FromFn.{get_or-map-range_with_len, get_or-range_with_len}
use Rattle.bit_lists.specs.Counting.{below}
use Rattle.cdg_instructions.specs.Instruction.{IsTilePixels}
use Rattle.cdg_instructions.specs.Drawing.{IsOfPlace, tile_from}
use Rattle.cdg_instructions.specs.declared.instr.Instr.{Instr}
use Rattle.cdg_screen.specs.Standing.{Standing, memory_from, standing_after, pixel_at}
use Rattle.cdg_screen.proofs.Lists.{pixel_of_rows}
use Rattle.tile_author.specs.Plan.{steps}
use Rattle.picture_script.specs.Script.{Drawing, picture_pixel, picture_tile}
use Rattle.pack_schedule.specs.Change.{window_places, tiles_before, IsStart}
use Rattle.pack_schedule.specs.PlannedChange.{tile_steps}
use Rattle.pack_schedule.proofs.Places.{place_of, places_in_order, picture_is_tile, colour_is_tile, start_small}
use Rattle.pack_schedule.proofs.PlannedLaws.{PlansAreShortest}
use Rattle.pack_schedule.specs.Shown.{ShowsPicture}
use Rattle.pack_schedule.proofs.Tiles.{each_reverse, place_row, place_column, tile_x, tile_y, HoldsTile}
use Rattle.pack_schedule.specs.Brings.{IsUnmoved, IsBefore, IsStill, Brings}
use Rattle.pack_schedule.proofs.Own.{own, own_tile, own_placed, preset_in, tile_since, length-tile_from}
use Rattle.pack_schedule.proofs.Adding.{tiles_in, sum_le, owned_few, window_few}
use Rattle.pack_schedule.proofs.ScheduleOrder.{in_window, offsets_kept}

-- ---- the tiles of a picture that is shown

pub tile_pixel : (script : List Drawing) (k row column p : ℕ) → p < 72
    → get_or (picture_tile script k row column) p 0
    ≡ picture_pixel script k (6 * (column - 1) + p % 6) (12 * (row - 1) + p / 6)
unfolding picture_tile
tile_pixel script k row column p lt =
    get_or-map-range_with_len
    (λ p. picture_pixel script k (6 * (column - 1) + p % 6) (12 * (row - 1) + p / 6)) 0 72 p p 0 lt
    (omega arith)

pub tile_shown : (script : List Drawing) (k : ℕ) (now : Standing) → ShowsPicture script k now → IsUnmoved now
    → (i : ℕ) → i < 768
    → HoldsTile (pixel_at now.memory) (place_row i) (place_column i)
    (picture_tile script k (place_row i) (place_column i))
tile_shown script k now shows unmoved i bound p lt =
    let x : ℕ = 6 * (place_column i - 1) + p % 6 in
    let y : ℕ = 12 * (place_row i - 1) + p / 6 in
    let xs : 6 * (place_column i - 1) + p % 6 < 288 = omega arith in
    let ys : 12 * (place_row i - 1) + p / 6 < 192 = omega (arith, bound, lt) in
    let across : tile_x (place_column i) p ≡ 6 * (place_column i - 1) + p % 6 + 6 + now.h =
    omega (arith, unmoved.0) in
    let down : tile_y (place_row i) p ≡ 12 * (place_row i - 1) + p / 6 + 12 + now.v =
    omega (arith, unmoved.1) in
    ap₂ (pixel_at now.memory) across down
    ∙ sym
    (ap (λ t. cond t (pixel_at now.memory (x + 6 + now.h) (y + 12 + now.v)) now.border) (in_window x y xs ys))
    ∙ shows.pixels x y xs ys ∙ sym (tile_pixel script k (place_row i) (place_column i) p lt)

-- ---- one place

needed : PlansAreShortest → (row column : ℕ) (base new : List ℕ) (before : List Instr) → row < 18
    → column < 50 → IsTilePixels base → IsTilePixels new → AllByRecursion (IsOfPlace row column) before
    → tile_from base before ≡ new → steps base new ≤ length before
needed plans row column base new before r c base_is new_is placed makes =
    let turned = each_reverse (IsOfPlace row column) before placed in
    let least = plans.least row column base new (omega (arith, r)) (omega (arith, c)) base_is new_is in
    omega (
      arith,
      length-reverse before,
      least.needed (reverse before) (record {
        of_place = All-from_recursion (IsOfPlace row column) (reverse before) turned;
        result = ap (tile_from base) (reverse-reverse before) ∙ makes;
      }),
    )

-- the memory of a place as a tile
tile_of_memory : (memory : ℕ → ℕ → ℕ) (row column : ℕ)
    → HoldsTile memory row column (map (λ p. memory (tile_x column p) (tile_y row p)) (below 72))
tile_of_memory memory row column p lt =
    sym (get_or-map-range_with_len (λ p. memory (tile_x column p) (tile_y row p)) 0 72 p p 0 lt (omega arith))

in_turn : (a b c : ℕ) → a ≤ b → b ≤ c → a ≤ c
in_turn a b c one two = omega (arith, one, two)

module _ (plans : PlansAreShortest) (script : List Drawing) (k : ℕ)
    (small : (k x y : ℕ) → picture_pixel script k x y < 16) (now : Standing) (instrs : List Instr)
    (is : IsBefore script k now) (brings : Brings script k now instrs) where
  pub still : AllByRecursion IsStill (reverse instrs)
  still = each_reverse IsStill instrs (recursion_from_All IsStill instrs brings.still)

  unmoved_before : (j : ℕ) → IsBefore script j now → IsUnmoved now
  unmoved_before zero h = h
  unmoved_before (suc j) h = h.1

  unmoved_after : IsUnmoved (standing_after now instrs)
  unmoved_after =
      let kept = offsets_kept (now.h, now.v) (reverse instrs) still in
      let first = unmoved_before k is in
      (ap (λ (o : ℕ × ℕ). o.0) kept ∙ first.0, ap (λ (o : ℕ × ℕ). o.1) kept ∙ first.1)

  -- a place, with its tile since the memory was last cleared
  at_place : (i : ℕ) (old base : List ℕ) → i < 768
      → HoldsTile (pixel_at now.memory) (place_row i) (place_column i) old
      → tile_since (preset_in (reverse instrs)) old ≡ base → IsTilePixels base
      → steps base (picture_tile script k (place_row i) (place_column i))
      ≤ length (own (place_row i) (place_column i) (reverse instrs))
  at_place i old base bound holds since base_is =
      let row : ℕ = place_row i in
      let column : ℕ = place_column i in
      let new : List ℕ = picture_tile script k row column in
      let r : place_row i ≤ 17 = omega (arith, bound) in
      let c : place_column i ≤ 49 = omega arith in
      let rs : List Instr = own row column (reverse instrs) in
      let placed = own_placed (place_row i) (place_column i) (reverse instrs) still in
      let made : HoldsTile (memory_from (pixel_at now.memory) (reverse instrs)) (place_row i) (place_column i)
      (tile_from base rs) =
      subst (λ b. HoldsTile (memory_from (pixel_at now.memory) (reverse instrs)) row column (tile_from b rs))
      since
      (own_tile (pixel_at now.memory) (place_row i) (place_column i) old (reverse instrs) r c still holds) in
      let new_is = picture_is_tile script k (place_row i) (place_column i) small in
      let size = length-tile_from (place_row i) (place_column i) base rs placed base_is.count in
      let shown = tile_shown script k (standing_after now instrs) brings.shows unmoved_after i bound in
      let makes : tile_from base rs ≡ new =
      ext_get_or 0 (tile_from base rs) new (size ∙ sym new_is.count) (λ p lt.
      let inside : p < 72 = omega (arith, lt, size) in
      sym (made p inside)
      ∙ sym (pixel_of_rows (memory_from (pixel_at now.memory) (reverse instrs)) (tile_x (place_column i) p)
      (tile_y (place_row i) p) (omega arith) (omega (arith, bound, inside)))
      ∙ shown p inside) in
      needed plans (place_row i) (place_column i) base new rs (omega (arith, r)) (omega (arith, c)) base_is
      new_is placed makes

  by_start : (j : ℕ) (start : Option ℕ) → j ≡ k → IsBefore script j now → preset_in (reverse instrs) ≡ start
      → IsStart j start → (i : ℕ) → i < 768
      → steps (tiles_before script j start (place_row i) (place_column i))
      (picture_tile script k (place_row i) (place_column i))
      ≤ length (own (place_row i) (place_column i) (reverse instrs))
  by_start j (Some colour) same h preset allowed i bound =
      at_place i
      (map (λ p. pixel_at now.memory (tile_x (place_column i) p) (tile_y (place_row i) p)) (below 72))
      (replicate 72 colour) bound (tile_of_memory (pixel_at now.memory) (place_row i) (place_column i))
      (ap (λ o. tile_since o
      (map (λ p. pixel_at now.memory (tile_x (place_column i) p) (tile_y (place_row i) p)) (below 72)))
      preset) (colour_is_tile colour (start_small j colour allowed))
  by_start zero None same h preset allowed i bound = absurd allowed
  by_start (suc j) None same h preset allowed i bound =
      let first : j ≡ suc j - 1 = omega arith in
      let old : List ℕ = picture_tile script (suc j - 1) (place_row i) (place_column i) in
      at_place i old old bound (subst (λ n. HoldsTile (pixel_at now.memory) (place_row i) (place_column i)
      (picture_tile script n (place_row i) (place_column i))) first (tile_shown script j now h.0 h.1 i bound))
      (ap (λ o. tile_since o old) preset)
      (picture_is_tile script (suc j - 1) (place_row i) (place_column i) small)

  -- all places
  pub tiles_needed : (start : Option ℕ) → preset_in (reverse instrs) ≡ start → IsStart k start
      → tile_steps script k start ≤ tiles_in (reverse instrs)
  unfolding tile_steps
  tiles_needed start preset allowed =
      let f : ℕ × ℕ → ℕ = λ p. steps (tiles_before script k start p.0 p.1) (picture_tile script k p.0 p.1) in
      let g : ℕ × ℕ → ℕ = λ p. length (own p.0 p.1 (reverse instrs)) in
      let all : All (λ p. f p ≤ g p) window_places =
      subst (λ (places : List (ℕ × ℕ)). All (λ p. f p ≤ g p) places) (sym places_in_order)
      (All-map (λ p. f p ≤ g p) place_of (below 768)
      (All-from_get_or (λ i. f (place_of i) ≤ g (place_of i)) (below 768) 0 (λ i lt.
      subst (λ n. f (place_of n) ≤ g (place_of n)) (sym (get_or-range_with_len 0 768 i 0 lt ∙ omega arith))
      (by_start k start refl is preset allowed i lt)))) in
      in_turn (sum_by f window_places) (sum_by g window_places) (tiles_in (reverse instrs))
      (sum_le f g window_places all) (owned_few window_places (reverse instrs) window_few)
