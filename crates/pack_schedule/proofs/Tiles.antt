-- The standing after tile instructions.
use Rattle.std.proofs.Common.{◌≡◌, ℕ, zero, suc, ◌+◌, ◌*◌, ◌/◌, ◌%◌, ◌<◌, ◌≤◌, ◌==◌, nat_le, ◌&&◌, inl, inr, Bool, true, false, cond, List, [], ◌∷◌, ◌++◌, get_or, map, refl, sym, ap, ap₂, ◌∙◌, subst, arith, bit_xor}
use Rattle.std.specs.Prelude.{reverse}
use Rattle.std.specs.List.{AllByRecursion, range_with_len}
use Rattle.std.proofs.lemmas.Bool.Decides.{eqb_tells, leb_tells}
use Rattle.std.proofs.lemmas.List.{reverse-append}
use Rattle.std.proofs.lemmas.List.Elements.{recursion_from_All}
use Rattle.std.proofs.lemmas.List.FromFn.{get_or-map-range_with_len}
use Rattle.bit_lists.specs.Counting.{below}
use Rattle.cdg_instructions.specs.Drawing.{IsOfPlace, drawn_pixel, tile_colour, tile_from, Turns}
use Rattle.cdg_instructions.specs.declared.instr.Instr.{Instr}
use Rattle.cdg_instructions.specs.declared.instr.Instr.TheVariants.{SetTile, XorTile}
use Rattle.std.specs.Prelude.{slice_index}
use Rattle.cdg_screen.specs.Standing.{Standing, covers, memory_from, border_from, colour_from, offsets_from, standing_after, pixel_at}
use Rattle.cdg_screen.proofs.Lists.{pixel_of_rows, number_of_sixteen}
use Rattle.pack_schedule.specs.Change.{AreTileChanges, window_places}

-- ---- tests

by_test : {P : Type 0} (a : Bool) → (a ≡ true → P) → (a ≡ false → P) → P
by_test true f g = f refl
by_test false f g = g refl

pub and_four : (a b c d : Bool) → a ≡ true → b ≡ true → c ≡ true → d ≡ true → (a && b && c && d) ≡ true
and_four a b c d p q r s =
    subst (λ x. (x && b && c && d) ≡ true) (sym p) (subst (λ x. (true && x && c && d) ≡ true) (sym q)
    (subst (λ x. (true && true && x && d) ≡ true) (sym r) s))

-- the last two of four tests
and_last : (a b c d : Bool) → (a && b && c && d) ≡ true → (c ≡ true) × (d ≡ true)
and_last true true true true e = (refl, refl)
and_last true true true false e = (refl, e)
and_last true true false d e = absurd (cc)
and_last true false c d e = absurd (cc)
and_last false b c d e = absurd (cc)

eq_of : (a b : ℕ) → (a == b) ≡ true → a ≡ b
eq_of a b e = elim (eqb_tells a b) [ inl same ↦ same.1 | inr other ↦ absurd (cc) ]

is_eq : (a b : ℕ) → a ≡ b → (a == b) ≡ true
is_eq a b e = elim (eqb_tells a b) [ inl same ↦ same.0 | inr other ↦ absurd (other.1 e) ]

pub is_le : (a b : ℕ) → a ≤ b → nat_le a b ≡ true
is_le a b le =
    elim (leb_tells a b) [ inl decides ↦ decides.0 | inr decides ↦ absurd (omega (arith, le, decides.1)) ]

-- ---- each element of a reversed list

each_append : {X : Type 0} (P : X → Type 0) (xs ys : List X) → AllByRecursion P xs → AllByRecursion P ys
    → AllByRecursion P (xs ++ ys)
each_append P [] ys all all' = all'
each_append P (x ∷ xs) ys all all' = (all.0, each_append P xs ys all.1 all')

pub each_reverse : {X : Type 0} (P : X → Type 0) (xs : List X) → AllByRecursion P xs
    → AllByRecursion P (reverse xs)
each_reverse P [] all = tt
each_reverse P (x ∷ xs) all =
    subst (AllByRecursion P) (sym (reverse-append (x ∷ []) xs))
    (each_append P (reverse xs) (x ∷ []) (each_reverse P xs all.1) (all.0, tt))

-- ---- one tile

-- the coordinates of pixel p of the tile at a row and a column
abbrev pub tile_x : ℕ → ℕ → ℕ
tile_x column p = 6 * column + p % 6

abbrev pub tile_y : ℕ → ℕ → ℕ
tile_y row p = 12 * row + p / 6

-- the memory contains these pixels of a tile
abbrev pub HoldsTile : (ℕ → ℕ → ℕ) → ℕ → ℕ → List ℕ → Type 0
HoldsTile memory row column tile =
    (p : ℕ) → p < 72 → memory (tile_x column p) (tile_y row p) ≡ get_or tile p 0

covers_here : (row column p : ℕ) → row ≤ 17 → column ≤ 49 → p < 72
    → covers row column (tile_x column p) (tile_y row p) ≡ true
covers_here row column p r c lt =
    and_four (nat_le row 17) (nat_le column 49) (tile_x column p / 6 == column) (tile_y row p / 12 == row)
    (is_le row 17 r) (is_le column 49 c) (is_eq (tile_x column p / 6) column (omega arith))
    (is_eq (tile_y row p / 12) row (omega (arith, lt)))

covers_only : (row column row' column' p : ℕ) → p < 72 → (row ≡ row' → column ≡ column' → ⊥)
    → covers row column (tile_x column' p) (tile_y row' p) ≡ false
covers_only row column row' column' p lt apart =
    by_test (covers row column (tile_x column' p) (tile_y row' p)) (λ yes.
    let tests =
    and_last (nat_le row 17) (nat_le column 49) (tile_x column' p / 6 == column) (tile_y row' p / 12 == row)
    yes in
    absurd (apart (omega (arith, eq_of (tile_y row' p / 12) row tests.1, lt))
    (omega (arith, eq_of (tile_x column' p / 6) column tests.0)))) (λ no. no)

-- the list has the last instruction first
tile_memory : (start : ℕ → ℕ → ℕ) (row column : ℕ) (old : List ℕ) (before : List Instr) → row ≤ 17
    → column ≤ 49 → AllByRecursion (IsOfPlace row column) before → HoldsTile start row column old
    → HoldsTile (memory_from start before) row column (tile_from old before)
unfolding tile_from
tile_memory start row column old [] r c all holds p lt = holds p lt
tile_memory start row column old (SetTile colour0 colour1 row' column' lines ∷ before) r c all holds p lt =
    let here : covers row' column' (tile_x column p) (tile_y row p) ≡ true =
    ap₂ (λ a b. covers a b (tile_x column p) (tile_y row p)) all.0.0 all.0.1
    ∙ covers_here row column p r c lt in
    let across : tile_x column p % 6 ≡ p % 6 = omega arith in
    let down : tile_y row p % 12 ≡ p / 6 = omega (arith, lt) in
    ap (λ t. cond t (tile_colour colour0 colour1 lines (tile_x column p % 6) (tile_y row p % 12))
    (memory_from start before (tile_x column p) (tile_y row p))) here
    ∙ ap₂ (tile_colour colour0 colour1 lines) across down
    ∙ sym (get_or-map-range_with_len (drawn_pixel colour0 colour1 lines) 0 72 p p 0 lt (omega arith))
tile_memory start row column old (XorTile colour0 colour1 row' column' lines ∷ before) r c all holds p lt =
    let here : covers row' column' (tile_x column p) (tile_y row p) ≡ true =
    ap₂ (λ a b. covers a b (tile_x column p) (tile_y row p)) all.0.0 all.0.1
    ∙ covers_here row column p r c lt in
    let across : tile_x column p % 6 ≡ p % 6 = omega arith in
    let down : tile_y row p % 12 ≡ p / 6 = omega (arith, lt) in
    let old_pixel : ℕ = memory_from start before (tile_x column p) (tile_y row p) in
    ap (λ t. cond t (bit_xor (tile_colour colour0 colour1 lines (tile_x column p % 6) (tile_y row p % 12))
    (memory_from start before (tile_x column p) (tile_y row p)))
    (memory_from start before (tile_x column p) (tile_y row p))) here
    ∙ ap₂ bit_xor (ap₂ (tile_colour colour0 colour1 lines) across down)
    (tile_memory start row column old before r c all.1 holds p lt)
    ∙ sym (get_or-map-range_with_len
    (λ p. bit_xor (drawn_pixel colour0 colour1 lines p) (get_or (tile_from old before) p 0)) 0 72 p p 0 lt
    (omega arith))
tile_memory start row column old (_ ∷ before) r c all holds p lt = absurd all.0

other_memory : (start : ℕ → ℕ → ℕ) (row column : ℕ) (before : List Instr) (x y : ℕ)
    → AllByRecursion (IsOfPlace row column) before → covers row column x y ≡ false
    → memory_from start before x y ≡ start x y
other_memory start row column [] x y all other = refl
other_memory start row column (SetTile colour0 colour1 row' column' lines ∷ before) x y all other =
    let outside : covers row' column' x y ≡ false = ap₂ (λ a b. covers a b x y) all.0.0 all.0.1 ∙ other in
    ap (λ t. cond t (tile_colour colour0 colour1 lines (x % 6) (y % 12)) (memory_from start before x y))
    outside
    ∙ other_memory start row column before x y all.1 other
other_memory start row column (XorTile colour0 colour1 row' column' lines ∷ before) x y all other =
    let outside : covers row' column' x y ≡ false = ap₂ (λ a b. covers a b x y) all.0.0 all.0.1 ∙ other in
    ap (λ t. cond t
    (bit_xor (tile_colour colour0 colour1 lines (x % 6) (y % 12)) (memory_from start before x y))
    (memory_from start before x y)) outside
    ∙ other_memory start row column before x y all.1 other
other_memory start row column (_ ∷ before) x y all other = absurd all.0

-- only the memory changed
pub record KeepsSettings (s s' : Standing) : Type 0 where
  pub border : s'.border ≡ s.border
  pub colour : (n : ℕ) → n < 16 → slice_index s'.colours n ≡ slice_index s.colours n
  pub h : s'.h ≡ s.h
  pub v : s'.v ≡ s.v

tile_border : (start : ℕ) (row column : ℕ) (before : List Instr)
    → AllByRecursion (IsOfPlace row column) before
    → border_from start before ≡ start
tile_border start row column [] all = refl
tile_border start row column (SetTile colour0 colour1 row' column' lines ∷ before) all =
    tile_border start row column before all.1
tile_border start row column (XorTile colour0 colour1 row' column' lines ∷ before) all =
    tile_border start row column before all.1
tile_border start row column (_ ∷ before) all = absurd all.0

tile_colours : (start : ℕ → ℕ) (row column : ℕ) (before : List Instr) (n : ℕ)
    → AllByRecursion (IsOfPlace row column) before
    → colour_from start before n ≡ start n
tile_colours start row column [] n all = refl
tile_colours start row column (SetTile colour0 colour1 row' column' lines ∷ before) n all =
    tile_colours start row column before n all.1
tile_colours start row column (XorTile colour0 colour1 row' column' lines ∷ before) n all =
    tile_colours start row column before n all.1
tile_colours start row column (_ ∷ before) n all = absurd all.0

tile_offsets : (start : ℕ × ℕ) (row column : ℕ) (before : List Instr)
    → AllByRecursion (IsOfPlace row column) before
    → offsets_from start before ≡ start
tile_offsets start row column [] all = refl
tile_offsets start row column (SetTile colour0 colour1 row' column' lines ∷ before) all =
    tile_offsets start row column before all.1
tile_offsets start row column (XorTile colour0 colour1 row' column' lines ∷ before) all =
    tile_offsets start row column before all.1
tile_offsets start row column (_ ∷ before) all = absurd all.0

module _ (start : Standing) (row column : ℕ) (old new : List ℕ) (instrs : List Instr)
    (turns : Turns row column old new instrs) where
  placed : AllByRecursion (IsOfPlace row column) (reverse instrs)
  placed =
      each_reverse (IsOfPlace row column) instrs
      (recursion_from_All (IsOfPlace row column) instrs turns.of_place)

  turned : row ≤ 17 → column ≤ 49 → HoldsTile (pixel_at start.memory) row column old
      → HoldsTile (pixel_at (standing_after start instrs).memory) row column new
  turned r c holds p lt =
      let made : HoldsTile (memory_from (pixel_at start.memory) (reverse instrs)) row column new =
      subst (HoldsTile (memory_from (pixel_at start.memory) (reverse instrs)) row column) turns.result
      (tile_memory (pixel_at start.memory) row column old (reverse instrs) r c placed holds) in
      pixel_of_rows (memory_from (pixel_at start.memory) (reverse instrs)) (tile_x column p) (tile_y row p)
      (omega arith) (omega (arith, lt))
      ∙ made p lt

  untouched : (row' column' p : ℕ) → row' ≤ 17 → column' ≤ 49 → p < 72 → (row ≡ row' → column ≡ column' → ⊥)
      → pixel_at (standing_after start instrs).memory (tile_x column' p) (tile_y row' p)
      ≡ pixel_at start.memory (tile_x column' p) (tile_y row' p)
  untouched row' column' p r c lt apart =
      pixel_of_rows (memory_from (pixel_at start.memory) (reverse instrs)) (tile_x column' p) (tile_y row' p)
      (omega arith) (omega (arith, lt))
      ∙ other_memory (pixel_at start.memory) row column (reverse instrs) (tile_x column' p) (tile_y row' p)
      placed (covers_only row column row' column' p lt apart)

  kept : KeepsSettings start (standing_after start instrs)
  kept =
      let offsets = tile_offsets (start.h, start.v) row column (reverse instrs) placed in
      record {
        border = tile_border start.border row column (reverse instrs) placed;
        colour =
            λ n lt. number_of_sixteen (colour_from (slice_index start.colours) (reverse instrs)) n lt
            ∙ tile_colours (slice_index start.colours) row column (reverse instrs) n placed;
        h = ap (λ (o : ℕ × ℕ). o.0) offsets;
        v = ap (λ (o : ℕ × ℕ). o.1) offsets;
      }

-- ---- all tiles of the window

-- place number k of the window
abbrev pub place_row : ℕ → ℕ
place_row k = k / 48 + 1

abbrev pub place_column : ℕ → ℕ
place_column k = k % 48 + 1

abbrev place_of : ℕ → ℕ × ℕ
place_of k = (place_row k, place_column k)

places_in_order : window_places ≡ map place_of (below 768)
places_in_order = refl

abbrev pub HoldsAt : Standing → (ℕ → ℕ → List ℕ) → ℕ → Type 0
HoldsAt s tiles k =
    HoldsTile (pixel_at s.memory) (place_row k) (place_column k) (tiles (place_row k) (place_column k))

-- instructions may be executed in two parts
abbrev pub InTurn : Type 0
InTurn = (start : Standing) (early late : List Instr)
    → standing_after start (early ++ late) ≡ standing_after (standing_after start early) late

-- n tiles from place a became new ones, and nothing else changed
pub record Changed (a n : ℕ) (new : ℕ → ℕ → List ℕ) (s s' : Standing) : Type 0 where
  pub inside : (k : ℕ) → a ≤ k → k < a + n → HoldsAt s' new k
  pub outside : (k p : ℕ) → k < 768 → p < 72 → (a ≤ k → k < a + n → ⊥)
      → pixel_at s'.memory (tile_x (place_column k) p) (tile_y (place_row k) p)
      ≡ pixel_at s.memory (tile_x (place_column k) p) (tile_y (place_row k) p)
  pub settings : KeepsSettings s s'

pub tiles_change : InTurn → (old new : ℕ → ℕ → List ℕ) (n a : ℕ) (s : Standing) (instrs : List Instr)
    → a + n ≤ 768 → AreTileChanges old new (map place_of (range_with_len a n)) instrs
    → ((k : ℕ) → a ≤ k → k < a + n → HoldsAt s old k) → Changed a n new s (standing_after s instrs)
tiles_change in_turn old new zero a s instrs fits changes holds =
    subst (λ (is : List Instr). Changed a 0 new s (standing_after s is)) (sym changes) (record {
      inside = λ k from to. absurd (omega (arith, from, to));
      outside =
          λ k p lt small other. pixel_of_rows (pixel_at s.memory) (tile_x (place_column k) p)
          (tile_y (place_row k) p) (omega arith) (omega (arith, lt, small));
      settings = record {
        border = refl;
        colour = λ n lt. number_of_sixteen (slice_index s.colours) n lt;
        h = refl;
        v = refl;
      };
    })
tiles_change in_turn old new (suc n) a s instrs fits changes holds =
    let (first, others, whole, turns, least, more) = changes in
    let s1 : Standing = standing_after s first in
    let row : ℕ = place_row a in
    let column : ℕ = place_column a in
    let r : place_row a ≤ 17 = omega (arith, fits) in
    let c : place_column a ≤ 49 = omega arith in
    let same : standing_after s instrs ≡ standing_after (standing_after s first) others =
    subst (λ (is : List Instr). standing_after s is ≡ standing_after (standing_after s first) others)
    (sym whole) (in_turn s first others) in
    let one : HoldsAt (standing_after s first) new a =
    turned s (place_row a) (place_column a) _ _ first turns r c (holds a (omega arith) (omega arith)) in
    let away : (k p : ℕ) → k < 768 → p < 72 → (a ≡ k → ⊥)
    → pixel_at (standing_after s first).memory (tile_x (place_column k) p) (tile_y (place_row k) p)
    ≡ pixel_at s.memory (tile_x (place_column k) p) (tile_y (place_row k) p) =
    λ k p lt small other. untouched s (place_row a) (place_column a) _ _ first turns (place_row k)
    (place_column k) p (omega (arith, lt)) (omega arith) small
    (λ rows columns. other (omega (arith, rows, columns))) in
    let rest =
    tiles_change in_turn old new n (a + 1) (standing_after s first) others (omega (arith, fits)) more
    (λ k from to p small. away k p (omega (arith, to, fits)) small (λ e. omega (arith, e, from))
    ∙ holds k (omega (arith, from)) (omega (arith, to)) p small) in
    let first_kept = kept s (place_row a) (place_column a) _ _ first turns in
    record {
      inside = λ k from to p small.
          let bound : k < 768 = omega (arith, to, fits) in
          ap (λ (now : Standing). pixel_at now.memory (tile_x (place_column k) p) (tile_y (place_row k) p))
          same
          ∙ elim (leb_tells (suc a) k) [
            | inl later ↦ rest.inside k (omega (arith, later.1)) (omega (arith, to)) p small
            | inr here ↦
                let is : a ≡ k = omega (arith, here.1, from) in
                rest.outside k p bound small (λ from' to'. omega (arith, from', here.1))
                ∙ subst (λ j. HoldsAt (standing_after s first) new j) is one p small
          ];
      outside = λ k p bound small other.
          ap (λ (now : Standing). pixel_at now.memory (tile_x (place_column k) p) (tile_y (place_row k) p))
          same
          ∙ rest.outside k p bound small (λ from to. other (omega (arith, from)) (omega (arith, to)))
          ∙ away k p bound small (λ e. other (omega (arith, e)) (omega (arith, e)));
      settings = record {
        border = ap (λ (now : Standing). now.border) same ∙ rest.settings.border ∙ first_kept.border;
        colour =
            λ n lt. ap (λ (now : Standing). slice_index now.colours n) same
            ∙ rest.settings.colour n lt
            ∙ first_kept.colour n lt;
        h = ap (λ (now : Standing). now.h) same ∙ rest.settings.h ∙ first_kept.h;
        v = ap (λ (now : Standing). now.v) same ∙ rest.settings.v ∙ first_kept.v;
      };
    }

-- all tiles of the window
pub window_changes : InTurn → (old new : ℕ → ℕ → List ℕ) (s : Standing) (instrs : List Instr)
    → AreTileChanges old new window_places instrs → ((k : ℕ) → k < 768 → HoldsAt s old k)
    → Changed 0 768 new s (standing_after s instrs)
window_changes in_turn old new s instrs changes holds =
    tiles_change in_turn old new 768 0 s instrs (omega arith)
    (subst (λ (places : List (ℕ × ℕ)). AreTileChanges old new places instrs) places_in_order changes)
    (λ k from to. holds k (omega (arith, to)))
