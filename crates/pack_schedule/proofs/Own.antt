-- The tiles of one place since the memory was last cleared. Lists of instructions have the last one first.
use Rattle.std.proofs.Common.{◌≡◌, ℕ, ◌/◌, ◌%◌, ◌≤◌, ◌==◌, ◌&&◌, Bool, true, false, cond, List, [], ◌∷◌, length, get_or, replicate, sym, ap, ap₂, ◌∙◌, subst, arith, bit_xor, Some, None}
use Rattle.std.specs.declared.option.Option.{Option}
use Rattle.std.specs.List.{AllByRecursion}
use Rattle.std.proofs.lemmas.List.{get_or-replicate}
use Rattle.std.proofs.lemmas.List.FromFn.{length-map-range_with_len, get_or-map-range_with_len}
use Rattle.cdg_instructions.specs.Drawing.{IsOfPlace, drawn_pixel, tile_colour, tile_from}
use Rattle.cdg_instructions.specs.declared.instr.Instr.{Instr}
use Rattle.cdg_instructions.specs.declared.instr.Instr.TheVariants.{MemoryPreset, SetTile, XorTile, ScrollPreset, ScrollCopy}
use Rattle.cdg_screen.specs.Standing.{covers, memory_from}
use Rattle.pack_schedule.proofs.Tiles.{tile_x, tile_y, HoldsTile}
use Rattle.pack_schedule.specs.Brings.{IsStill}
use Rattle.pack_schedule.proofs.TileTests.{by_test, and_both, eq_of, are_eq, covers_here, covers_only}

abbrev pub is_here : ℕ → ℕ → ℕ → ℕ → Bool
is_here row column r c = (r == row) && (c == column)

abbrev pub own : ℕ → ℕ → List Instr → List Instr
own row column [] = []
own row column (MemoryPreset colour repeat ∷ before) = []
own row column (SetTile colour0 colour1 r c lines ∷ before) =
    let rest = own row column before in
    cond (is_here row column r c) (SetTile colour0 colour1 r c lines ∷ rest) rest
own row column (XorTile colour0 colour1 r c lines ∷ before) =
    let rest = own row column before in
    cond (is_here row column r c) (XorTile colour0 colour1 r c lines ∷ rest) rest
own row column (_ ∷ before) = own row column before

-- the colour of the last instruction that cleared the memory
abbrev pub preset_in : List Instr → Option ℕ
preset_in [] = None
preset_in (MemoryPreset colour repeat ∷ before) = Some colour
preset_in (_ ∷ before) = preset_in before

-- the tile after that instruction
abbrev pub tile_since : Option ℕ → List ℕ → List ℕ
tile_since (Some colour) old = replicate 72 colour
tile_since None old = old

-- the instructions of a place draw its tile
pub own_tile : (start : ℕ → ℕ → ℕ) (row column : ℕ) (old : List ℕ) (before : List Instr) → row ≤ 17
    → column ≤ 49 → AllByRecursion IsStill before → HoldsTile start row column old
    → HoldsTile (memory_from start before) row column
    (tile_from (tile_since (preset_in before) old) (own row column before))
unfolding tile_from
own_tile start row column old [] r c all holds p lt = holds p lt
own_tile start row column old (MemoryPreset colour repeat ∷ before) r c all holds p lt =
    sym (get_or-replicate 72 p colour 0 lt)
own_tile start row column old (SetTile colour0 colour1 r' c' lines ∷ before) r c all holds p lt =
    let base : List ℕ = tile_since (preset_in before) old in
    let rest : List Instr = own row column before in
    let new_pixel : ℕ = tile_colour colour0 colour1 lines (tile_x column p % 6) (tile_y row p % 12) in
    let old_pixel : ℕ = memory_from start before (tile_x column p) (tile_y row p) in
    by_test (is_here row column r' c') (λ yes.
    let tests = and_both (r' == row) (c' == column) yes in
    let here : covers r' c' (tile_x column p) (tile_y row p) ≡ true =
    ap₂ (λ a b. covers a b (tile_x column p) (tile_y row p)) (eq_of r' row tests.0) (eq_of c' column tests.1)
    ∙ covers_here row column p r c lt in
    let across : tile_x column p % 6 ≡ p % 6 = omega arith in
    let down : tile_y row p % 12 ≡ p / 6 = omega (arith, lt) in
    ap (λ t. cond t new_pixel old_pixel) here ∙ ap₂ (tile_colour colour0 colour1 lines) across down
    ∙ sym (get_or-map-range_with_len (drawn_pixel colour0 colour1 lines) 0 72 p p 0 lt (omega arith))
    ∙ sym
    (ap (λ t. get_or (tile_from base (cond t (SetTile colour0 colour1 r' c' lines ∷ rest) rest)) p 0) yes))
    (λ other.
    let away : covers r' c' (tile_x column p) (tile_y row p) ≡ false =
    covers_only r' c' row column p lt (λ e f. absurd (let yes = are_eq r' row c' column e f in cc)) in
    ap (λ t. cond t new_pixel old_pixel) away ∙ own_tile start row column old before r c all.1 holds p lt
    ∙ sym
    (ap (λ t. get_or (tile_from base (cond t (SetTile colour0 colour1 r' c' lines ∷ rest) rest)) p 0) other))
own_tile start row column old (XorTile colour0 colour1 r' c' lines ∷ before) r c all holds p lt =
    let base : List ℕ = tile_since (preset_in before) old in
    let rest : List Instr = own row column before in
    let new_pixel : ℕ = tile_colour colour0 colour1 lines (tile_x column p % 6) (tile_y row p % 12) in
    let old_pixel : ℕ = memory_from start before (tile_x column p) (tile_y row p) in
    by_test (is_here row column r' c') (λ yes.
    let tests = and_both (r' == row) (c' == column) yes in
    let here : covers r' c' (tile_x column p) (tile_y row p) ≡ true =
    ap₂ (λ a b. covers a b (tile_x column p) (tile_y row p)) (eq_of r' row tests.0) (eq_of c' column tests.1)
    ∙ covers_here row column p r c lt in
    let across : tile_x column p % 6 ≡ p % 6 = omega arith in
    let down : tile_y row p % 12 ≡ p / 6 = omega (arith, lt) in
    ap (λ t. cond t (bit_xor new_pixel old_pixel) old_pixel) here
    ∙ ap₂ bit_xor (ap₂ (tile_colour colour0 colour1 lines) across down)
    (own_tile start row column old before r c all.1 holds p lt)
    ∙ sym (get_or-map-range_with_len
    (λ q. bit_xor (drawn_pixel colour0 colour1 lines q) (get_or (tile_from base rest) q 0)) 0 72 p p 0 lt
    (omega arith))
    ∙ sym
    (ap (λ t. get_or (tile_from base (cond t (XorTile colour0 colour1 r' c' lines ∷ rest) rest)) p 0) yes))
    (λ other.
    let away : covers r' c' (tile_x column p) (tile_y row p) ≡ false =
    covers_only r' c' row column p lt (λ e f. absurd (let yes = are_eq r' row c' column e f in cc)) in
    ap (λ t. cond t (bit_xor new_pixel old_pixel) old_pixel) away
    ∙ own_tile start row column old before r c all.1 holds p lt
    ∙ sym
    (ap (λ t. get_or (tile_from base (cond t (XorTile colour0 colour1 r' c' lines ∷ rest) rest)) p 0) other))
own_tile start row column old (ScrollPreset a b h d v ∷ before) r c all holds p lt = absurd all.0
own_tile start row column old (ScrollCopy a b h d v ∷ before) r c all holds p lt = absurd all.0
own_tile start row column old (_ ∷ before) r c all holds p lt =
    own_tile start row column old before r c all.1 holds p lt

-- the instructions of a place concern only this place
pub own_placed : (row column : ℕ) (before : List Instr) → AllByRecursion IsStill before
    → AllByRecursion (IsOfPlace row column) (own row column before)
own_placed row column [] all = tt
own_placed row column (MemoryPreset colour repeat ∷ before) all = tt
own_placed row column (SetTile colour0 colour1 r c lines ∷ before) all =
    let rest : List Instr = own row column before in
    by_test (is_here row column r c) (λ yes.
    let tests = and_both (r == row) (c == column) yes in
    subst
    (λ t. AllByRecursion (IsOfPlace row column) (cond t (SetTile colour0 colour1 r c lines ∷ rest) rest))
    (sym yes) ((eq_of r row tests.0, eq_of c column tests.1, all.0), own_placed row column before all.1))
    (λ other. subst
    (λ t. AllByRecursion (IsOfPlace row column) (cond t (SetTile colour0 colour1 r c lines ∷ rest) rest))
    (sym other) (own_placed row column before all.1))
own_placed row column (XorTile colour0 colour1 r c lines ∷ before) all =
    let rest : List Instr = own row column before in
    by_test (is_here row column r c) (λ yes.
    let tests = and_both (r == row) (c == column) yes in
    subst
    (λ t. AllByRecursion (IsOfPlace row column) (cond t (XorTile colour0 colour1 r c lines ∷ rest) rest))
    (sym yes) ((eq_of r row tests.0, eq_of c column tests.1, all.0), own_placed row column before all.1))
    (λ other. subst
    (λ t. AllByRecursion (IsOfPlace row column) (cond t (XorTile colour0 colour1 r c lines ∷ rest) rest))
    (sym other) (own_placed row column before all.1))
own_placed row column (ScrollPreset a b h d v ∷ before) all = absurd all.0
own_placed row column (ScrollCopy a b h d v ∷ before) all = absurd all.0
own_placed row column (_ ∷ before) all = own_placed row column before all.1

-- a tile keeps its length
pub length-tile_from : (row column : ℕ) (old : List ℕ) (before : List Instr)
    → AllByRecursion (IsOfPlace row column) before → length old ≡ 72
    → length (tile_from old before) ≡ 72
unfolding tile_from
length-tile_from row column old [] all size = size
length-tile_from row column old (SetTile colour0 colour1 r c lines ∷ before) all size =
    length-map-range_with_len (drawn_pixel colour0 colour1 lines) 0 72
length-tile_from row column old (XorTile colour0 colour1 r c lines ∷ before) all size =
    length-map-range_with_len
    (λ q. bit_xor (drawn_pixel colour0 colour1 lines q) (get_or (tile_from old before) q 0)) 0 72
length-tile_from row column old (_ ∷ before) all size = absurd all.0
