-- Tiles that are equal before and after a change.
use Rattle.std.proofs.Common.{◌≡◌, ◌≢◌, ℕ, zero, suc, ◌+◌, ◌-◌, ◌*◌, ◌/◌, ◌%◌, ◌<◌, ◌≤◌, Bool, true, false, List, [], ◌∷◌, map, length, get_or, replicate, refl, ap, ap₂, sym, subst, ◌∙◌, arith, below_more, bit_xor}
use Rattle.std.specs.Prelude.{Option, Some, None, not, slice_index, slice_set, nat_lt, if◌then◌else◌}
use Rattle.std.specs.Option.{is_some}
use Rattle.std.specs.Int.Bits.{xor_self}
use Rattle.std.specs.Cmp.{booleans_Decides}
use Rattle.std.specs.Cmp.Lexicographic.{pointwise}
use Rattle.std.proofs.Math.Bool.{beq}
use Rattle.std.proofs.Math.ListN.{length-set}
use Rattle.std.proofs.lemmas.Slice.Eq.{slice_eq-Decides}
use Rattle.std.proofs.lemmas.Bool.{false≢true}
use Rattle.std.proofs.lemmas.Bool.Decides.{nat_tests}
use Rattle.std.proofs.lemmas.List.{get_or-replicate, get_or_default, get_or-set_other, get_or-set_same}
use Rattle.bit_lists.specs.Counting.{below}
use Rattle.cdg_instructions.specs.Sizes.{tile_pixels}
use Rattle.cdg_instructions.specs.declared.instr.Instr.{Instr}
use Rattle.tile_author.specs.Plan.{are_equal, delta, steps, plan, weight}
use Rattle.picture_script.specs.Script.{Drawing, picture_pixel, picture_tile}
use Rattle.picture_script.specs.Board.{Board, IsPicture, tile_of}
use Rattle.picture_script.specs.DrawnRows.{KeepsRows}
use Rattle.picture_script.proofs.Drawn.{picture_tile_is}
use Rattle.picture_script.proofs.Parts.{tile_pixel, tile_size}
use Rattle.pack_schedule.specs.Change.{settings, IsStart, tiles_before}
use Rattle.pack_schedule.specs.PlannedChange.{planned_length, tile_steps, first_least, chosen_start}
use Rattle.pack_schedule.specs.SameTiles.{MarksTiles, MarksRow, SameRow, SameTiles}
use Rattle.pack_schedule.specs.Weights.{IsWeighed, AreWeights, not_weighed}
use Rattle.pack_schedule.specs.declared.change.tiles.TileMarks.{TileMarks}
use Rattle.pack_schedule.specs.declared.change.tiles.Weighed.{Weighed}
use Rattle.pack_schedule.proofs.Counting.{steps_so_far, none_so_far, one_more_tile, all_tiles}
use Rattle.pack_schedule.proofs.SettingLaws.{zero_all}

pub all_rows : (old new : List ℕ) (r : ℕ) → 16 ≤ r → ((m : ℕ) → m < r → SameRow old new (m + 1))
    → SameTiles old new
all_rows old new r end all row first last column from to =
    let back : row - 1 + 1 ≡ row = omega arith in
    subst (λ n. tile_of old n column ≡ tile_of new n column) back (all (row - 1) (omega arith) column from to)

-- a tile that is already there needs no instruction
equal_self : (t : List ℕ) → are_equal t t ≡ true
unfolding are_equal delta
equal_self t =
    zero_all (λ p. bit_xor (slice_index t p) (slice_index t p)) 72 0 (λ p. xor_self (slice_index t p))

pub steps_self : (old new : List ℕ) → old ≡ new → steps old new ≡ 0
unfolding steps
steps_self old new same = ap (steps old) (sym same) ∙ rw (equal_self old) refl

pub plan_self : (row column : ℕ) (old new : List ℕ) → old ≡ new → plan row column old new ≡ []
unfolding plan
plan_self row column old new same = ap (plan row column old) (sym same) ∙ rw (equal_self old) refl

-- a tile of the picture on a canvas
pub tile_picture : (script : List Drawing) (k row column : ℕ) (board : Board) → 1 ≤ row → row ≤ 16
    → 1 ≤ column → column ≤ 48 → IsPicture script k board
    → tile_of board.pixels row column ≡ picture_tile script k row column
tile_picture script k row column board row_ge row_le column_ge column_le h =
    picture_tile_is script k row column board (tile_of board.pixels row column) row_ge row_le column_ge
    column_le (tile_size board.pixels row column) (λ q lt. tile_pixel board.pixels row column q lt) h

pub same_picture_tile : (script : List Drawing) (k row column : ℕ) (before now : Board) → 1 ≤ row → row ≤ 16
    → 1 ≤ column → column ≤ 48 → IsPicture script (k - 1) before → IsPicture script k now
    → tile_of before.pixels row column ≡ tile_of now.pixels row column
    → picture_tile script (k - 1) row column ≡ picture_tile script k row column
same_picture_tile script k row column before now row_ge row_le column_ge column_le was is same =
    sym (tile_picture script (k - 1) row column before row_ge row_le column_ge column_le was)
    ∙ same
    ∙ tile_picture script k row column now row_ge row_le column_ge column_le is

-- a different tile of weight 1 needs one instruction
abbrev LightTilesTakeOne : Type 0
LightTilesTakeOne = (old new : List ℕ) → length old ≡ tile_pixels → length new ≡ tile_pixels → weight new ≡ 1
    → old ≢ new
    → steps old new ≡ 1

pub light_tile : LightTilesTakeOne → (script : List Drawing) (k row column : ℕ) (before now : Board) → 1 ≤ row
    → row ≤ 16 → 1 ≤ column → column ≤ 48 → IsPicture script (k - 1) before → IsPicture script k now
    → tile_of before.pixels row column ≢ tile_of now.pixels row column
    → weight (tile_of now.pixels row column) ≡ 1
    → 1 ≡ steps (picture_tile script (k - 1) row column) (picture_tile script k row column)
light_tile take_one script k row column before now row_ge row_le column_ge column_le was is differ light =
    let one : steps (tile_of before.pixels row column) (tile_of now.pixels row column) ≡ 1 =
    take_one (tile_of before.pixels row column) (tile_of now.pixels row column)
    (tile_size before.pixels row column) (tile_size now.pixels row column) light differ in
    sym one
    ∙ ap₂ steps (tile_picture script (k - 1) row column before row_ge row_le column_ge column_le was)
    (tile_picture script k row column now row_ge row_le column_ge column_le is)

-- a row of tiles that is equal in picture k and in the previous picture
pub row_kept : (script : List Drawing) (k r : ℕ) (before now : Board) → r < 16
    → IsPicture script (k - 1) before → IsPicture script k now
    → ((x y : ℕ) → y / 12 ≡ r → picture_pixel script (k - 1) x y ≡ picture_pixel script k x y)
    → SameRow before.pixels now.pixels (r + 1)
row_kept script k r before now lt was is kept column from to =
    picture_tile_is script k (r + 1) column now (tile_of before.pixels (r + 1) column) (omega arith)
    (omega (arith, lt)) from to (tile_size before.pixels (r + 1) column)
    (λ q q_lt.
    let x : ℕ = 6 * (column - 1) + q % 6 in
    let y : ℕ = 12 * (r + 1 - 1) + q / 6 in
    tile_pixel before.pixels (r + 1) column q q_lt
    ∙ was.pixels_are x y (omega arith) (omega arith)
    ∙ kept x y (omega arith)
    ∙ sym (is.pixels_are x y (omega arith) (omega arith)))
    is ∙ sym (tile_picture script k (r + 1) column now (omega arith) (omega (arith, lt)) from to is)

-- if no row was drawn on between two pictures, they are equal
pub undrawn_same : (script : List Drawing) (k : ℕ) (before now : Board) (drawn : List Bool)
    → length drawn ≡ 16
    → IsPicture script (k - 1) before → IsPicture script k now → KeepsRows script k drawn
    → ((r : ℕ) → r < 16 → get_or drawn r false ≡ false) → SameTiles before.pixels now.pixels
undrawn_same script k before now drawn size was is keeps undrawn =
    all_rows before.pixels now.pixels 16 (omega arith)
    (λ m lt. row_kept script k m before now lt was is
    (keeps m (get_or_default drawn m true false (omega (arith, lt, size)) ∙ undrawn m lt)).1)

-- the comparison of one more row
pub row_reported : (old new : List ℕ) (rows : List Bool) (columns : List (List Bool)) (r : ℕ) (whole : Bool)
    (marks : List Bool) → r < length rows → r < length columns
    → ((m : ℕ) → m < r → MarksRow old new (m + 1) (get_or rows m false) (get_or columns m []))
    → MarksRow old new (r + 1) whole marks
    → (m : ℕ) → m < r + 1 → MarksRow old new (m + 1) (get_or (slice_set rows r whole) m false)
    (get_or (slice_set columns r marks) m [])
row_reported old new rows columns r whole marks in_rows in_columns before here =
    below_more (λ m. MarksRow old new (m + 1) (get_or (slice_set rows r whole) m false)
    (get_or (slice_set columns r marks) m [])) r
    (λ m lt.
    let row = get_or-set_other rows r m whole false (λ e. omega (arith, e, lt)) in
    let mark = get_or-set_other columns r m marks [] (λ e. omega (arith, e, lt)) in
    subst (λ w. MarksRow old new (m + 1) w (get_or (slice_set columns r marks) m [])) (sym row)
    (subst (MarksRow old new (m + 1) (get_or rows m false)) (sym mark) (before m lt)))
    (let row = get_or-set_same rows r whole false in_rows in
    let mark = get_or-set_same columns r marks [] in_columns in
    subst (λ w. MarksRow old new (r + 1) w (get_or (slice_set columns r marks) r [])) (sym row)
    (subst (MarksRow old new (r + 1) whole) (sym mark) here))

-- the marks of the first r rows are right; the later rows are not compared yet
abbrev pub MarksSoFar : List ℕ → List ℕ → ℕ → TileMarks → Type 0
MarksSoFar old new r reported = (length reported.rows ≡ 16) × (length reported.columns ≡ 16)
    × ((m : ℕ) → r ≤ m → m < 16 → get_or reported.rows m false ≡ true)
    × ((m : ℕ) → m < r
    → MarksRow old new (m + 1) (get_or reported.rows m false) (get_or reported.columns m []))

pub drawn_reported : (old new : List ℕ) (r : ℕ) (reported : TileMarks) (whole : Bool) (marks : List Bool)
    → r < 16
    → MarksSoFar old new r reported → MarksRow old new (r + 1) whole marks
    → MarksSoFar old new (r + 1)
    (record { rows = slice_set reported.rows r whole; columns = slice_set reported.columns r marks })
drawn_reported old new r reported whole marks lt h here = (
  simp length-set h.0,
  simp length-set h.1,
  λ m le m_lt.
      get_or-set_other reported.rows r m whole false (λ e. omega (arith, e, le)) ∙ h.2 m (omega arith) m_lt,
  row_reported old new reported.rows reported.columns r whole marks (omega (arith, h.0, lt))
      (omega (arith, h.1, lt)) h.3
      here,
)

pub undrawn_reported : (old new : List ℕ) (r : ℕ) (reported : TileMarks) → r < 16
    → MarksSoFar old new r reported
    → SameRow old new (r + 1) → MarksSoFar old new (r + 1) reported
undrawn_reported old new r reported lt h same = (
  h.0,
  h.1,
  λ m le m_lt. h.2 m (omega arith) m_lt,
  below_more (λ m. MarksRow old new (m + 1) (get_or reported.rows m false) (get_or reported.columns m [])) r
      h.3
      (λ _. same, λ is. absurd (false≢true (sym is ∙ h.2 r (omega arith) lt))),
)

pub all_reported : (old new : List ℕ) (reported : TileMarks) (all : Bool) → MarksTiles old new reported
    → all ≡ pointwise beq reported.rows (replicate 16 true) → all ≡ true → SameTiles old new
all_reported old new reported all h tests holds =
    let rows : reported.rows ≡ replicate 16 true =
    (slice_eq-Decides booleans_Decides reported.rows (replicate 16 true) all tests).0 holds in
    let row : (m : ℕ) → m < 16 → get_or reported.rows m false ≡ true =
    λ m lt. ap (λ marks. get_or marks m false) rows ∙ get_or-replicate {A = Bool} 16 m true false lt in
    all_rows old new 16 (omega arith) (λ m lt. (h m lt).0 (row m lt))

-- if all tiles are equal, no tile needs an instruction
same_so_far : (script : List Drawing) (k : ℕ) (before now : Board) → IsPicture script (k - 1) before
    → IsPicture script k now → SameTiles before.pixels now.pixels
    → (i : ℕ) → i ≤ 768 → steps_so_far script k None i ≡ 0
same_so_far script k before now was is same zero le = none_so_far script k None
same_so_far script k before now was is same (suc i) le =
    let next : suc i ≡ i + 1 = omega arith in
    let row : ℕ = i / 48 + 1 in
    let column : ℕ = i % 48 + 1 in
    let tile =
    same_picture_tile script k row column before now (omega arith) (omega arith) (omega arith) (omega arith)
    was is (same row (omega arith) (omega arith) column (omega arith) (omega arith)) in
    let none : steps (picture_tile script (k - 1) row column) (picture_tile script k row column) ≡ 0 =
    steps_self (picture_tile script (k - 1) row column) (picture_tile script k row column) tile in
    let so_far = same_so_far script k before now was is same i (omega arith) in
    ap (steps_so_far script k None) next ∙ one_more_tile script k None i ∙ omega (arith, so_far, none)

pub same_steps : (script : List Drawing) (k : ℕ) (before now : Board) → IsPicture script (k - 1) before
    → IsPicture script k now → SameTiles before.pixels now.pixels
    → tile_steps script k None ≡ 0
same_steps script k before now was is same =
    sym (all_tiles script k None 768 refl) ∙ same_so_far script k before now was is same 768 (omega arith)

-- if no other number is less than the first, it is the least
least_stays : (f : Option ℕ → ℕ) (best : Option ℕ) (xs : List ℕ) → ((x : ℕ) → f best ≤ f (Some x))
    → first_least f best (map Some xs) ≡ best
unfolding first_least
least_stays f best [] least = refl
least_stays f best (x ∷ xs) least =
    let le = least x in
    let no : nat_lt (f (Some x)) (f best) ≡ false = grind (arith, nat_tests) in
    ap (λ (b : Bool). first_least f (if b then Some x else best) (map Some xs)) no
    ∙ least_stays f best xs least

starts_longer : (script : List Drawing) (k c : ℕ) → tile_steps script k None ≡ 0
    → planned_length script k None ≤ planned_length script k (Some c)
unfolding planned_length
starts_longer script k c none = omega (arith, none)

pub same_chosen : (script : List Drawing) (k : ℕ) → 0 < k → tile_steps script k None ≡ 0
    → None ≡ chosen_start script k
unfolding chosen_start
same_chosen zero_script zero pos none = absurd (omega arith)
same_chosen script (suc k) pos none =
    sym
    (least_stays (planned_length script (suc k)) None (below 16) (λ c. starts_longer script (suc k) c none))

pub same_length : (script : List Drawing) (k beside : ℕ) → beside ≡ length (settings script k)
    → tile_steps script k None ≡ 0
    → beside ≡ planned_length script k None
unfolding planned_length
same_length script k beside is none = omega (arith, is, none)

-- only a later picture may begin without clearing the memory
pub later_start : (k : ℕ) (start : Option ℕ) → IsStart k start → start ≡ None → 0 < k
later_start zero None h is = absurd h
later_start zero (Some colour) h is = absurd (cc)
later_start (suc k) start h is = omega arith

pub before_none : (script : List Drawing) (k row column : ℕ) (start : Option ℕ) → start ≡ None
    → tiles_before script k start row column ≡ picture_tile script (k - 1) row column
before_none script k row column start is = ap (λ s. tiles_before script k s row column) is

-- one instruction draws a tile of weight 1 over any other tile
pub drawn_alone : (script : List Drawing) (k row column : ℕ) (start : Option ℕ) (before : Board)
    (new : List ℕ) (instr : Instr) → 1 ≤ row → row ≤ 16 → 1 ≤ column → column ≤ 48 → start ≡ None
    → IsPicture script (k - 1) before → tile_of before.pixels row column ≢ new
    → new ≡ picture_tile script k row column
    → ((old : List ℕ) → length old ≡ 72 → old ≢ new → plan row column old new ≡ instr ∷ [])
    → instr ∷ [] ≡ plan row column (tiles_before script k start row column) (picture_tile script k row column)
drawn_alone script k row column start before new instr row_ge row_le column_ge column_le none was other new_is
    light =
    sym (light (tile_of before.pixels row column) (tile_size before.pixels row column) other)
    ∙ ap₂ (plan row column)
    (tile_picture script (k - 1) row column before row_ge row_le column_ge column_le was
    ∙ sym (before_none script k row column start none)) new_is

pub start_none : (start : Option ℕ) (none : Bool) → is_some start ≡ not none → none ≡ true → start ≡ None
start_none None none reported h = refl
start_none (Some colour) true reported h = absurd (cc)
start_none (Some colour) false reported h = absurd (cc)

-- if the tiles of two pictures are equal, so are their weights
pub same_weights : (script : List Drawing) (k : ℕ) (before now : Board) (weights : List Weighed)
    → IsPicture script (k - 1) before → IsPicture script k now → SameTiles before.pixels now.pixels
    → AreWeights script (k - 1) weights → AreWeights script k weights
same_weights script k before now weights was is same h i lt =
    let row : ℕ = i / 48 + 1 in
    let column : ℕ = i % 48 + 1 in
    let tile =
    same_picture_tile script k row column before now (omega arith) (omega arith) (omega arith) (omega arith)
    was is (same row (omega arith) (omega arith) column (omega arith) (omega arith)) in
    subst (λ t. IsWeighed t (get_or weights i not_weighed)) tile (h i lt)
