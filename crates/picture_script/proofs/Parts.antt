-- Equal parts of two windows.
use Rattle.std.proofs.Common.{◌≡◌, ℕ, ◌+◌, ◌-◌, ◌*◌, ◌/◌, ◌%◌, ◌<◌, ◌≤◌, Bool, true, false, List, length, take, drop, get_or, below_more, get_or-set_other, get_or-set_same, sym, subst, ap, ap₂, ◌∙◌, inl, inr, arith}
use borrow.Rule.Slice.PartMut.{put_mid}
use Rattle.std.proofs.lemmas.Bool.{cases_lt}
use Rattle.std.proofs.lemmas.Bool.Decides.{nat_tests}
use Rattle.picture_script.proofs.Windows.{written-at, length-written}
use Rattle.std.specs.Prelude.{◌↔◌, slice_set}
use Rattle.std.proofs.lemmas.List.{get_or-take, get_or-drop}
use Rattle.std.proofs.lemmas.List.FromFn.{length-map-range_with_len, get_or-map-range_with_len}
use Rattle.picture_script.specs.Board.{pixel_of, tile_of, IsSameColumn}
use Rattle.picture_script.proofs.Drawn.{tile_is}

-- `count` elements from `start` on are equal
abbrev pub SamePart : List ℕ → List ℕ → ℕ → ℕ → Type 0
SamePart a b start count = (i : ℕ) → start ≤ i → i < start + count → get_or a i 0 ≡ get_or b i 0

pub tile_pixel : (pixels : List ℕ) (row column q : ℕ) → q < 72
    → get_or (tile_of pixels row column) q 0
    ≡ pixel_of pixels (6 * (column - 1) + q % 6) (12 * (row - 1) + q / 6)
unfolding tile_of
tile_pixel pixels row column q lt =
    get_or-map-range_with_len (λ p. pixel_of pixels (6 * (column - 1) + p % 6) (12 * (row - 1) + p / 6)) 0 72
    q q 0 (omega arith) (omega arith)

pub tile_size : (pixels : List ℕ) (row column : ℕ) → length (tile_of pixels row column) ≡ 72
unfolding tile_of
tile_size pixels row column =
    length-map-range_with_len (λ p. pixel_of pixels (6 * (column - 1) + p % 6) (12 * (row - 1) + p / 6)) 0 72

-- a line of a tile
pub line_of_tile : (a b : List ℕ) (row column j : ℕ) → j < 12 → tile_of a row column ≡ tile_of b row column
    → SamePart a b (288 * (12 * (row - 1) + j) + 6 * (column - 1)) 6
unfolding pixel_of
line_of_tile a b row column j lt same i from to =
    let base : ℕ = 288 * (12 * (row - 1) + j) + 6 * (column - 1) in
    let q : ℕ = 6 * j + (i - base) in
    let q_lt : q < 72 = omega arith in
    let at : 288 * (12 * (row - 1) + q / 6) + (6 * (column - 1) + q % 6) ≡ i = omega arith in
    ap (λ n. get_or a n 0) (sym at)
    ∙ sym (tile_pixel a row column q q_lt)
    ∙ ap (λ t. get_or t q 0) same
    ∙ tile_pixel b row column q q_lt
    ∙ ap (λ n. get_or b n 0) at

pub tile_of_lines : (a b : List ℕ) (row column : ℕ)
    → ((j : ℕ) → j < 12 → SamePart a b (288 * (12 * (row - 1) + j) + 6 * (column - 1)) 6)
    → tile_of a row column ≡ tile_of b row column
unfolding pixel_of
tile_of_lines a b row column all =
    tile_is b (tile_of a row column) row column (tile_size a row column) (λ q lt.
    tile_pixel a row column q lt
    ∙ all (q / 6) (omega arith) (288 * (12 * (row - 1) + q / 6) + (6 * (column - 1) + q % 6)) (omega arith)
    (omega arith))

-- a tile is six columns
pub tile_of_columns : (a b : List ℕ) (row column : ℕ) → 1 ≤ row → 1 ≤ column
    → ((i : ℕ) → i < 6 → IsSameColumn a b (3456 * (row - 1) + (6 * (column - 1) + i)))
    → tile_of a row column ≡ tile_of b row column
tile_of_columns a b row column row_ge column_ge all =
    tile_of_lines a b row column (λ j lt i from to.
    let n : ℕ = i - (288 * (12 * (row - 1) + j) + 6 * (column - 1)) in
    let at : 3456 * (row - 1) + (6 * (column - 1) + n) + 288 * j ≡ i = omega arith in
    ap (λ m. get_or a m 0) (sym at) ∙ all n (omega arith) j lt ∙ ap (λ m. get_or b m 0) at)

pub columns_of_tile : (a b : List ℕ) (row column i : ℕ) → 1 ≤ row → 1 ≤ column → i < 6
    → tile_of a row column ≡ tile_of b row column
    → IsSameColumn a b (3456 * (row - 1) + (6 * (column - 1) + i))
columns_of_tile a b row column i row_ge column_ge i_lt same j lt =
    line_of_tile a b row column j lt same (3456 * (row - 1) + (6 * (column - 1) + i) + 288 * j) (omega arith)
    (omega arith)

-- the mark of a tile, from the marks of its columns
pub tile_reported : (a b : List ℕ) (row i : ℕ) (equal : List Bool) (all : Bool) → 1 ≤ row → i < 48
    → ((x : ℕ) → x < 288 → get_or equal x false ≡ true ↔ IsSameColumn a b (3456 * (row - 1) + x))
    → (all ≡ true ↔ ((n : ℕ) → n < 6 → get_or equal (6 * i + n) false ≡ true))
    → all ≡ true ↔ tile_of a row (i + 1) ≡ tile_of b row (i + 1)
tile_reported a b row i equal all row_ge lt columns six =
    let at : (n : ℕ) → 3456 * (row - 1) + (6 * (i + 1 - 1) + n) ≡ 3456 * (row - 1) + (6 * i + n) = λ n.
    omega arith in (
      (λ reported. tile_of_columns a b row (i + 1) row_ge (omega arith)
          (λ n n_lt. subst (IsSameColumn a b) (sym (at n))
          ((columns (6 * i + n) (omega arith)).0 (six.0 reported n n_lt)))),
      (λ same. six.1 (λ n n_lt. (columns (6 * i + n) (omega arith)).1
          (subst (IsSameColumn a b) (at n)
          (columns_of_tile a b row (i + 1) n row_ge (omega arith) n_lt same)))),
    )

-- one more mark
pub marks_more : (P : ℕ → Type 0) (marks : List Bool) (i : ℕ) (reported : Bool) → i < length marks
    → ((m : ℕ) → m < i → get_or marks m false ≡ true ↔ P m) → (reported ≡ true ↔ P i)
    → (m : ℕ) → m < i + 1 → get_or (slice_set marks i reported) m false ≡ true ↔ P m
marks_more P marks i reported inside before here =
    below_more (λ m. get_or (slice_set marks i reported) m false ≡ true ↔ P m) i
    (λ m lt.
    let other = get_or-set_other marks i m reported false (λ e. omega (arith, e, lt)) in (
      (λ is. (before m lt).0 (sym other ∙ is)),
      (λ p. other ∙ (before m lt).1 p),
    ))
    (let same = get_or-set_same marks i reported false inside in (
      (λ is. here.0 (sym same ∙ is)),
      (λ p. same ∙ here.1 p),
    ))

line_at : (xs ys : List ℕ) (start x : ℕ) → xs ≡ ys → x < 288
    → get_or (take (start + 288 - start) (drop start xs)) x 0 ≡ get_or ys (start + x) 0
line_at xs ys start x same lt =
    get_or-take (start + 288 - start) (drop start xs) x 0 (omega arith)
    ∙ get_or-drop start xs x 0
    ∙ ap (λ zs. get_or zs (start + x) 0) same

-- one more line of the columns
pub column_more : (a b here there : List ℕ) (start j : ℕ) (old new : List Bool) → here ≡ a → there ≡ b
    → ((x : ℕ) → x < 288 → get_or old x false ≡ true
    ↔ ((m : ℕ) → m < j → get_or a (start + x + 288 * m) 0 ≡ get_or b (start + x + 288 * m) 0))
    → ((x : ℕ) → x < 288 → get_or new x false ≡ true
    ↔ (get_or old x false ≡ true)
    × (get_or (take (start + 288 * j + 288 - (start + 288 * j)) (drop (start + 288 * j) here)) x 0
    ≡ get_or (take (start + 288 * j + 288 - (start + 288 * j)) (drop (start + 288 * j) there)) x 0))
    → (x : ℕ) → x < 288 → get_or new x false ≡ true
    ↔ ((m : ℕ) → m < j + 1 → get_or a (start + x + 288 * m) 0 ≡ get_or b (start + x + 288 * m) 0)
column_more a b here there start j old new here_is there_is before more x lt =
    let place : start + 288 * j + x ≡ start + x + 288 * j = omega arith in
    let at_a = line_at here a (start + 288 * j) x here_is lt ∙ ap (λ n. get_or a n 0) place in
    let at_b = line_at there b (start + 288 * j) x there_is lt ∙ ap (λ n. get_or b n 0) place in (
      (λ reported.
          let both = (more x lt).0 reported in
          below_more (λ m. get_or a (start + x + 288 * m) 0 ≡ get_or b (start + x + 288 * m) 0) j
          ((before x lt).0 both.0) (sym at_a ∙ both.1 ∙ at_b)),
      (λ all. (more x lt).1 (
        (before x lt).1 (λ m m_lt. all m (omega arith)),
        at_a ∙ all j (omega arith) ∙ sym at_b,
      )),
    )

pub tile_line : (pixels old piece : List ℕ) (left top j : ℕ) → length old ≡ 72 → j < 12 → length piece ≡ 6
    → ((i : ℕ) → i < 6 → get_or piece i 0 ≡ pixel_of pixels (left + i) (top + j))
    → ((q : ℕ) → q < 6 * j → get_or old q 0 ≡ pixel_of pixels (left + q % 6) (top + q / 6))
    → (q : ℕ) → q < 6 * (j + 1)
    → get_or (put_mid (6 * j) (6 * j + 6 - 6 * j) old piece) q 0
    ≡ pixel_of pixels (left + q % 6) (top + q / 6)
tile_line pixels old piece left top j whole lt size new before q q_lt =
    let six : 6 * j + 6 - 6 * j ≡ 6 = omega arith in
    let e =
    ap (λ n. get_or (put_mid (6 * j) n old piece) q 0) six
    ∙ written-at old piece (6 * j) 6 q (omega arith) size in
    elim (cases_lt q (6 * j)) [
      | inl early ↦
          let b = before q early in
          grind (arith, nat_tests)
      | inr late ↦
          let i : ℕ = q - 6 * j in
          let x : left + i ≡ left + q % 6 = omega arith in
          let y : top + j ≡ top + q / 6 = omega arith in
          let n : get_or piece (q - 6 * j) 0 ≡ pixel_of pixels (left + q % 6) (top + q / 6) =
          new i (omega arith) ∙ ap₂ (pixel_of pixels) x y in
          grind (arith, nat_tests)
    ]

pub tile_line_small : (old piece : List ℕ) (j : ℕ) → length old ≡ 72 → j < 12 → length piece ≡ 6
    → ((i : ℕ) → get_or piece i 0 < 16) → ((q : ℕ) → get_or old q 0 < 16)
    → (q : ℕ) → get_or (put_mid (6 * j) (6 * j + 6 - 6 * j) old piece) q 0 < 16
tile_line_small old piece j whole lt size new before q =
    let six : 6 * j + 6 - 6 * j ≡ 6 = omega arith in
    let e =
    ap (λ n. get_or (put_mid (6 * j) n old piece) q 0) six
    ∙ written-at old piece (6 * j) 6 q (omega arith) size in
    let b = before q in
    let n = new (q - 6 * j) in
    grind (arith, nat_tests)

pub tile_line_size : (old piece : List ℕ) (j : ℕ) → length old ≡ 72 → j < 12 → length piece ≡ 6
    → length (put_mid (6 * j) (6 * j + 6 - 6 * j) old piece) ≡ 72
tile_line_size old piece j whole lt size =
    let six : 6 * j + 6 - 6 * j ≡ 6 = omega arith in
    ap (λ n. length (put_mid (6 * j) n old piece)) six
    ∙ length-written old piece (6 * j) 6 (omega arith) size
    ∙ whole
