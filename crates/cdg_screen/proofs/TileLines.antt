-- A row of the memory in which six pixels, one line of a tile, are overwritten.
use Rattle.std.proofs.Common.{◌≡◌, ◌≢◌, ℕ, ◌+◌, ◌-◌, ◌*◌, ◌/◌, ◌%◌, ◌<◌, ◌≤◌, ◌==◌, ◌&&◌, if◌then◌else◌, List, [], ◌++◌, length, get_or, set, take, drop, All, length-set, length-append, sym, ap, ◌∙◌, inl, inr, arith}
use Rattle.std.specs.Prelude.{nat_le, nat_lt}
use Rattle.std.proofs.lemmas.Bool.{cases_eq, cases_lt}
use Rattle.std.proofs.lemmas.Bool.Decides.{nat_tests}
use Rattle.std.proofs.lemmas.List.{get_or-set_same, get_or-set_other, get_or_append_left, get_or_default, get_or-append_right, get_or-take, get_or-drop, length-take, length-drop}
use Rattle.std.proofs.lemmas.List.Elements.{All-get_or}
use borrow.Rule.Slice.PartMut.{put_mid}
use Rattle.cdg_screen.specs.Memory.{at, IsMemory}
use Rattle.cdg_screen.proofs.MemoryRows.{element, at_is}

-- the elements of a row after six of them are overwritten
written-at : (old piece : List ℕ) (start count i : ℕ) → start + count ≤ length old → length piece ≡ count
    → get_or (put_mid start count old piece) i 0
    ≡ (if nat_le start i && nat_lt i (start + count) then get_or piece (i - start) 0 else get_or old i 0)
written-at old piece start count i within size =
    let first = length-take start old in
    let post = drop count (drop start old) in
    elim (cases_lt i start) [
      | inl before ↦
          let e =
          get_or_append_left (take start old) (piece ++ post) 0 i (omega (arith, first))
          ∙ get_or-take start old i 0 before in
          grind (arith, nat_tests)
      | inr after ↦
          let to_rest : get_or (put_mid start count old piece) i 0 ≡ get_or (piece ++ post) (i - start) 0 =
          get_or-append_right (take start old) (piece ++ post) start i 0 (omega (arith, first)) after in
          elim (cases_lt i (start + count)) [
            | inl there ↦
                let e = to_rest ∙ get_or_append_left piece post 0 (i - start) (omega (arith, size)) in
                grind (arith, nat_tests)
            | inr past ↦
                let back : start + (count + (i - start - count)) ≡ i = omega arith in
                let e : get_or (put_mid start count old piece) i 0 ≡ get_or old i 0 =
                to_rest
                ∙ get_or-append_right piece post count (i - start) 0 size (omega arith)
                ∙ get_or-drop count (drop start old) (i - start - count) 0
                ∙ get_or-drop start old (count + (i - start - count)) 0 ∙ ap (λ n. get_or old n 0) back in
                grind (arith, nat_tests)
          ]
    ]

length-written : (old piece : List ℕ) (start count : ℕ) → start + count ≤ length old → length piece ≡ count
    → length (put_mid start count old piece) ≡ length old
length-written old piece start count within size =
    let first = length-take start old in
    let from = length-drop start old in
    let rest = length-drop count (drop start old) in
    let inner = length-append piece (drop count (drop start old)) in
    let outer = length-append (take start old) (piece ++ drop count (drop start old)) in
    omega arith

written-small : (old piece : List ℕ) (start i : ℕ) → start + 6 ≤ length old → length piece ≡ 6
    → All (λ p. p < 16) piece → ((k : ℕ) → get_or old k 0 < 16)
    → get_or (put_mid start 6 old piece) i 0 < 16
written-small old piece start i within size small olds =
    let e = written-at old piece start 6 i within size in
    let o = olds i in
    elim (cases_lt (i - start) 6) [
      | inl there ↦
          let p : get_or piece (i - start) 0 < 16 =
          All-get_or (λ p. p < 16) piece (i - start) 0 (omega (arith, size)) small in
          grind (arith, nat_tests)
      | inr past ↦ grind (arith, nat_tests)
    ]

-- the pixels of a row are colours
pub row-below : (rows : List (List ℕ)) (row : List ℕ) (left top r : ℕ)
    → IsMemory (record { rows = rows; left = left; top = top }) → row ≡ get_or rows r []
    → All (λ p. p < 16) row
row-below rows row left top r g is k d k_lt =
    omega (arith, get_or_default row k d 0 k_lt, ap (λ xs. get_or xs k 0) is, g.colours r k)

-- the pixels of a tile column are six neighbours in a row that wraps around, and no other pixels are there
tile_there : (left column x : ℕ) → left % 6 ≡ 0 → left < 300 → column ≤ 49 → x < 300 → x / 6 ≡ column
    → ((6 * column + left) % 300 ≤ (x + left) % 300)
    × ((x + left) % 300 < (6 * column + left) % 300 + 6)
    × ((x + left) % 300 - (6 * column + left) % 300 ≡ x % 6)
tile_there left column x whole left_lt column_le x_lt is = (omega arith, omega arith, omega arith)

tile_apart : (left column x : ℕ) → left % 6 ≡ 0 → left < 300 → column ≤ 49 → x < 300
    → (6 * column + left) % 300 ≤ (x + left) % 300 → (x + left) % 300 < (6 * column + left) % 300 + 6
    → x / 6 ≡ column
tile_apart left column x whole left_lt column_le x_lt from to = omega arith

pub tile_fits : (left column : ℕ) → left % 6 ≡ 0 → left < 300 → column ≤ 49
    → (6 * column + left) % 300 + 6 ≤ 300
tile_fits left column whole left_lt column_le = omega arith

pub line-is_memory : (rows : List (List ℕ)) (row piece : List ℕ) (left top r start : ℕ)
    → IsMemory (record { rows = rows; left = left; top = top }) → r < 216 → start + 6 ≤ 300
    → row ≡ get_or rows r [] → length piece ≡ 6
    → All (λ p. p < 16) piece
    → IsMemory
    (record { rows = set rows r (put_mid start (start + 6 - start) row piece); left = left; top = top })
line-is_memory rows row piece left top r start g r_lt fits is size small =
    let six : start + 6 - start ≡ 6 = omega arith in
    let r_in : r < length rows = omega (arith, g.count) in
    let width : length (get_or rows r []) ≡ 300 = g.widths r r_lt in
    rw (six, is) (record {
      count = length-set rows r (put_mid start 6 (get_or rows r []) piece) ∙ g.count;
      widths = λ y lt. elim (cases_eq y r) [
        | inl same ↦
            rw (same, get_or-set_same rows r (put_mid start 6 (get_or rows r []) piece) [] r_in)
            (length-written (get_or rows r []) piece start 6 (omega (arith, width)) size ∙ width)
        | inr apart ↦
            rw (get_or-set_other rows r y (put_mid start 6 (get_or rows r []) piece) [] apart) (g.widths y lt)
      ];
      left_below = g.left_below;
      top_below = g.top_below;
      left_whole = g.left_whole;
      top_whole = g.top_whole;
      colours = λ y x. elim (cases_eq y r) [
        | inl same ↦
            rw (same, get_or-set_same rows r (put_mid start 6 (get_or rows r []) piece) [] r_in)
            (written-small (get_or rows r []) piece start x (omega (arith, width)) size small (g.colours r))
        | inr apart ↦
            rw (get_or-set_other rows r y (put_mid start 6 (get_or rows r []) piece) [] apart) (g.colours y x)
      ];
    })

pub line-becomes : (rows : List (List ℕ)) (row piece : List ℕ) (left top column y start r : ℕ)
    (drawn : ℕ → ℕ → ℕ) → IsMemory (record { rows = rows; left = left; top = top }) → column ≤ 49 → y < 216
    → start ≡ (6 * column + left) % 300 → r ≡ (y + top) % 216
    → row ≡ get_or rows r [] → length piece ≡ 6
    → ((i : ℕ) → i < 6 → get_or piece i 0 ≡ drawn i (get_or (take (start + 6 - start) (drop start row)) i 0))
    → (x' y' : ℕ) → x' < 300 → y' < 216
    → at (record { rows = set rows r (put_mid start (start + 6 - start) row piece); left = left; top = top })
    x' y'
    ≡ (if y' == y && x' / 6 == column
    then drawn (x' % 6) (at (record { rows = rows; left = left; top = top }) x' y')
    else at (record { rows = rows; left = left; top = top }) x' y')
line-becomes rows row piece left top column y start r drawn g column_le y_lt start_is r_is is size all x' y'
    x'_lt y'_lt =
    let k : ℕ = (x' + left) % 300 in
    let six : start + 6 - start ≡ 6 = omega arith in
    let top_lt = g.top_below in
    let left_lt = g.left_below in
    let r_lt : r < 216 = omega arith in
    let r_in : r < length rows = omega (arith, g.count) in
    let width : length row ≡ 300 = ap length is ∙ g.widths r r_lt in
    let fits = tile_fits left column g.left_whole left_lt column_le in
    let new = at_is (set rows r (put_mid start (start + 6 - start) row piece)) left top x' y' in
    let old = at_is rows left top x' y' in
    elim (cases_eq y' y) [
      | inr apart ↦
          let rows_apart : (y' + top) % 216 ≢ r = omega arith in
          let e : element (set rows r (put_mid start (start + 6 - start) row piece)) ((y' + top) % 216) k
          ≡ element rows ((y' + top) % 216) k =
          ap (λ xs. get_or xs k 0) (get_or-set_other rows r ((y' + top) % 216)
          (put_mid start (start + 6 - start) row piece) [] rows_apart) in
          let whole = new ∙ e ∙ sym old in
          grind (arith, nat_tests)
      | inl same ↦
          let here : (y' + top) % 216 ≡ r = ap (λ n. (n + top) % 216) same ∙ sym r_is in
          let row_new : element (set rows r (put_mid start (start + 6 - start) row piece)) ((y' + top) % 216)
          k
          ≡ get_or (put_mid start 6 row piece) k 0 =
          ap (λ n. element (set rows r (put_mid start (start + 6 - start) row piece)) n k) here
          ∙ ap (λ xs. get_or xs k 0)
          (get_or-set_same rows r (put_mid start (start + 6 - start) row piece) [] r_in)
          ∙ ap (λ n. get_or (put_mid start n row piece) k 0) six in
          let row_old : at (record { rows = rows; left = left; top = top }) x' y' ≡ get_or row k 0 =
          old ∙ ap (λ n. element rows n k) here ∙ ap (λ xs. get_or xs k 0) (sym is) in
          let w = written-at row piece start 6 k (omega (arith, width, fits)) size in
          elim (cases_eq (x' / 6) column) [
            | inl there ↦
                let t = tile_there left column x' g.left_whole left_lt column_le x'_lt there in
                let d_lt : x' % 6 < 6 = omega arith in
                let sum : start + x' % 6 ≡ k = omega (arith, t.0, t.2) in
                let part : get_or (take (start + 6 - start) (drop start row)) (x' % 6) 0 ≡ get_or row k 0 =
                get_or-take (start + 6 - start) (drop start row) (x' % 6) 0 (omega arith)
                ∙ get_or-drop start row (x' % 6) 0
                ∙ ap (λ n. get_or row n 0) sum in
                let from : start ≤ k = omega (arith, t.0) in
                let to : k < start + 6 = omega (arith, t.1) in
                let place : k - start ≡ x' % 6 = omega (arith, t.2) in
                let in_piece : get_or (put_mid start 6 row piece) k 0 ≡ get_or piece (k - start) 0 =
                grind (arith, nat_tests) in
                let value : at (record {
                  rows = set rows r (put_mid start (start + 6 - start) row piece);
                  left = left;
                  top = top;
                }) x' y'
                ≡ drawn (x' % 6) (at (record { rows = rows; left = left; top = top }) x' y') =
                new
                ∙ row_new
                ∙ in_piece
                ∙ ap (λ n. get_or piece n 0) place
                ∙ all (x' % 6) d_lt
                ∙ ap (drawn (x' % 6)) (part ∙ sym row_old) in
                grind (arith, nat_tests)
            | inr other ↦
                let outside : (start ≤ k) × (k < start + 6) → x' / 6 ≡ column =
                λ both. tile_apart left column x' g.left_whole left_lt column_le x'_lt (omega (arith, both.0))
                (omega (arith, both.1)) in
                let not_in : get_or (put_mid start 6 row piece) k 0 ≡ get_or row k 0 =
                grind (arith, nat_tests, outside) in
                let value : at (record {
                  rows = set rows r (put_mid start (start + 6 - start) row piece);
                  left = left;
                  top = top;
                }) x' y'
                ≡ at (record { rows = rows; left = left; top = top }) x' y' =
                new ∙ row_new ∙ not_in ∙ sym row_old in
                grind (arith, nat_tests)
          ]
    ]
