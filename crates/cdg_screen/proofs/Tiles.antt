-- A tile that is drawn, or that leaves each pixel unchanged, line by line.
use Rattle.std.proofs.Common.{◌≡◌, ◌≢◌, ℕ, ◌+◌, ◌-◌, ◌*◌, ◌/◌, ◌%◌, ◌<◌, ◌≤◌, ◌==◌, ◌&&◌, if◌then◌else◌, Bool, true, List, refl, sym, ap, ap₂, ◌∙◌, inl, inr, arith}
use Rattle.std.specs.Prelude.{nat_le, nat_lt, slice_index}
use Rattle.std.proofs.lemmas.Bool.{cases_Bool, cases_eq}
use Rattle.std.proofs.lemmas.Bool.Decides.{nat_tests}
use Rattle.cdg_instructions.specs.Drawing.{tile_colour}
use Rattle.cdg_screen.specs.Standing.{covers}
use Rattle.cdg_screen.specs.Memory.{MemoryRows, at, Becomes, drawn_over, line_colour}

in_line : (row column j x y : ℕ) → j < 12 → row ≤ 17 → column ≤ 49
    → (y == 12 * row + j && nat_le (6 * column) x && nat_lt x (6 * column + 6)) ≡ true
    → (y ≡ 12 * row + j) × (6 * column ≤ x) × (x < 6 * column + 6)
in_line row column j x y j_lt row_le column_le inside =
    (grind (arith, nat_tests), grind (arith, nat_tests), grind (arith, nat_tests))

covers_line : (row column j x y : ℕ) → j < 12 → row ≤ 17 → column ≤ 49 → y ≡ 12 * row + j → 6 * column ≤ x
    → x < 6 * column + 6
    → covers row column x y ≡ true
covers_line row column j x y j_lt row_le column_le y_is low high =
    let across : x / 6 ≡ column = omega arith in
    let down : y / 12 ≡ row = omega arith in
    grind (arith, nat_tests)

-- if a tile changes nothing, none of its lines does
pub line_of_tile : (memory : MemoryRows) (row column colour0 colour1 : ℕ) (lines : List ℕ) (exclusive : Bool)
    (j : ℕ) → j < 12 → row ≤ 17 → column ≤ 49
    → Becomes memory (λ x y. if covers row column x y
    then drawn_over exclusive (tile_colour colour0 colour1 lines (x % 6) (y % 12)) (at memory x y)
    else at memory x y)
    → Becomes memory (λ x y. if y == 12 * row + j && nat_le (6 * column) x && nat_lt x (6 * column + 6)
    then drawn_over exclusive (line_colour colour0 colour1 (slice_index lines j) (x - 6 * column))
    (at memory x y)
    else at memory x y)
line_of_tile memory row column colour0 colour1 lines exclusive j j_lt row_le column_le whole x y x_lt y_lt =
    elim (cases_Bool (y == 12 * row + j && nat_le (6 * column) x && nat_lt x (6 * column + 6))) [
      | inl inside ↦
          let (y_is, low, high) = in_line row column j x y j_lt row_le column_le inside in
          let covered = covers_line row column j x y j_lt row_le column_le y_is low high in
          let across : x % 6 ≡ x - 6 * column = omega arith in
          let down : y % 12 ≡ j = omega arith in
          let here : at memory x y
          ≡ drawn_over exclusive (tile_colour colour0 colour1 lines (x % 6) (y % 12)) (at memory x y) =
          rw covered at (whole x y x_lt y_lt) in
          rw inside (here
          ∙ ap₂ (λ i k. drawn_over exclusive (tile_colour colour0 colour1 lines i k) (at memory x y)) across
          down)
      | inr outside ↦ rw outside refl
    ]

-- one more line of a tile is drawn
pub line_more : (old now new : MemoryRows) (row column colour0 colour1 j : ℕ) (lines pixels : List ℕ)
    (exclusive : Bool) → j < 12 → row ≤ 17 → column ≤ 49
    → ((i : ℕ) → i < 6 → slice_index pixels i ≡ line_colour colour0 colour1 (slice_index lines j) i)
    → Becomes now (λ x y. if covers row column x y && nat_lt (y % 12) j
    then drawn_over exclusive (tile_colour colour0 colour1 lines (x % 6) (y % 12)) (at old x y)
    else at old x y)
    → Becomes new (λ x y. if y == 12 * row + j && x / 6 == column
    then drawn_over exclusive (slice_index pixels (x % 6)) (at now x y)
    else at now x y)
    → Becomes new (λ x y. if covers row column x y && nat_lt (y % 12) (j + 1)
    then drawn_over exclusive (tile_colour colour0 colour1 lines (x % 6) (y % 12)) (at old x y)
    else at old x y)
line_more old now new row column colour0 colour1 j lines pixels exclusive j_lt row_le column_le shown before
    step x y x_lt y_lt =
    let was = before x y x_lt y_lt in
    let is = step x y x_lt y_lt in
    elim (cases_eq y (12 * row + j)) [
      | inl same ↦ elim (cases_eq (x / 6) column) [
        | inl there ↦
            let down : y % 12 ≡ j = omega arith in
            let same_row : y / 12 ≡ row = omega arith in
            let stood : at now x y ≡ at old x y = grind (arith, nat_tests) in
            let pixel : slice_index pixels (x % 6) ≡ tile_colour colour0 colour1 lines (x % 6) (y % 12) =
            shown (x % 6) (omega arith) ∙ ap (λ k. tile_colour colour0 colour1 lines (x % 6) k) (sym down) in
            let drawn : at new x y ≡ drawn_over exclusive (slice_index pixels (x % 6)) (at now x y) =
            grind (arith, nat_tests) in
            let value : at new x y
            ≡ drawn_over exclusive (tile_colour colour0 colour1 lines (x % 6) (y % 12)) (at old x y) =
            drawn ∙ ap₂ (drawn_over exclusive) pixel stood in
            let covered : (covers row column x y && nat_lt (y % 12) (j + 1)) ≡ true =
            grind (arith, nat_tests) in
            rw covered value
        | inr apart ↦ grind (arith, nat_tests)
      ]
      | inr apart ↦
          let kept : at new x y ≡ at now x y = grind (arith, nat_tests) in
          let other : y / 12 ≡ row → y % 12 ≢ j = λ same_row down. apart (omega arith) in
          grind (arith, nat_tests)
    ]

-- ---- A drawn tile leaves each pixel unchanged.

-- none of its lines
pub kept_at_first : (memory : MemoryRows) (row column colour0 colour1 : ℕ) (lines : List ℕ) (exclusive : Bool)
    → Becomes memory (λ x y. if covers row column x y && nat_lt (y % 12) 0
    then drawn_over exclusive (tile_colour colour0 colour1 lines (x % 6) (y % 12)) (at memory x y)
    else at memory x y)
kept_at_first memory row column colour0 colour1 lines exclusive x y x_lt y_lt = grind (arith, nat_tests)

drawn_place : (row column j x y : ℕ) → (covers row column x y && nat_lt (y % 12) (j + 1)) ≡ true
    → (x / 6 ≡ column) × (y / 12 ≡ row) × (y % 12 < j + 1)
drawn_place row column j x y drawn =
    (grind (arith, nat_tests), grind (arith, nat_tests), grind (arith, nat_tests))

drawn_before : (row column j x y : ℕ) → (covers row column x y && nat_lt (y % 12) (j + 1)) ≡ true → y % 12 < j
    → (covers row column x y && nat_lt (y % 12) j) ≡ true
drawn_before row column j x y drawn lt = grind (arith, nat_tests)

line_holds : (left top j x y : ℕ) → y ≡ top + j → left ≤ x → x < left + 6
    → (y == top + j && nat_le left x && nat_lt x (left + 6)) ≡ true
line_holds left top j x y y_is low high = grind (arith, nat_tests)

-- one more line
pub kept_line : (memory : MemoryRows) (row column colour0 colour1 left top j : ℕ) (lines : List ℕ)
    (exclusive : Bool) → left ≡ 6 * column → top ≡ 12 * row
    → Becomes memory (λ x y. if covers row column x y && nat_lt (y % 12) j
    then drawn_over exclusive (tile_colour colour0 colour1 lines (x % 6) (y % 12)) (at memory x y)
    else at memory x y)
    → Becomes memory (λ x y. if y == top + j && nat_le left x && nat_lt x (left + 6)
    then drawn_over exclusive (line_colour colour0 colour1 (slice_index lines j) (x - left)) (at memory x y)
    else at memory x y)
    → Becomes memory (λ x y. if covers row column x y && nat_lt (y % 12) (j + 1)
    then drawn_over exclusive (tile_colour colour0 colour1 lines (x % 6) (y % 12)) (at memory x y)
    else at memory x y)
kept_line memory row column colour0 colour1 left top j lines exclusive left_is top_is before line x y x_lt
    y_lt =
    elim (cases_Bool (covers row column x y && nat_lt (y % 12) (j + 1))) [
      | inr not_drawn ↦ rw not_drawn refl
      | inl drawn ↦
          let (across, down, le) = drawn_place row column j x y drawn in
          elim (cases_eq (y % 12) j) [
            | inl last ↦
                let inside = line_holds left top j x y (omega arith) (omega arith) (omega arith) in
                let column_of : x - left ≡ x % 6 = omega arith in
                let here : at memory x y
                ≡ drawn_over exclusive (line_colour colour0 colour1 (slice_index lines j) (x - left))
                (at memory x y) =
                rw inside at (line x y x_lt y_lt) in
                rw drawn (here
                ∙ ap₂ (λ i k. drawn_over exclusive (tile_colour colour0 colour1 lines i k) (at memory x y))
                column_of (sym last))
            | inr earlier ↦
                let so_far = drawn_before row column j x y drawn (omega arith) in
                let here : at memory x y
                ≡ drawn_over exclusive (tile_colour colour0 colour1 lines (x % 6) (y % 12)) (at memory x y) =
                rw so_far at (before x y x_lt y_lt) in
                rw drawn here
          ]
    ]

-- all lines
pub kept_whole : (memory : MemoryRows) (row column colour0 colour1 j : ℕ) (lines : List ℕ) (exclusive : Bool)
    → 12 ≤ j
    → Becomes memory (λ x y. if covers row column x y && nat_lt (y % 12) j
    then drawn_over exclusive (tile_colour colour0 colour1 lines (x % 6) (y % 12)) (at memory x y)
    else at memory x y)
    → Becomes memory (λ x y. if covers row column x y
    then drawn_over exclusive (tile_colour colour0 colour1 lines (x % 6) (y % 12)) (at memory x y)
    else at memory x y)
kept_whole memory row column colour0 colour1 j lines exclusive all kept x y x_lt y_lt =
    elim (cases_Bool (covers row column x y)) [
      | inr apart ↦ rw apart refl
      | inl covered ↦
          let below : nat_lt (y % 12) j ≡ true = grind (arith, nat_tests) in
          rw covered (rw (covered, below) at (kept x y x_lt y_lt))
    ]
