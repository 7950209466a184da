-- Rows of one colour, and parts of rows.
use Rattle.std.proofs.Common.{◌≡◌, ◌≢◌, ℕ, ◌+◌, ◌-◌, ◌%◌, ◌<◌, ◌≤◌, ◌==◌, ◌&&◌, if◌then◌else◌, List, [], get_or, length, set, sym, ap, ap₂, ◌∙◌, inl, inr, arith}
use Rattle.std.specs.Prelude.{min, nat_le, nat_lt}
use Rattle.std.proofs.lemmas.Bool.{cases_eq, cases_lt}
use Rattle.std.proofs.lemmas.Bool.Decides.{nat_tests}
use Rattle.std.proofs.lemmas.List.{get_or-set_other, get_or-set_same}
use Rattle.cdg_screen.specs.Memory.{at, Becomes, IsMemory}
use Rattle.cdg_screen.proofs.MemoryRows.{at_is, element}
use Rattle.cdg_screen.proofs.WholeRows.{between_places, else_before, else_behind, then_within}

-- if all rows have one colour, all pixels have it
pub filled_by_rows : (rows : List (List ℕ)) (left top colour : ℕ)
    → ((r : ℕ) → r < 216 → (k : ℕ) → k < 300 → element rows r k ≡ colour)
    → Becomes (record { rows = rows; left = left; top = top }) (λ x y. colour)
filled_by_rows rows left top colour each x y x_lt y_lt =
    at_is rows left top x y ∙ each ((y + top) % 216) (omega arith) ((x + left) % 300) (omega arith)

-- each element of a row is a pixel
pub row_of_filled : (rows : List (List ℕ)) (left top colour : ℕ) → left < 300 → top < 216
    → Becomes (record { rows = rows; left = left; top = top }) (λ x y. colour)
    → (r : ℕ) → r < 216 → (k : ℕ) → k < 300 → element rows r k ≡ colour
row_of_filled rows left top colour left_lt top_lt filled r r_lt k k_lt =
    let x : ℕ = (k + 300 - left) % 300 in
    let y : ℕ = (r + 216 - top) % 216 in
    let across : (x + left) % 300 ≡ k = omega arith in
    let down : (y + top) % 216 ≡ r = omega arith in
    sym (ap₂ (element rows) down across)
    ∙ sym (at_is rows left top x y)
    ∙ filled x y (omega arith) (omega arith)

-- ---- A part of a row becomes one colour.

outside : (place end x a b : ℕ) → (place ≤ x → end ≤ x)
    → (if nat_le place x && nat_lt x end then a else b) ≡ b
outside place end x a b past = elim (cases_lt x place) [
  | inl lt ↦ else_before place end x a b lt
  | inr from ↦ else_behind place end x a b (past from)
]

-- In a row that wraps around, `count` pixels from a place became one colour, and then the others at its front.
-- Together these are `width` pixels.
pub filled_round : (x left first count width colour x' v w old : ℕ) → left < 300 → x' < 300 → x + width ≤ 300
    → first ≡ (x + left) % 300 → count ≡ min width (300 - first)
    → v
    ≡ (if nat_le first ((x' + left) % 300) && nat_lt ((x' + left) % 300) (first + count) then colour else old)
    → w
    ≡ (if nat_le 0 ((x' + left) % 300) && nat_lt ((x' + left) % 300) (width - count) then colour else v)
    → w ≡ (if nat_le x x' && nat_lt x' (x + width) then colour else old)
filled_round x left first count width colour x' v w old left_lt x'_lt fits first_is count_is once twice =
    let k : ℕ = (x' + left) % 300 in
    between_places x (x + width) x' w colour old
    (λ before. twice
    ∙ else_behind 0 (width - count) k colour v (omega arith)
    ∙ once
    ∙ outside first (first + count) k colour old (λ from. omega arith))
    (λ from lt. elim (cases_lt k (width - count)) [
      | inl front ↦ twice ∙ then_within 0 (width - count) k colour v (omega arith) front
      | inr behind ↦
          twice
          ∙ else_behind 0 (width - count) k colour v behind
          ∙ once
          ∙ then_within first (first + count) k colour old (omega arith) (omega arith)
    ])
    (λ past. twice
    ∙ else_behind 0 (width - count) k colour v (omega arith)
    ∙ once
    ∙ outside first (first + count) k colour old (λ from. omega arith))

-- the same for a row of the memory
pub row_filled : (rows : List (List ℕ)) (one two : List ℕ) (left top x y width first count colour r : ℕ)
    → IsMemory (record { rows = rows; left = left; top = top }) → x + width ≤ 300 → y < 216
    → first ≡ (x + left) % 300 → count ≡ min width (300 - first) → r ≡ (y + top) % 216
    → ((i : ℕ) → get_or one i 0
    ≡ (if nat_le first i && nat_lt i (first + count) then colour else element rows r i))
    → ((i : ℕ) → get_or two i 0
    ≡ (if nat_le 0 i && nat_lt i (width - count) then colour else get_or one i 0))
    → Becomes (record { rows = set rows r two; left = left; top = top })
    (λ x' y'.
    if y' == y && nat_le x x' && nat_lt x' (x + width)
    then colour
    else at (record { rows = rows; left = left; top = top }) x' y')
row_filled rows one two left top x y width first count colour r g fits y_lt first_is count_is r_is once twice
    x' y' x'_lt y'_lt =
    let k : ℕ = (x' + left) % 300 in
    let top_lt = g.top_below in
    let r_in : r < length rows = omega (arith, g.count) in
    let new = at_is (set rows r two) left top x' y' in
    let old = at_is rows left top x' y' in
    elim (cases_eq y' y) [
      | inr apart ↦
          let rows_apart : (y' + top) % 216 ≢ r = omega arith in
          let value : at (record { rows = set rows r two; left = left; top = top }) x' y'
          ≡ at (record { rows = rows; left = left; top = top }) x' y' =
          new
          ∙ ap (λ (row : List ℕ). get_or row k 0)
          (get_or-set_other rows r ((y' + top) % 216) two [] rows_apart)
          ∙ sym old in
          grind (arith, nat_tests)
      | inl same ↦
          let here : (y' + top) % 216 ≡ r = ap (λ n. (n + top) % 216) same ∙ sym r_is in
          let row_new : at (record { rows = set rows r two; left = left; top = top }) x' y' ≡ get_or two k 0 =
          new
          ∙ ap (λ n. element (set rows r two) n k) here
          ∙ ap (λ (row : List ℕ). get_or row k 0) (get_or-set_same rows r two [] r_in) in
          let row_old : at (record { rows = rows; left = left; top = top }) x' y' ≡ element rows r k =
          old ∙ ap (λ n. element rows n k) here in
          let value =
          filled_round x left first count width colour x' (get_or one k 0) (get_or two k 0) (element rows r k)
          g.left_below x'_lt fits first_is count_is (once k) (twice k) in
          grind (arith, nat_tests)
    ]
