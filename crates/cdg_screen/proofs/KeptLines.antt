-- A line of a tile that leaves its six pixels as they are.
use Rattle.std.proofs.Common.{◌≡◌, ℕ, ◌+◌, ◌-◌, ◌%◌, ◌<◌, ◌≤◌, ◌==◌, ◌&&◌, if◌then◌else◌, Bool, true, List, [], length, get_or, take, drop, bit_xor, sym, ap, ap₂, ◌∙◌, inl, inr, refl, arith}
use Rattle.std.specs.Prelude.{◌↔◌, IsTrue, bytes_eq, nat_le, nat_lt}
use Rattle.std.specs.Int.Bits.{xor_assoc, xor_self, xor_zero_l, xor_zero_r}
use Rattle.std.proofs.lemmas.Bool.{cases_Bool}
use Rattle.std.proofs.lemmas.Bool.Decides.{nat_tests}
use Rattle.std.proofs.lemmas.List.{get_or-drop, get_or-take, get_or_default, length-take-le, same_lists}
use Rattle.std.proofs.lemmas.Slice.Eq.{bytes_eq-Decides}
use Rattle.cdg_screen.specs.Memory.{MemoryRows, at, Becomes}
use Rattle.cdg_screen.proofs.MemoryRows.{at_is, element}

-- ---- Six pixels over six others.

-- six numbers that are compared as lists
pub six_equal : (xs ys : List ℕ) (r : Bool) → 6 ≤ length xs → length ys ≡ 6 → r ≡ bytes_eq (take 6 xs) ys
    → IsTrue r ↔ ((i : ℕ) → i < 6 → get_or ys i 0 ≡ get_or xs i 0)
six_equal xs ys r long size is =
    let decides = bytes_eq-Decides (take 6 xs) ys in
    let front : length (take 6 xs) ≡ 6 = length-take-le 6 xs long in (
      (λ holds i lt.
          ap (λ (l : List ℕ). get_or l i 0) (sym (decides.0 (sym is ∙ holds))) ∙ get_or-take 6 xs i 0 lt),
      λ same.
          is
          ∙ decides.1 (same_lists (take 6 xs) ys (front ∙ sym size) (λ k d lt.
          get_or_default (take 6 xs) k d 0 lt
          ∙ get_or-take 6 xs k 0 (omega (arith, lt, front))
          ∙ sym (same k (omega (arith, lt, front)))
          ∙ get_or_default ys k 0 d (omega (arith, lt, front, size)))),
    )

xor_kept : (colour old : ℕ) → old ≡ bit_xor colour old → colour ≡ 0
xor_kept colour old kept =
    sym (xor_zero_r colour)
    ∙ ap (bit_xor colour) (sym (xor_self old))
    ∙ sym (xor_assoc colour old old)
    ∙ ap (λ n. bit_xor n old) (sym kept)
    ∙ xor_self old

-- combining with zeros leaves the pixels as they are
pub zeros_leave : (pixels others zeros : List ℕ) (r : Bool) → 6 ≤ length pixels → length zeros ≡ 6
    → ((i : ℕ) → i < 6 → get_or zeros i 0 ≡ 0) → r ≡ bytes_eq (take 6 pixels) zeros
    → IsTrue r
    ↔ ((i : ℕ) → i < 6 → get_or others i 0 ≡ bit_xor (get_or pixels i 0) (get_or others i 0))
zeros_leave pixels others zeros r long size none is =
    let equal = six_equal pixels zeros r long size is in (
      (λ holds i lt.
          sym (xor_zero_l (get_or others i 0))
          ∙ ap (λ n. bit_xor n (get_or others i 0)) (sym (none i lt) ∙ equal.0 holds i lt)),
      λ kept. equal.1 (λ i lt.
          none i lt ∙ sym (xor_kept (get_or pixels i 0) (get_or others i 0) (kept i lt))),
    )

-- ---- Six pixels of the memory.

-- the six pixels are side by side in a row
pub six_at : (rows : List (List ℕ)) (left top x y first r i : ℕ) → left < 300 → left % 6 ≡ 0 → x % 6 ≡ 0
    → x + 6 ≤ 300 → first ≡ (x + left) % 300 → r ≡ (y + top) % 216 → i < 6
    → get_or (take (first + 6 - first) (drop first (get_or rows r []))) i 0
    ≡ at (record { rows = rows; left = left; top = top }) (x + i) y
six_at rows left top x y first r i left_lt left_whole x_whole fits first_is r_is lt =
    let row : List ℕ = get_or rows r [] in
    let place : first + i ≡ (x + i + left) % 300 = omega arith in
    get_or-take (first + 6 - first) (drop first row) i 0 (omega arith)
    ∙ get_or-drop first row i 0
    ∙ ap₂ (element rows) r_is place
    ∙ sym (at_is rows left top (x + i) y)

-- each of them is unchanged
pub six_kept : (memory : MemoryRows) (x y : ℕ) (drawn : ℕ → ℕ → ℕ)
    → ((i : ℕ) → i < 6 → at memory (x + i) y ≡ drawn i (at memory (x + i) y))
    → Becomes memory (λ x' y'. if y' == y && nat_le x x' && nat_lt x' (x + 6)
    then drawn (x' - x) (at memory x' y')
    else at memory x' y')
six_kept memory x y drawn each x' y' x'_lt y'_lt =
    elim (cases_Bool (y' == y && nat_le x x' && nat_lt x' (x + 6))) [
      | inr outside ↦ rw outside refl
      | inl inside ↦
          let down : y ≡ y' = grind (arith, nat_tests) in
          let from : x ≤ x' = grind (arith, nat_tests) in
          let to : x' < x + 6 = grind (arith, nat_tests) in
          let across : x + (x' - x) ≡ x' = omega arith in
          let here : at memory (x + (x' - x)) y ≡ drawn (x' - x) (at memory (x + (x' - x)) y) =
          each (x' - x) (omega arith) in
          let same : at memory (x + (x' - x)) y ≡ at memory x' y' = ap₂ (at memory) across down in
          rw inside (sym same ∙ here ∙ ap (drawn (x' - x)) same)
    ]

pub kept_six : (memory : MemoryRows) (x y : ℕ) (drawn : ℕ → ℕ → ℕ) → x + 6 ≤ 300 → y < 216
    → Becomes memory (λ x' y'. if y' == y && nat_le x x' && nat_lt x' (x + 6)
    then drawn (x' - x) (at memory x' y')
    else at memory x' y')
    → (i : ℕ) → i < 6 → at memory (x + i) y ≡ drawn i (at memory (x + i) y)
kept_six memory x y drawn fits y_lt kept i lt =
    let inside : (y == y && nat_le x (x + i) && nat_lt (x + i) (x + 6)) ≡ true = grind (arith, nat_tests) in
    let place : x + i - x ≡ i = omega arith in
    let here : at memory (x + i) y ≡ drawn (x + i - x) (at memory (x + i) y) =
    rw inside at (kept (x + i) y (omega arith) y_lt) in
    here ∙ ap (λ n. drawn n (at memory (x + i) y)) place
