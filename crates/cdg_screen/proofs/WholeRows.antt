-- Parts of rows that overwrite others.
use Rattle.std.proofs.Common.{◌≡◌, ap₂, ℕ, ◌+◌, ◌-◌, ◌%◌, ◌<◌, ◌≤◌, ◌&&◌, if◌then◌else◌, List, ◌++◌, length, get_or, take, drop, replicate, ◌∙◌, ap, refl, sym, inl, inr, arith, length-drop}
use Rattle.std.specs.Prelude.{min, nat_le, nat_lt}
use Rattle.std.proofs.lemmas.Bool.{cases_lt}
use Rattle.std.proofs.lemmas.Bool.Decides.{nat_tests}
use Rattle.std.proofs.lemmas.List.{get_or_append_left, get_or-append_right, get_or-drop, get_or-replicate, get_or-take, length-replicate, length-take-le}
use borrow.Rule.Slice.PartMut.{put_mid}
use Rattle.cdg_screen.specs.Memory.{at, Kept, seen}
use Rattle.cdg_screen.specs.Standing.{pixel_at, screen_pixel}
use Rattle.cdg_screen.proofs.Lists.{pixel_of_rows}
use Rattle.cdg_screen.proofs.Window.{window_pixel}

pub else_before : (place end x a b : ℕ) → x < place → (if nat_le place x && nat_lt x end then a else b) ≡ b
else_before place end x a b lt = grind (arith, nat_tests)

pub else_behind : (place end x a b : ℕ) → end ≤ x → (if nat_le place x && nat_lt x end then a else b) ≡ b
else_behind place end x a b past = grind (arith, nat_tests)

pub then_within : (place end x a b : ℕ) → place ≤ x → x < end
    → (if nat_le place x && nat_lt x end then a else b) ≡ a
then_within place end x a b from lt = grind (arith, nat_tests)

-- a number that is `a` between two places, and otherwise `b`
pub between_places : (place end x v a b : ℕ) → (x < place → v ≡ b) → (place ≤ x → x < end → v ≡ a)
    → (end ≤ x → v ≡ b)
    → v ≡ (if nat_le place x && nat_lt x end then a else b)
between_places place end x v a b before within behind = elim (cases_lt x place) [
  | inl lt ↦ before lt ∙ sym (else_before place end x a b lt)
  | inr from ↦ elim (cases_lt x end) [
    | inl lt ↦ within from lt ∙ sym (then_within place end x a b from lt)
    | inr past ↦ behind past ∙ sym (else_behind place end x a b past)
  ]
]

-- the length of a part of a list
pub length-part : (xs : List ℕ) (at k : ℕ) → at + k ≤ length xs → length (take k (drop at xs)) ≡ k
length-part xs at k fits = length-take-le k (drop at xs) (omega (arith, length-drop at xs, fits))

-- a number of a list in which a part was overwritten
pub piece_put : (at k : ℕ) (xs ys : List ℕ) (n : ℕ) → at + length ys ≤ length xs → k ≡ length ys
    → get_or (put_mid at k xs ys) n 0
    ≡ (if nat_le at n && nat_lt n (at + length ys) then get_or ys (n - at) 0 else get_or xs n 0)
piece_put at k xs ys n fits is =
    let front : length (take at xs) ≡ at = length-take-le at xs (omega (arith, fits)) in
    between_places at (at + length ys) n (get_or (put_mid at k xs ys) n 0) (get_or ys (n - at) 0)
    (get_or xs n 0)
    (λ lt. get_or_append_left (take at xs) (ys ++ drop k (drop at xs)) 0 n (omega (arith, lt, front))
    ∙ get_or-take at xs n 0 lt)
    (λ from lt. get_or-append_right (take at xs) (ys ++ drop k (drop at xs)) at n 0 front from
    ∙ get_or_append_left ys (drop k (drop at xs)) 0 (n - at) (omega (arith, from, lt)))
    (λ past. get_or-append_right (take at xs) (ys ++ drop k (drop at xs)) at n 0 front (omega (arith, past))
    ∙ get_or-append_right ys (drop k (drop at xs)) (length ys) (n - at) 0 refl (omega (arith, past))
    ∙ get_or-drop k (drop at xs) (n - at - length ys) 0
    ∙ get_or-drop at xs (k + (n - at - length ys)) 0
    ∙ ap (λ i. get_or xs i 0) (omega (arith, past, is)))

-- a number of a list in which a part was filled with one number
pub filled_part : (from to colour : ℕ) (xs ys : List ℕ) (i : ℕ) → from ≤ to → to ≤ length xs
    → ys ≡ replicate (length (take (to - from) (drop from xs))) colour
    → get_or (put_mid from (to - from) xs ys) i 0
    ≡ (if nat_le from i && nat_lt i to then colour else get_or xs i 0)
filled_part from to colour xs ys i order fits is =
    let size : length ys ≡ to - from =
    ap length is
    ∙ length-replicate {A = ℕ} (length (take (to - from) (drop from xs))) colour
    ∙ length-part xs from (to - from) (omega (arith, order, fits)) in
    let put = piece_put from (to - from) xs ys i (omega (arith, size, order, fits)) (omega (arith, size)) in
    between_places from to i (get_or (put_mid from (to - from) xs ys) i 0) colour (get_or xs i 0)
    (λ lt. put ∙ else_before from (from + length ys) i _ _ lt)
    (λ after lt. put
    ∙ then_within from (from + length ys) i _ _ after (omega (arith, lt, size, order))
    ∙ ap (λ (l : List ℕ). get_or l (i - from) 0) is
    ∙ get_or-replicate {A = ℕ} (length (take (to - from) (drop from xs))) (i - from) colour 0
    (omega (arith, lt, after, length-part xs from (to - from) (omega (arith, order, fits)))))
    (λ past. put ∙ else_behind from (from + length ys) i _ _ (omega (arith, past, size, order)))

-- A pixel of a part of a row that begins at a moving place: from the pixels up to the end of the row,
pub front_columns : (row one old : List ℕ) (x left first count k i : ℕ) → length row ≡ 300 → left < 300
    → first ≡ (x + left) % 300 → first + count ≤ 300 → k ≡ count → x + i < 300 → i < count
    → get_or one i 0
    ≡ (if nat_le 0 i && nat_lt i (0 + length (take k (drop first row)))
    then get_or (take k (drop first row)) (i - 0) 0
    else get_or old i 0)
    → get_or one i 0 ≡ get_or row ((x + i + left) % 300) 0
front_columns row one old x left first count k i size left_lt first_is fits k_is x_lt lt is =
    let long : length (take k (drop first row)) ≡ k =
    length-part row first k (omega (arith, fits, k_is, size)) in
    is
    ∙ then_within 0 (0 + length (take k (drop first row))) i _ _ (omega arith) (omega (arith, long, lt, k_is))
    ∙ get_or-take k (drop first row) (i - 0) 0 (omega (arith, lt, k_is))
    ∙ get_or-drop first row (i - 0) 0
    ∙ ap (λ n. get_or row n 0) (omega (arith, lt, fits, first_is, left_lt, x_lt))

-- or from those at its front, which follow them.
pub turned_columns : (row one two : List ℕ) (x left first count rest i : ℕ) → length row ≡ 300 → left < 300
    → first ≡ (x + left) % 300 → first + count ≡ 300 → x + i < 300 → i < count + rest → rest ≤ 300
    → (i < count → get_or one i 0 ≡ get_or row ((x + i + left) % 300) 0)
    → get_or two i 0
    ≡ (if nat_le count i && nat_lt i (count + length (take rest row))
    then get_or (take rest row) (i - count) 0
    else get_or one i 0)
    → get_or two i 0 ≡ get_or row ((x + i + left) % 300) 0
turned_columns row one two x left first count rest i size left_lt first_is full x_lt lt most front is =
    let long : length (take rest row) ≡ rest = length-take-le rest row (omega (arith, most, size)) in
    elim (cases_lt i count) [
      | inl early ↦ is ∙ else_before count (count + length (take rest row)) i _ _ early ∙ front early
      | inr late ↦
          is
          ∙ then_within count (count + length (take rest row)) i _ _ late (omega (arith, lt, long))
          ∙ get_or-take rest row (i - count) 0 (omega (arith, lt, late))
          ∙ ap (λ n. get_or row n 0) (omega (arith, late, lt, full, first_is, left_lt, x_lt))
    ]

-- a choice between numbers below 16 is below 16
pub small_between : (v a b place end x : ℕ) → v ≡ (if nat_le place x && nat_lt x end then a else b) → a < 16
    → b < 16
    → v < 16
small_between v a b place end x is a_lt b_lt = elim (cases_lt x place) [
  | inl lt ↦ omega (arith, is ∙ else_before place end x a b lt, b_lt)
  | inr from ↦ elim (cases_lt x end) [
    | inl lt ↦ omega (arith, is ∙ then_within place end x a b from lt, a_lt)
    | inr past ↦ omega (arith, is ∙ else_behind place end x a b past, b_lt)
  ]
]

-- Pixel i of the columns of a row: the border up to `left`, then a copied part up to `right`, then the border.
pub columns_are : (x left right end i border : ℕ) (old first copied third : List ℕ) → left ≡ 6 - x
    → right ≡ min (294 - x) end → left < right → length first ≡ end → length copied ≡ right - left → i < end
    → get_or first i 0 ≡ (if nat_le 0 i && nat_lt i left then border else get_or old i 0)
    → get_or third i 0
    ≡ (if nat_le right i && nat_lt i end
    then border
    else get_or (put_mid left (right - left) first copied) i 0)
    → get_or third i 0
    ≡ (if nat_le 6 (x + i) && nat_lt (x + i) 294 then get_or copied (i - left) 0 else border)
columns_are x left right end i border old first copied third left_is right_is order one_size two_size lt one
    last =
    let fits : left + length copied ≤ length first = omega (arith, two_size, one_size, order, right_is) in
    let put = piece_put left (right - left) first copied i fits (omega (arith, two_size)) in
    between_places 6 294 (x + i) (get_or third i 0) (get_or copied (i - left) 0) border
    (λ early. last
    ∙ else_before right end i _ _ (omega (arith, early, left_is, order))
    ∙ put
    ∙ else_before left (left + length copied) i _ _ (omega (arith, early, left_is))
    ∙ one
    ∙ then_within 0 left i _ _ (omega arith) (omega (arith, early, left_is)))
    (λ from early. last
    ∙ else_before right end i _ _ (omega (arith, early, right_is, lt))
    ∙ put
    ∙ then_within left (left + length copied) i _ _ (omega (arith, from, left_is))
    (omega (arith, early, right_is, lt, two_size, order)))
    (λ past. last ∙ then_within right end i _ _ (omega (arith, past, right_is)) lt)

-- a pixel of a row that crosses the window
pub window_row : (kept : Kept) (x y h v shown new : ℕ) → h ≡ kept.h → v ≡ kept.v → x < 300 → 12 ≤ y → y < 204
    → kept.h ≤ 5 → kept.v ≤ 11 → (6 ≤ x → x < 294 → shown ≡ at kept.memory (x + h) (y + v))
    → new ≡ (if nat_le 6 x && nat_lt x 294 then shown else kept.border)
    → new ≡ screen_pixel (seen kept) x y
window_row kept x y h v shown new h_is v_is x_lt top bottom h_le v_le there is = elim (cases_lt x 6) [
  | inl lt ↦ is ∙ else_before 6 294 x _ _ lt ∙ grind (arith, nat_tests)
  | inr from ↦ elim (cases_lt x 294) [
    | inl lt ↦
        let same : shown ≡ pixel_at (seen kept).memory (x + kept.h) (y + kept.v) =
        there from lt
        ∙ ap₂ (λ i j. at kept.memory (x + i) (y + j)) h_is v_is
        ∙ sym (pixel_of_rows (at kept.memory) (x + kept.h) (y + kept.v) (omega (arith, lt, h_le))
        (omega (arith, bottom, v_le))) in
        is
        ∙ then_within 6 294 x _ _ from lt
        ∙ window_pixel (seen kept) x y _ from (omega (arith, lt)) top (omega (arith, bottom)) same
    | inr past ↦ is ∙ else_behind 6 294 x _ _ past ∙ grind (arith, nat_tests)
  ]
]
