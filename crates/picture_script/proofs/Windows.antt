-- Pixels of a window, row by row.
use Rattle.std.proofs.Common.{◌≡◌, ℕ, ◌+◌, ◌-◌, ◌*◌, ◌<◌, ◌≤◌, ◌==◌, ◌&&◌, if◌then◌else◌, List, ◌++◌, length, get_or, take, drop, replicate, sym, ap, ◌∙◌, inl, inr, arith, length-append}
use Rattle.std.proofs.lemmas.Bool.{cases_eq, cases_lt}
use Rattle.std.proofs.lemmas.Bool.Decides.{nat_tests}
use Rattle.std.proofs.lemmas.List.{length-replicate, get_or-replicate, get_or_past, get_or_append_left, get_or-append_right, get_or-take, get_or-drop, length-take, length-drop, take_at}
use Rattle.std.specs.Prelude.{nat_le, nat_lt}
use borrow.Rule.Slice.PartMut.{put_mid}
use Rattle.picture_script.specs.Script.{is_within}
use Rattle.picture_script.specs.Board.{pixel_of, ArePixelsOf, AreWindowPixels, AreColours}

-- one colour everywhere, and 0 beyond the end
pub same-below : (n colour i : ℕ) → colour < 16 → get_or (replicate n colour) i 0 < 16
same-below n colour i small = elim (cases_lt i n) [
  | inl lt ↦ rw (get_or-replicate {A = ℕ} n i colour 0 lt) small
  | inr past ↦
      rw (get_or_past {X = ℕ} (replicate n colour) i 0 (omega (arith, length-replicate {A = ℕ})))
      (omega arith)
]

pub new-is_window : (pixels : List ℕ) (n : ℕ) → pixels ≡ replicate n 0 → n ≡ 55296 → AreWindowPixels pixels
new-is_window pixels n h size =
    rw h
    (record { count = length-replicate {A = ℕ} n 0 ∙ size; colours = λ i. same-below n 0 i (omega arith) })

pub new-becomes : (pixels : List ℕ) (n : ℕ) → pixels ≡ replicate n 0 → n ≡ 55296
    → ArePixelsOf pixels (λ x y. 0)
unfolding pixel_of
new-becomes pixels n h size x y x_lt y_lt = rw h (get_or-replicate {A = ℕ} n (288 * y + x) 0 0 (omega arith))

-- the colours of an empty canvas
pub no_colour : (n : ℕ) → get_or {A = ℕ} (replicate 16 0) n 0 ≡ 0
no_colour n = elim (cases_lt n 16) [
  | inl lt ↦ get_or-replicate {A = ℕ} 16 n 0 0 lt
  | inr past ↦ get_or_past {X = ℕ} (replicate 16 0) n 0 (omega (arith, length-replicate {A = ℕ} 16 0))
]

pub all-becomes : (pixels : List ℕ) (colour : ℕ) → ((k : ℕ) → k < 55296 → get_or pixels k 0 ≡ colour)
    → ArePixelsOf pixels (λ x y. colour)
unfolding pixel_of
all-becomes pixels colour all x y x_lt y_lt = all (288 * y + x) (omega arith)

pub get-pixel : (pixels : List ℕ) (x y value : ℕ) → value ≡ get_or pixels (288 * y + x) 0
    → value ≡ pixel_of pixels x y
unfolding pixel_of
get-pixel pixels x y value h = h

-- A part of the pixels is overwritten.

pub written-at : (old piece : List ℕ) (start count i : ℕ) → start + count ≤ length old → length piece ≡ count
    → get_or (put_mid start count old piece) i 0
    ≡ (if nat_le start i && nat_lt i (start + count) then get_or piece (i - start) 0 else get_or old i 0)
written-at old piece start count i within size =
    let first = length-take start old in
    let post = drop count (drop start old) in
    elim (cases_lt i start) [
      | inl before ↦
          let e =
          get_or_append_left (take start old) (piece ++ post) 0 i (omega (arith, first))
          ∙ get_or-take start old i 0 before in
          grind (arith, nat_tests)
      | inr after ↦
          let to_rest : get_or (put_mid start count old piece) i 0 ≡ get_or (piece ++ post) (i - start) 0 =
          get_or-append_right (take start old) (piece ++ post) start i 0 (omega (arith, first)) after in
          elim (cases_lt i (start + count)) [
            | inl there ↦
                let e = to_rest ∙ get_or_append_left piece post 0 (i - start) (omega (arith, size)) in
                grind (arith, nat_tests)
            | inr past ↦
                let back : start + (count + (i - start - count)) ≡ i = omega arith in
                let e : get_or (put_mid start count old piece) i 0 ≡ get_or old i 0 =
                to_rest
                ∙ get_or-append_right piece post count (i - start) 0 size (omega arith)
                ∙ get_or-drop count (drop start old) (i - start - count) 0
                ∙ get_or-drop start old (count + (i - start - count)) 0 ∙ ap (λ n. get_or old n 0) back in
                grind (arith, nat_tests)
          ]
    ]

-- the pixels after the part is back in its place
pub whole_again : (pixels rest : List ℕ) (count : ℕ) → count ≡ length pixels
    → take count (pixels ++ rest) ≡ pixels
whole_again pixels rest count size = take_at pixels rest count (sym size)

pub length-written : (old piece : List ℕ) (start count : ℕ) → start + count ≤ length old
    → length piece ≡ count
    → length (put_mid start count old piece) ≡ length old
length-written old piece start count within size =
    let first = length-take start old in
    let from = length-drop start old in
    let rest = length-drop count (drop start old) in
    let inner = length-append piece (drop count (drop start old)) in
    let outer = length-append (take start old) (piece ++ drop count (drop start old)) in
    omega arith

pub written-is_window : (old piece : List ℕ) (start count : ℕ) → AreWindowPixels old → AreColours piece
    → start + count ≤ 55296 → length piece ≡ count
    → AreWindowPixels (put_mid start count old piece)
written-is_window old piece start count w small within size = record {
  count = length-written old piece start count (omega (arith, w.count)) size ∙ w.count;
  colours = λ i.
      let e = written-at old piece start count i (omega (arith, w.count)) size in
      let one = small (i - start) in
      let other = w.colours i in
      grind (arith, nat_tests);
}

pub written-becomes : (old piece : List ℕ) (x y count : ℕ) → length old ≡ 55296 → x + count ≤ 288 → y < 192
    → length piece ≡ count
    → ArePixelsOf (put_mid (288 * y + x) count old piece)
    (λ x' y'. if is_within x count x' && y' == y then get_or piece (x' - x) 0 else pixel_of old x' y')
unfolding pixel_of
written-becomes old piece x y count whole within down size x' y' x'_lt y'_lt =
    let e = written-at old piece (288 * y + x) count (288 * y' + x') (omega arith) size in
    elim (cases_eq y' y) [
      | inl same ↦
          let at : 288 * y' + x' - (288 * y + x) ≡ x' - x = omega arith in
          let f = ap (λ n. get_or piece n 0) at in
          grind (arith, nat_tests)
      | inr apart ↦ grind (arith, nat_tests)
    ]

pub solid-small : (n colour : ℕ) → colour < 16 → AreColours (replicate n colour)
solid-small n colour small i = same-below n colour i small

-- a row, as the code writes it
pub row-written : (items old new piece : List ℕ) (len x y count : ℕ) → old ≡ items → new ≡ piece
    → length items ≡ 55296 → len ≡ length items → x + count ≤ 288 → y < 192 → length piece ≡ count
    → (x' y' : ℕ) → x' < 288 → y' < 192
    → pixel_of (take len (put_mid (288 * y + x) (288 * y + x + count - (288 * y + x)) old new
    ++ drop (length (put_mid (288 * y + x) (288 * y + x + count - (288 * y + x)) old new)) items)) x' y'
    ≡ (if is_within x count x' && y' == y then get_or piece (x' - x) 0 else pixel_of items x' y')
row-written items old new piece len x y count same written whole full within down size x' y' x'_lt y'_lt =
    let k : 288 * y + x + count - (288 * y + x) ≡ count = omega arith in
    rw (
      same,
      written,
      k,
      whole_again (put_mid (288 * y + x) count items piece)
          (drop (length (put_mid (288 * y + x) count items piece)) items) len
          (full ∙ sym (length-written items piece (288 * y + x) count (omega arith) size)),
    ) (written-becomes items piece x y count whole within down size x' y' x'_lt y'_lt)

pub row-is_window : (items old new piece : List ℕ) (len start count : ℕ) → old ≡ items → new ≡ piece
    → AreWindowPixels items → AreColours piece → len ≡ length items → start + count ≤ 55296
    → length piece ≡ count
    → AreWindowPixels (take len (put_mid start (start + count - start) old new
    ++ drop (length (put_mid start (start + count - start) old new)) items))
row-is_window items old new piece len start count same written w small full within size =
    let k : start + count - start ≡ count = omega arith in
    rw (
      same,
      written,
      k,
      whole_again (put_mid start count items piece) (drop (length (put_mid start count items piece)) items)
          len
          (full ∙ sym (length-written items piece start count (omega (arith, w.count)) size)),
    ) (written-is_window items piece start count w small within size)

pub part-length : (pixels : List ℕ) (start count : ℕ) → start + count ≤ length pixels
    → length (take (start + count - start) (drop start pixels)) ≡ count
part-length pixels start count within =
    let rest = length-drop start pixels in
    let part = length-take (start + count - start) (drop start pixels) in
    omega arith

-- a row of one colour
pub row-filled : (items old new : List ℕ) (len x y count colour : ℕ) → old ≡ items
    → new ≡ replicate count colour → length items ≡ 55296 → len ≡ length items → x + count ≤ 288 → y < 192
    → (x' y' : ℕ) → x' < 288 → y' < 192
    → pixel_of (take len (put_mid (288 * y + x) (288 * y + x + count - (288 * y + x)) old new
    ++ drop (length (put_mid (288 * y + x) (288 * y + x + count - (288 * y + x)) old new)) items)) x' y'
    ≡ (if y' == y && is_within x count x' then colour else pixel_of items x' y')
row-filled items old new len x y count colour same written whole full within down x' y' x'_lt y'_lt =
    let e =
    row-written items old new (replicate count colour) len x y count same written whole full within down
    (length-replicate {A = ℕ} count colour) x' y' x'_lt y'_lt in
    elim (cases_lt (x' - x) count) [
      | inl there ↦
          let f = get_or-replicate {A = ℕ} count (x' - x) colour 0 there in
          grind (arith, nat_tests)
      | inr past ↦ grind (arith, nat_tests)
    ]
