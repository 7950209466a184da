-- The length of a generated script.
use Rattle.std.proofs.Common.{◌≡◌, ℕ, zero, suc, ◌+◌, ◌*◌, ◌≤◌, List, [], ◌∷◌, ◌++◌, length, flat_map, refl, ap, ◌∙◌, decimal, length-append, arith}
use Rattle.std.proofs.lemmas.Grind.{flat_map-append}
use Rattle.std.specs.Char.{digit_char}
use Rattle.std.specs.List.{range_with_len}
use Rattle.bit_lists.specs.Counting.{below}
use Rattle.cdg_workload.specs.Generator.{generator_word}
use Rattle.cdg_workload.specs.Script.{rectangle_of, generated_rect_line, grey_line, generated_show_line, picture_lines, generated_script}
use Rattle.cdg_workload.proofs.Numerals.{decimal_short, decimal_of_two, decimal_of_one}
use Rattle.cdg_workload.proofs.LineTexts.{small_rect, rect_text, rect_of_words, rect_line_is, grey_text, grey_line_is, show_text, show_line_is}

rect_size : (a b c d e : List ℕ)
    → length (rect_text a b c d e) ≡ 9 + length a + length b + length c + length d + length e
unfolding rect_text
rect_size a b c d e =
    omega (
      arith,
      length-append a (32 ∷ (b ++ 32 ∷ (c ++ 32 ∷ (d ++ 32 ∷ e)))),
      length-append b
          (32 ∷ (c ++ 32 ∷ (d ++ 32 ∷ e))),
      length-append c (32 ∷ (d ++ 32 ∷ e)),
      length-append d (32 ∷ e),
    )

line_size : (line : List ℕ) → length (line ++ 10 ∷ []) ≡ length line + 1
line_size line = length-append line (10 ∷ [])

rect_short : (a b : ℕ) → length (generated_rect_line a b) ≤ 24
unfolding rect_of_words
rect_short a b =
    let small = small_rect a b in
    let r = rectangle_of a b in
    let x = decimal_short r.x (omega (arith, small.across)) in
    let y = decimal_short r.y (omega (arith, small.down)) in
    let width = decimal_short r.width (omega (arith, small.across)) in
    let height = decimal_short r.height (omega (arith, small.down)) in
    let colour = decimal_of_two r.colour (omega (arith, small.colour)) in
    omega (
      arith,
      ap length (rect_line_is a b),
      line_size (rect_of_words a b),
      rect_size (decimal r.x)
          (decimal r.y) (decimal r.width) (decimal r.height) (decimal r.colour),
      x,
      y,
      width,
      height,
      colour,
    )

show_size : (k : ℕ) → length (show_text k) ≡ 22
unfolding show_text
show_size k = refl

show_short : (k : ℕ) → length (generated_show_line k) ≡ 23
show_short k = ap length (show_line_is k) ∙ line_size (show_text k) ∙ ap (λ n. n + 1) (show_size k)

grey_size : (k : ℕ) → length (grey_line k) ≡ 13 + length (decimal k)
unfolding grey_text
grey_size k =
    omega (
      arith,
      ap length (grey_line_is k),
      line_size (grey_text k),
      length-append (decimal k)
          (32 ∷ (48 ∷ digit_char k ∷ digit_char k ∷ digit_char k ∷ [])),
    )

first_greys : (m a : ℕ) → a + m ≤ 10 → length (flat_map grey_line (range_with_len a m)) ≤ 14 * m
first_greys zero a within = omega arith
first_greys (suc m) a within =
    omega (
      arith,
      length-append (grey_line a) (flat_map grey_line (range_with_len (a + 1) m)),
      grey_size a,
      decimal_of_one a (omega (arith, within)),
      first_greys m (a + 1) (omega (arith, within)),
    )

last_greys : (m a : ℕ) → a + m ≤ 16 → length (flat_map grey_line (range_with_len a m)) ≤ 15 * m
last_greys zero a within = omega arith
last_greys (suc m) a within =
    omega (
      arith,
      length-append (grey_line a) (flat_map grey_line (range_with_len (a + 1) m)),
      grey_size a,
      decimal_of_two a (omega (arith, within)),
      last_greys m (a + 1) (omega (arith, within)),
    )

sixteen : below 16 ≡ range_with_len 0 10 ++ range_with_len 10 6
sixteen = refl

greys_short : length (flat_map grey_line (below 16)) ≤ 230
greys_short =
    let parts = ap (λ l. length (flat_map grey_line l)) sixteen
    ∙ ap length (flat_map-append grey_line (range_with_len 0 10) (range_with_len 10 6)) in
    omega (
      arith,
      parts,
      length-append (flat_map grey_line (range_with_len 0 10))
          (flat_map grey_line (range_with_len 10 6)),
      first_greys 10 0 (omega arith),
      last_greys 6 10 (omega arith),
    )

four_sizes : (a b c d : List ℕ)
    → length ((a ++ (b ++ (c ++ []))) ++ d) ≡ length a + length b + length c + length d
four_sizes a b c d =
    omega (
      arith,
      length-append (a ++ (b ++ (c ++ []))) d,
      length-append a (b ++ (c ++ [])),
      length-append b
          (c ++ []),
      length-append c [],
    )

picture_short : (seed k : ℕ) → length (picture_lines seed k) ≤ 95
unfolding picture_lines
picture_short seed k =
    let a = generated_rect_line (generator_word seed (6 * k + 2 * 0))
    (generator_word seed (6 * k + 2 * 0 + 1)) in
    let b = generated_rect_line (generator_word seed (6 * k + 2 * 1))
    (generator_word seed (6 * k + 2 * 1 + 1)) in
    let c = generated_rect_line (generator_word seed (6 * k + 2 * 2))
    (generator_word seed (6 * k + 2 * 2 + 1)) in
    omega (
      arith,
      four_sizes a b c (generated_show_line k),
      rect_short (generator_word seed (6 * k + 2 * 0))
          (generator_word seed (6 * k + 2 * 0 + 1)),
      rect_short (generator_word seed (6 * k + 2 * 1))
          (generator_word seed (6 * k + 2 * 1 + 1)),
      rect_short (generator_word seed (6 * k + 2 * 2))
          (generator_word seed (6 * k + 2 * 2 + 1)),
      show_short k,
    )

pictures_short : (seed m k : ℕ) → length (flat_map (picture_lines seed) (range_with_len k m)) ≤ 95 * m
pictures_short seed zero k = omega arith
pictures_short seed (suc m) k =
    omega (
      arith,
      length-append (picture_lines seed k)
          (flat_map (picture_lines seed) (range_with_len (k + 1) m)),
      picture_short seed k,
      pictures_short seed m
          (k + 1),
    )

pub script_short : (seed count : ℕ) → length (generated_script seed count) ≤ 230 + 95 * count
unfolding generated_script
script_short seed count =
    omega (
      arith,
      length-append (flat_map grey_line (below 16))
          (flat_map (picture_lines seed) (below count)),
      greys_short,
      pictures_short seed count 0,
    )
