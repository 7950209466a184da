-- A standing as lists: the rows of the memory, and sixteen numbers.
use Rattle.std.proofs.Common.{◌≡◌, ℕ, ◌<◌, List, [], length, get_or, map, sym, ap, ◌∙◌, arith}
use Rattle.std.specs.Prelude.{slice_index}
use Rattle.std.proofs.lemmas.List.{ext_get_or}
use Rattle.std.proofs.lemmas.List.FromFn.{length-map-range_with_len, get_or-map-range_with_len, fill_by_all}
use Rattle.bit_lists.specs.Counting.{below}
use Rattle.cdg_screen.specs.Standing.{IsWholeStanding, Standing, pixel_at, rows_of, sixteen, standing_after}

-- both memories have the same pixel at each place
abbrev pub AreSamePixels : (ℕ → ℕ → ℕ) → (ℕ → ℕ → ℕ) → Type 0
AreSamePixels one other = (x y : ℕ) → x < 300 → y < 216 → one x y ≡ other x y

-- pixel (x, y) of rows
pub pixel_of_rows : (pixel : ℕ → ℕ → ℕ) (x y : ℕ) → x < 300 → y < 216
    → pixel_at (rows_of pixel) x y ≡ pixel x y
unfolding pixel_at rows_of
pixel_of_rows pixel x y x_lt y_lt =
    ap (λ (row : List ℕ). get_or row x 0)
    (get_or-map-range_with_len (λ y. map (λ x. pixel x y) (below 300)) 0 216 y y [] y_lt (omega arith))
    ∙ get_or-map-range_with_len (λ x. pixel x y) 0 300 x x 0 x_lt (omega arith)

-- number k of sixteen
pub number_of_sixteen : (number : ℕ → ℕ) (k : ℕ) → k < 16 → slice_index (sixteen number) k ≡ number k
unfolding sixteen
number_of_sixteen number k lt = get_or-map-range_with_len number 0 16 k k 0 lt (omega arith)

pub length-rows_of : (pixel : ℕ → ℕ → ℕ) → length (rows_of pixel) ≡ 216
unfolding rows_of
length-rows_of pixel = length-map-range_with_len (λ y. map (λ x. pixel x y) (below 300)) 0 216

pub length-row : (pixel : ℕ → ℕ → ℕ) (y : ℕ) → y < 216 → length (get_or (rows_of pixel) y []) ≡ 300
unfolding rows_of
length-row pixel y lt =
    ap length
    (get_or-map-range_with_len (λ y. map (λ x. pixel x y) (below 300)) 0 216 y y [] lt (omega arith))
    ∙ length-map-range_with_len (λ x. pixel x y) 0 300

pub length-sixteen : (number : ℕ → ℕ) → length (sixteen number) ≡ 16
unfolding sixteen
length-sixteen number = length-map-range_with_len number 0 16

-- rows of the right size with the pixels of a function are its rows
pub rows_are : (rows : List (List ℕ)) (pixel : ℕ → ℕ → ℕ) → length rows ≡ 216
    → ((y : ℕ) → y < 216 → length (get_or rows y []) ≡ 300) → AreSamePixels (pixel_at rows) pixel
    → rows ≡ rows_of pixel
unfolding pixel_at
rows_are rows pixel count widths same =
    ext_get_or [] rows (rows_of pixel) (count ∙ sym (length-rows_of pixel)) (λ y lt.
    let y_lt : y < 216 = omega (arith, count) in
    ext_get_or 0 (get_or rows y []) (get_or (rows_of pixel) y [])
    (widths y y_lt ∙ sym (length-row pixel y y_lt)) (λ x lt.
    let x_lt : x < 300 = omega (arith, widths y y_lt) in
    same x y x_lt y_lt ∙ sym (pixel_of_rows pixel x y x_lt y_lt)))

-- and the same for one row
pub row_is : (row : List ℕ) (pixel : ℕ → ℕ → ℕ) (y : ℕ) → y < 216 → length row ≡ 300
    → ((x : ℕ) → x < 300 → get_or row x 0 ≡ pixel x y) → row ≡ get_or (rows_of pixel) y []
unfolding pixel_at
row_is row pixel y lt width same =
    ext_get_or 0 row (get_or (rows_of pixel) y []) (width ∙ sym (length-row pixel y lt)) (λ x x_in.
    let x_lt : x < 300 = omega (arith, width, x_in) in
    same x x_lt ∙ sym (pixel_of_rows pixel x y x_lt lt))

-- and for sixteen numbers
pub sixteen_are : (numbers : List ℕ) (number : ℕ → ℕ) → length numbers ≡ 16
    → ((k : ℕ) → k < 16 → slice_index numbers k ≡ number k)
    → numbers ≡ sixteen number
unfolding sixteen
sixteen_are numbers number count same = fill_by_all number numbers 16 0 count same

pub rows_same : (one other : ℕ → ℕ → ℕ) → AreSamePixels one other → rows_of one ≡ rows_of other
rows_same one other same =
    rows_are (rows_of one) other (length-rows_of one) (length-row one)
    (λ x y x_lt y_lt. pixel_of_rows one x y x_lt y_lt ∙ same x y x_lt y_lt)

pub sixteen_same : (one other : ℕ → ℕ) → ((k : ℕ) → k < 16 → one k ≡ other k) → sixteen one ≡ sixteen other
sixteen_same one other same =
    sixteen_are (sixteen one) other (length-sixteen one) (λ k lt. number_of_sixteen one k lt ∙ same k lt)

-- both standings agree place by place
pub record IsAlike (one other : Standing) : Type 0 where
  pub memory : AreSamePixels (pixel_at one.memory) (pixel_at other.memory)
  pub border : one.border ≡ other.border
  pub colours : (k : ℕ) → k < 16 → slice_index one.colours k ≡ slice_index other.colours k
  pub levels : (k : ℕ) → k < 16 → slice_index one.levels k ≡ slice_index other.levels k
  pub h : one.h ≡ other.h
  pub v : one.v ≡ other.v

-- such standings are equal
pub one_value : (one other : Standing) → IsWholeStanding one → IsWholeStanding other → IsAlike one other
    → one ≡ other
one_value one other whole other_whole alike =
    let memory = rows_same _ _ alike.memory in
    let colours = sixteen_same _ _ alike.colours in
    let levels = sixteen_same _ _ alike.levels in
    let same : standing_after one [] ≡ standing_after other [] =
    λ i. record {
      memory = memory i;
      border = alike.border i;
      colours = colours i;
      levels = levels i;
      h = alike.h i;
      v = alike.v i;
    } in
    sym whole ∙ same ∙ other_whole

-- a standing that is built of all rows and numbers is whole
pub built_is_whole : (pixel : ℕ → ℕ → ℕ) (border : ℕ) (colour level : ℕ → ℕ) (h v : ℕ)
    → IsWholeStanding (record {
      memory = rows_of pixel;
      border = border;
      colours = sixteen colour;
      levels = sixteen level;
      h = h;
      v = v;
    })
built_is_whole pixel border colour level h v =
    let memory = rows_same (pixel_at (rows_of pixel)) pixel (pixel_of_rows pixel) in
    let colours = sixteen_same (slice_index (sixteen colour)) colour (number_of_sixteen colour) in
    let levels = sixteen_same (slice_index (sixteen level)) level (number_of_sixteen level) in
    λ i. record { memory = memory i; border = border; colours = colours i; levels = levels i; h = h; v = v }
