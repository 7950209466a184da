-- A standing that is restored from a file.
use Rattle.std.proofs.Common.{◌≡◌, ◌≢◌, ℕ, ◌+◌, ◌-◌, ◌*◌, ◌^◌, ◌<◌, inl, inr, List, get_or, length, length-drop, set, take, drop, sym, ap, ◌∙◌, subst, arith, below_more, get_or-set_other, get_or-set_same}
use Rattle.std.specs.Prelude.{All}
use Rattle.std.proofs.lemmas.Bool.{cases_lt}
use Rattle.std.proofs.lemmas.Bool.Decides.{eqb_tells}
use Rattle.std.proofs.lemmas.List.{drop-take, drop-drop, get_or-drop, get_or-take, get_or_past, length-take-le, take-take}
use Rattle.bit_lists.proofs.Groups.{all_below_bound}
use Rattle.cdg_instructions.specs.Sizes.{screen_width}
use Rattle.cdg_screen.specs.Standing.{IsWholeStanding, rows_in}
use Rattle.cdg_screen.proofs.Lists.{built_is_whole, rows_same}
use Rattle.cdg_checkpoint.specs.Checkpoint.{standing_in}
use Rattle.cdg_checkpoint.specs.Table.{number, number_at, Memory, Border, Across, Down, Colours, Levels}

-- ---- an array that is filled

pub set_below : (xs : List ℕ) (k v : ℕ) (f : ℕ → ℕ) → k < length xs → ((j : ℕ) → j < k → get_or xs j 0 ≡ f j)
    → v ≡ f k → (j : ℕ) → j < k + 1
    → get_or (set xs k v) j 0 ≡ f j
set_below xs k v f lt before e =
    below_more _ _
    (λ j less. let ne : j ≢ k = omega (arith, less) in get_or-set_other xs k j v 0 ne ∙ before j less)
    (get_or-set_same xs k v 0 lt ∙ e)

pub set_range : (xs : List ℕ) (k v bound : ℕ) → k < length xs → ((j : ℕ) → get_or xs j 0 < bound) → v < bound
    → (j : ℕ)
    → get_or (set xs k v) j 0 < bound
set_range xs k v bound lt before small j =
    elim (eqb_tells j k) [
      | inl same ↦ let P : ℕ → Type 0 = λ n. n < bound in
          subst P (sym (ap (λ i. get_or (set xs k v) i 0) same.1 ∙ get_or-set_same xs k v 0 lt)) small
      | inr other ↦ let P : ℕ → Type 0 = λ n. n < bound in
          subst P (sym (get_or-set_other xs k j v 0 other.1)) (before j)
    ]

-- a byte of a part
pub one_at : (file : List ℕ) (first k : ℕ) → number_at file 1 (first + k) ≡ number_at file 1 (first + 1 * k)
one_at file first k = let place : first + k ≡ first + 1 * k = omega arith in ap (number_at file 1) place

-- the byte at a place is the number of one byte there
pub byte_number : (file : List ℕ) (first k : ℕ) → get_or file (first + k) 0 ≡ number_at file 1 (first + 1 * k)
byte_number file first k =
    let place : first + k ≡ first + 1 * k = omega arith in
    let same : get_or file (first + 1 * k) 0 ≡ 256 ^ 0 * get_or file (first + 1 * k) 0 + 0 = omega arith in
    ap (λ n. get_or file n 0) place ∙ same

-- ---- the memory

pub memory_at : (file : List ℕ) (k : ℕ) → k < 64800
    → get_or (take 64800 (drop 192 file)) k 0 ≡ number file Memory k
memory_at file k lt =
    get_or-take 64800 (drop 192 file) k 0 lt ∙ get_or-drop 192 file k 0 ∙ byte_number file 192 k

pub memory_rows : (file : List ℕ) → rows_in (take 64800 (drop 192 file)) ≡ (standing_in file).memory
memory_rows file = rows_same _ _ (λ x y x_lt y_lt. memory_at file (300 * y + x) (omega (arith, x_lt, y_lt)))

pub memory_count : (file : List ℕ) → length file ≡ 65045 → length (take 64800 (drop 192 file)) ≡ 64800
memory_count file size = length-take-le 64800 (drop 192 file) (omega (arith, length-drop 192 file, size))

pub memory_range : (file : List ℕ) → length file ≡ 65045 → ((k : ℕ) → k < 64800 → number file Memory k < 16)
    → All (λ pixel. pixel < 16) (take 64800 (drop 192 file))
memory_range file size small = all_below_bound 16 (take 64800 (drop 192 file)) (λ k. elim (cases_lt k 64800) [
  | inl lt ↦ omega (arith, memory_at file k lt, small k lt)
  | inr past ↦ omega
      (arith, get_or_past (take 64800 (drop 192 file)) k 0 (omega (arith, memory_count file size, past)))
])

pub standing_is_whole : (file : List ℕ) → IsWholeStanding (standing_in file)
standing_is_whole file =
    built_is_whole (λ x y. number file Memory (screen_width * y + x)) (number file Border 0)
    (number file Colours) (number file Levels) (number file Across 0) (number file Down 0)

-- ---- a slot

pub slot_is : (file slot : List ℕ) (k n : ℕ) → k < 7 → n ≡ 24 → slot ≡ take n (drop (24 + 24 * k) file)
    → slot ≡ take 24 (drop (24 * k) (take 168 (drop 24 file)))
slot_is file slot k n lt size e =
    let whole : 168 ≡ 24 * k + (168 - 24 * k) = omega (arith, lt) in
    let inner : drop (24 * k) (take 168 (drop 24 file)) ≡ take (168 - 24 * k) (drop (24 + 24 * k) file) =
    ap (λ m. drop (24 * k) (take m (drop 24 file))) whole
    ∙ drop-take (24 * k) (168 - 24 * k) (drop 24 file)
    ∙ ap (take (168 - 24 * k)) (drop-drop (24 * k) 24 file) in
    e
    ∙ ap (λ m. take m (drop (24 + 24 * k) file)) size
    ∙ sym (ap (take 24) inner ∙ take-take 24 (168 - 24 * k) (drop (24 + 24 * k) file) (omega (arith, lt)))
