-- A line of pixels that equals the line before it.
use Rattle.std.proofs.Common.{◌≡◌, ℕ, zero, suc, ◌+◌, ◌-◌, ◌*◌, ◌<◌, ◌≤◌, Bool, true, List, [], ◌∷◌, ◌++◌, length, take, refl, sym, ap, ap₂, ◌∙◌, bit_xor, arith}
use Rattle.std.specs.Prelude.{slice_index, if◌then◌else◌}
use Rattle.std.proofs.lemmas.List.{take_all, take_more, get_or-take, length-take}
use Rattle.std.specs.Int.Bits.{xor_self}
use Rattle.bit_lists.specs.Bits.{has_bit, number_of}
use Rattle.tile_author.specs.Plan.{is_combination, basis, basis_from, differences_from_first, selection, tile_lines}
use Rattle.tile_author.specs.Table.{basis_of_lines}
use Rattle.tile_author.proofs.Span.{Spans, Spanned}
use Rattle.tile_author.proofs.BasisLaws.{spanned_test, basis-spans}
use Rattle.tile_author.proofs.Growth.{difference_at, length-differences}
use Rattle.tile_author.proofs.Reading.{read_bits, no_bits, one_more_bit, all_bits}

-- the pixels of a line equal those of the line before it
abbrev pub AreBefore : List ℕ → ℕ → Type 0
AreBefore pixels line =
    (i : ℕ) → i < 6 → slice_index pixels (6 * line + i) ≡ slice_index pixels (6 * (line - 1) + i)

-- the difference of a pixel
abbrev difference : List ℕ → ℕ → ℕ
difference pixels n = bit_xor (slice_index pixels 0) (slice_index pixels n)

-- the basis of the differences of the first pixels
abbrev pub basis_of : List ℕ → ℕ → List ℕ
basis_of pixels n = basis_from [] (take n (differences_from_first pixels))

pub no_lines : (pixels : List ℕ) → basis_of_lines 0 pixels ≡ []
unfolding basis_of_lines basis_from
no_lines pixels = refl

pub all_lines : (pixels : List ℕ) → length pixels ≡ 72 → basis_of_lines 12 pixels ≡ basis pixels
unfolding basis_of_lines basis
all_lines pixels size =
    ap (basis_from [])
    (take_all 72 (differences_from_first pixels) (omega (arith, length-differences pixels)))

pub first_pixels : (pixels : List ℕ) (line : ℕ) → basis_of_lines line pixels ≡ basis_of pixels (6 * line + 0)
unfolding basis_of_lines
first_pixels pixels line = let e : 6 * line ≡ 6 * line + 0 = omega arith in ap (basis_of pixels) e

pub whole_lines : (pixels : List ℕ) (line i : ℕ) → i ≡ 6
    → basis_of pixels (6 * line + i) ≡ basis_of_lines (line + 1) pixels
unfolding basis_of_lines
whole_lines pixels line i h = let e : 6 * line + i ≡ 6 * (line + 1) = omega (arith, h) in
    ap (basis_of pixels) e

basis_from-snoc : (ms ds : List ℕ) (d : ℕ)
    → basis_from ms (ds ++ d ∷ [])
    ≡ (if is_combination (basis_from ms ds) d then basis_from ms ds else basis_from ms ds ++ d ∷ [])
unfolding basis_from
basis_from-snoc ms [] d = refl
basis_from-snoc ms (x ∷ ds) d = basis_from-snoc (if is_combination ms x then ms else ms ++ x ∷ []) ds d

pub one_more_offered : (pixels : List ℕ) (n : ℕ) → n < length pixels
    → basis_of pixels (n + 1)
    ≡ (if is_combination (basis_of pixels n) (difference pixels n)
    then basis_of pixels n
    else basis_of pixels n ++ difference pixels n ∷ [])
one_more_offered pixels n n_lt =
    ap (basis_from [])
    (take_more (differences_from_first pixels) n 0 (omega (arith, length-differences pixels))
    ∙ ap (λ d. take n (differences_from_first pixels) ++ d ∷ []) (difference_at pixels n n_lt))
    ∙ basis_from-snoc [] (take n (differences_from_first pixels)) (difference pixels n)

Spanned-each : (gs xs : List ℕ) (k : ℕ) → Spanned gs xs → k < length xs → Spans gs (slice_index xs k)
unfolding Spanned
Spanned-each gs [] k h lt = absurd (omega arith)
Spanned-each gs (x ∷ xs) zero h lt = h.0
Spanned-each gs (x ∷ xs) (suc k) h lt = Spanned-each gs xs k h.1 (omega arith)

is_made : (pixels : List ℕ) (n k : ℕ) → k < n → n ≤ length pixels
    → is_combination (basis_of pixels n) (difference pixels k) ≡ true
is_made pixels n k k_lt n_le =
    let ds = differences_from_first pixels in
    let size = length-take n ds in
    let at : slice_index (take n ds) k ≡ difference pixels k =
    get_or-take n ds k 0 k_lt ∙ difference_at pixels k (omega arith) in
    ap (is_combination (basis_of pixels n)) (sym at)
    ∙ spanned_test (basis_of pixels n) (slice_index (take n ds) k)
    (Spanned-each (basis_of pixels n) (take n ds) k (basis-spans [] (take n ds))
    (omega (arith, size, length-differences pixels)))

same_pixels : (pixels : List ℕ) (line i : ℕ) → length pixels ≡ 72 → 0 < line → line < 12
    → AreBefore pixels line → i ≤ 6
    → basis_of pixels (6 * line + i) ≡ basis_of pixels (6 * line)
same_pixels pixels line zero size first last same i_le =
    ap (basis_of pixels) (let e : 6 * line + 0 ≡ 6 * line = omega arith in e)
same_pixels pixels line (suc i) size first last same i_le =
    let n : ℕ = 6 * line + i in
    let next : 6 * line + suc i ≡ n + 1 = omega arith in
    let made : is_combination (basis_of pixels n) (difference pixels n) ≡ true =
    ap (λ p. is_combination (basis_of pixels n) (bit_xor (slice_index pixels 0) p)) (same i (omega arith))
    ∙ is_made pixels n (6 * (line - 1) + i) (omega arith) (omega arith) in
    ap (basis_of pixels) next
    ∙ one_more_offered pixels n (omega arith)
    ∙ ap (λ (b : Bool). if b then basis_of pixels n else basis_of pixels n ++ difference pixels n ∷ []) made
    ∙ same_pixels pixels line i size first last same (omega arith)

-- such a line adds nothing to the basis
pub same_line : (pixels : List ℕ) (line : ℕ) → length pixels ≡ 72 → 0 < line → line < 12
    → AreBefore pixels line
    → basis_of_lines (line + 1) pixels ≡ basis_of_lines line pixels
unfolding basis_of_lines
same_line pixels line size first last same =
    let next : 6 * (line + 1) ≡ 6 * line + 6 = omega arith in
    ap (basis_of pixels) next ∙ same_pixels pixels line 6 size first last same (omega arith)

same_read : (pixels : List ℕ) (j line i : ℕ) → length pixels ≡ 72 → 0 < line → line < 12
    → AreBefore pixels line → i ≤ 6
    → number_of (read_bits pixels j line i) ≡ number_of (read_bits pixels j (line - 1) i)
same_read pixels j line zero size first last same i_le =
    sym (no_bits pixels j line) ∙ no_bits pixels j (line - 1)
same_read pixels j line (suc i) size first last same i_le =
    let next : suc i ≡ i + 1 = omega arith in
    ap (λ k. number_of (read_bits pixels j line k)) next
    ∙ one_more_bit pixels j line i size last (omega arith)
    ∙ ap₂ (λ bits p.
    2 * bits + (if has_bit j (selection (basis pixels) (bit_xor (slice_index pixels 0) p)) then 1 else 0))
    (same_read pixels j line i size first last same (omega arith)) (same i (omega arith))
    ∙ sym (one_more_bit pixels j (line - 1) i size (omega arith) (omega arith))
    ∙ ap (λ k. number_of (read_bits pixels j (line - 1) k)) (sym next)

-- and its bits equal those of the line before it
pub same_bits : (pixels : List ℕ) (j line : ℕ) → length pixels ≡ 72 → 0 < line → line < 12
    → AreBefore pixels line
    → slice_index (tile_lines pixels j) (line - 1) ≡ slice_index (tile_lines pixels j) line
same_bits pixels j line size first last same =
    sym (all_bits pixels j (line - 1) 6 (omega arith) refl)
    ∙ sym (same_read pixels j line 6 size first last same (omega arith))
    ∙ all_bits pixels j line 6 last refl

one_colour_first : (pixels : List ℕ) (n : ℕ) → length pixels ≡ 72 → n ≤ 72
    → ((i : ℕ) → i < 72 → slice_index pixels i ≡ slice_index pixels 0)
    → basis_of pixels n ≡ []
unfolding basis_from is_combination
one_colour_first pixels zero size le same = refl
one_colour_first pixels (suc n) size le same =
    let e : suc n ≡ n + 1 = omega arith in
    let before = one_colour_first pixels n size (omega arith) same in
    let none : difference pixels n ≡ 0 =
    ap (bit_xor (slice_index pixels 0)) (same n (omega arith)) ∙ xor_self (slice_index pixels 0) in
    ap (basis_of pixels) e
    ∙ one_more_offered pixels n (omega (arith, size))
    ∙ ap₂ (λ ms d. if is_combination ms d then ms else ms ++ d ∷ []) before none

-- pixels of one colour have no differences
pub basis_of_one_colour : (pixels : List ℕ) → length pixels ≡ 72
    → ((i : ℕ) → i < 72 → slice_index pixels i ≡ slice_index pixels 0)
    → [] ≡ basis pixels
unfolding basis_of_lines
basis_of_one_colour pixels size same =
    sym (one_colour_first pixels 72 size (omega arith) same) ∙ all_lines pixels size
