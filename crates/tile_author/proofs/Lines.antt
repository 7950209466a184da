-- The bit of a pixel in the lines of an instruction.
use Rattle.std.proofs.Common.{◌≡◌, ℕ, zero, suc, ◌+◌, ◌-◌, ◌*◌, ◌/◌, ◌%◌, ◌^◌, ◌<◌, Bool, true, false, List, [], ◌∷◌, length, take, drop, map, get_or, refl, ap, ◌∙◌, bit_xor, arith}
use Rattle.std.specs.Prelude.{slice_index, ◌==◌, if◌then◌else◌}
use Rattle.std.specs.Int.{bit_at}
use Rattle.std.proofs.lemmas.Nat.Bits.{bit_at_cat_low, bit_at_cat_high}
use Rattle.std.proofs.lemmas.List.{length-map, length-take-le, length-drop, get_or-take, get_or-drop, get_or-map, drop-drop}
use Rattle.bit_lists.specs.Counting.{parts}
use Rattle.bit_lists.specs.Bits.{has_bit, number_of}
use Rattle.bit_lists.proofs.BitsLemmas.{number_of-lt}
use Rattle.cdg_instructions.specs.Drawing.{drawn_pixel}
use Rattle.tile_author.specs.Plan.{basis, differences_from_first, selection, member_bits, tile_lines}

digit : Bool → ℕ
digit b = if b then 1 else 0

worth : (b : Bool) (size : ℕ) → (if b then size else 0) ≡ digit b * size
unfolding digit
worth true size = omega arith
worth false size = omega arith

digit-bit : (b : Bool) (k : ℕ) → k ≡ 0 → (bit_at (digit b) k == 1) ≡ b
unfolding digit
digit-bit true k h = ap (λ n. bit_at 1 n == 1) h
digit-bit false k h = ap (λ n. bit_at 0 n == 1) h

pub has_bit-number_of : (bs : List Bool) (i k : ℕ) → i + k + 1 ≡ length bs
    → has_bit k (number_of bs) ≡ get_or bs i false
unfolding number_of
has_bit-number_of [] i k h = absurd (omega arith)
has_bit-number_of (b ∷ bs) zero k h =
    let high : k ≡ length bs = omega arith in
    ap (λ n. bit_at (n + number_of bs) k == 1) (worth b (2 ^ length bs))
    ∙ ap (λ n. n == 1)
    (bit_at_cat_high (digit b) (length bs) (number_of bs) k (number_of-lt bs) (omega arith))
    ∙ digit-bit b (k - length bs) (omega arith)
has_bit-number_of (b ∷ bs) (suc i) k h =
    ap (λ n. bit_at (n + number_of bs) k == 1) (worth b (2 ^ length bs))
    ∙ ap (λ n. n == 1) (bit_at_cat_low (digit b) (length bs) (number_of bs) k (omega arith))
    ∙ has_bit-number_of bs i k (omega arith)

pub length-parts : {X : Type 0} (count size : ℕ) (xs : List X) → length (parts count size xs) ≡ count
length-parts zero size xs = refl
length-parts (suc count) size xs = ap suc (length-parts count size (drop size xs))

pub parts_at : {X : Type 0} (count size : ℕ) (xs : List X) (q : ℕ) (d : List X) → q < count
    → get_or (parts count size xs) q d ≡ take size (drop (q * size) xs)
parts_at zero size xs q d h = absurd (omega arith)
parts_at (suc count) size xs zero d h = let none : 0 ≡ 0 * size = omega arith in
    ap (λ n. take size (drop n xs)) none
parts_at (suc count) size xs (suc q) d h =
    let more : size + q * size ≡ suc q * size = omega arith in
    parts_at count size (drop size xs) q d (omega arith)
    ∙ ap (take size) (drop-drop (q * size) size xs)
    ∙ ap (λ n. take size (drop n xs)) more

pub line_bit : (bs : List Bool) (p : ℕ) → length bs ≡ 72 → p < 72
    → has_bit (5 - p % 6) (slice_index (map number_of (parts 12 6 bs)) (p / 6)) ≡ get_or bs p false
line_bit bs p size h =
    let q = p / 6 in
    let rest = drop (q * 6) bs in
    let rest_size : length rest ≡ length bs - q * 6 = length-drop (q * 6) bs in
    let six = take 6 rest in
    let six_size : length six ≡ 6 = length-take-le 6 rest (omega arith) in
    let count = length-parts 12 6 bs in
    let at : q * 6 + p % 6 ≡ p = omega arith in
    ap (has_bit (5 - p % 6)) (get_or-map number_of (parts 12 6 bs) q [] 0 (omega arith)
    ∙ ap number_of (parts_at 12 6 bs q [] (omega arith)))
    ∙ has_bit-number_of six (p % 6) (5 - p % 6) (omega arith)
    ∙ get_or-take 6 rest (p % 6) false (omega arith)
    ∙ get_or-drop (q * 6) bs (p % 6) false
    ∙ ap (λ n. get_or bs n false) at

pub drawn_member : (w : List ℕ) (j c0 c1 p : ℕ) → length w ≡ 72 → p < 72
    → drawn_pixel c0 c1 (tile_lines w j) p
    ≡ (if has_bit j (selection (basis w) (bit_xor (slice_index w 0) (slice_index w p))) then c1 else c0)
unfolding tile_lines member_bits differences_from_first
drawn_member w j c0 c1 p size h =
    let chosen : ℕ → Bool = λ d. has_bit j (selection (basis w) d) in
    let ds = map (bit_xor (slice_index w 0)) w in
    let ds_size : length ds ≡ length w = length-map w (bit_xor (slice_index w 0)) in
    let bs_size : length (map chosen ds) ≡ length ds = length-map ds chosen in
    ap (λ (b : Bool). if b then c1 else c0)
    (line_bit (map chosen ds) p (omega arith) h
    ∙ get_or-map chosen ds p 0 false (omega arith)
    ∙ ap chosen (get_or-map (bit_xor (slice_index w 0)) w p 0 0 (omega arith)))
