-- The lines that the code reads and writes.
use Rattle.std.proofs.Common.{◌≡◌, ◌≢◌, ℕ, zero, suc, ◌+◌, ◌-◌, ◌*◌, ◌/◌, ◌^◌, ◌<◌, ◌≤◌, Bool, true, false, List, [], ◌∷◌, ◌++◌, length, take, drop, map, get_or, refl, sym, ap, ap₂, ◌∙◌, inl, inr, bit_xor, arith}
use Rattle.std.specs.Prelude.{slice_index, ◌==◌, ◌&&◌, if◌then◌else◌, Option, Some, None, unwrap_or, bit_and, max}
use Rattle.std.specs.Int.{bit_at}
use Rattle.std.proofs.lemmas.Nat.Bits.{shr_and_one, bit_at-lt}
use Rattle.std.proofs.lemmas.Bool.{false≢true}
use Rattle.std.proofs.lemmas.Bool.Decides.{eqb_tells}
use Rattle.std.proofs.lemmas.List.{length-map, length-take, length-drop, length-append, get_or-drop, get_or-map, take_more}
use Rattle.bit_lists.specs.Counting.{below, parts}
use Rattle.bit_lists.specs.Bits.{has_bit, number_of}
use Rattle.tile_author.specs.Plan.{is_combination, basis, differences_from_first, selection, member_bits, tile_lines, planned, weight}
use Rattle.cdg_instructions.specs.declared.instr.Instr.{Instr}
use Rattle.cdg_instructions.specs.declared.instr.Instr.TheVariants.{SetTile, XorTile}
use Rattle.std.proofs.lemmas.List.FromFn.{map-range_with_len_more, length-map-range_with_len}
use Rattle.tile_author.specs.Table.{entry}
use Rattle.tile_author.proofs.Growth.{made, not_made}
use Rattle.bit_lists.proofs.BitsLemmas.{number_of-lt}
use Rattle.tile_author.proofs.Lines.{length-parts, parts_at}
use Rattle.tile_author.proofs.BasisLaws.{spanned_test, spans_difference}

binary : (n : ℕ) → n < 2 → n ≡ (if n == 1 then 1 else 0)
binary zero h = refl
binary (suc zero) h = refl
binary (suc (suc n)) h = absurd (omega arith)

no_entry : (ms : List ℕ) (v : ℕ) → None ≡ entry ms v → is_combination ms v ≡ true → ⊥
no_entry ms v none h = false≢true (sym (not_made ms v none) ∙ h)

pub bit_read : (ms : List ℕ) (v j : ℕ) (x : Option ℕ) → x ≡ entry ms v → is_combination ms v ≡ true
    → bit_and (unwrap_or x 0 / 2 ^ j) 1 ≡ (if has_bit j (selection ms v) then 1 else 0)
bit_read ms v j (Some s) h is_made =
    shr_and_one s j
    ∙ binary (bit_at s j) (bit_at-lt s j)
    ∙ ap (λ n. if bit_at n j == 1 then 1 else 0) (sym (made ms v s h).1)
bit_read ms v j None h is_made = absurd (no_entry ms v h is_made)

pub bit_small : (n j : ℕ) → bit_and (n / 2 ^ j) 1 < 2
bit_small n j = omega (arith, shr_and_one n j, bit_at-lt n j)

pub difference_is_made : (pixels : List ℕ) (p : ℕ) → p < length pixels
    → is_combination (basis pixels) (bit_xor (slice_index pixels 0) (slice_index pixels p)) ≡ true
difference_is_made pixels p h =
    spanned_test (basis pixels) (bit_xor (slice_index pixels 0) (slice_index pixels p))
    (spans_difference pixels p h)

twice_power : (n : ℕ) → 2 ^ suc n ≡ 2 * 2 ^ n
twice_power n = omega arith

power_below : (n number : ℕ) → n ≤ 6 → number < 2 ^ n → number < 64
power_below zero number h lt = omega arith
power_below (suc zero) number h lt = omega arith
power_below (suc (suc zero)) number h lt = omega arith
power_below (suc (suc (suc zero))) number h lt = omega arith
power_below (suc (suc (suc (suc zero)))) number h lt = omega arith
power_below (suc (suc (suc (suc (suc zero))))) number h lt = omega arith
power_below (suc (suc (suc (suc (suc (suc zero)))))) number h lt = omega arith
power_below (suc (suc (suc (suc (suc (suc (suc n))))))) number h lt = absurd (omega arith)

length-take-at_most : (i n : ℕ) (bs : List Bool) → i ≤ n → length (take i bs) ≤ n
length-take-at_most i n bs h = omega (arith, length-take i bs)

number_of-snoc : (bs : List Bool) (b : Bool)
    → number_of (bs ++ b ∷ []) ≡ 2 * number_of bs + (if b then 1 else 0)
unfolding number_of
number_of-snoc [] true = refl
number_of-snoc [] false = refl
number_of-snoc (true ∷ bs) b =
    let more = number_of-snoc bs b in
    let size : length (bs ++ b ∷ []) ≡ suc (length bs) = omega (arith, length-append bs (b ∷ [])) in
    let power : 2 ^ length (bs ++ b ∷ []) ≡ 2 * 2 ^ length bs =
    ap (λ n. 2 ^ n) size ∙ twice_power (length bs) in
    omega arith
number_of-snoc (false ∷ bs) b = let more = number_of-snoc bs b in omega arith

-- the bits of line q that were read
unfoldable pub read_bits : List ℕ → ℕ → ℕ → ℕ → List Bool
read_bits pixels j q i = take i (drop (q * 6) (member_bits pixels j))

pub no_bits : (pixels : List ℕ) (j q : ℕ) → 0 ≡ number_of (read_bits pixels j q 0)
unfolding read_bits number_of
no_bits pixels j q = refl

member_bit_at : (pixels : List ℕ) (j p : ℕ) → p < length pixels
    → get_or (member_bits pixels j) p false
    ≡ has_bit j (selection (basis pixels) (bit_xor (slice_index pixels 0) (slice_index pixels p)))
unfolding member_bits differences_from_first
member_bit_at pixels j p h =
    let chosen : ℕ → Bool = λ d. has_bit j (selection (basis pixels) d) in
    let ds = map (bit_xor (slice_index pixels 0)) pixels in
    let size = length-map pixels (bit_xor (slice_index pixels 0)) in
    get_or-map chosen ds p 0 false (omega arith)
    ∙ ap chosen (get_or-map (bit_xor (slice_index pixels 0)) pixels p 0 0 h)

length-member_bits : (pixels : List ℕ) (j : ℕ) → length (member_bits pixels j) ≡ length pixels
unfolding member_bits differences_from_first
length-member_bits pixels j =
    length-map (map (bit_xor (slice_index pixels 0)) pixels) (λ d. has_bit j (selection (basis pixels) d))
    ∙ length-map pixels (bit_xor (slice_index pixels 0))

pub one_more_bit : (pixels : List ℕ) (j q i : ℕ) → length pixels ≡ 72 → q < 12 → i < 6 →
    number_of (read_bits pixels j q (i + 1))
    ≡ 2 * number_of (read_bits pixels j q i) + (if has_bit j
    (selection (basis pixels) (bit_xor (slice_index pixels 0) (slice_index pixels (6 * q + i))))
    then 1
    else 0)
unfolding read_bits
one_more_bit pixels j q i size q_lt i_lt =
    let bs = member_bits pixels j in
    let bs_size = length-member_bits pixels j in
    let rest = drop (q * 6) bs in
    let rest_size : length rest ≡ length bs - q * 6 = length-drop (q * 6) bs in
    let at : q * 6 + i ≡ 6 * q + i = omega arith in
    ap number_of (take_more rest i false (omega arith))
    ∙ number_of-snoc (take i rest) (get_or rest i false)
    ∙ ap (λ (b : Bool). 2 * number_of (take i rest) + (if b then 1 else 0)) (get_or-drop (q * 6) bs i false
    ∙ ap (λ n. get_or bs n false) at
    ∙ member_bit_at pixels j (6 * q + i) (omega arith))

pub bits_small : (pixels : List ℕ) (j q i : ℕ) → i ≤ 6 → number_of (read_bits pixels j q i) < 64
unfolding read_bits
bits_small pixels j q i i_le =
    let bs = take i (drop (q * 6) (member_bits pixels j)) in
    let size : length bs ≤ 6 = length-take-at_most i 6 (drop (q * 6) (member_bits pixels j)) i_le in
    power_below (length bs) (number_of bs) size (number_of-lt bs)

pub all_bits : (pixels : List ℕ) (j q i : ℕ) → q < 12 → i ≡ 6
    → number_of (read_bits pixels j q i) ≡ slice_index (tile_lines pixels j) q
unfolding read_bits tile_lines
all_bits pixels j q i q_lt i_is =
    let bs = member_bits pixels j in
    let count = length-parts 12 6 bs in
    ap (λ n. number_of (take n (drop (q * 6) bs))) i_is
    ∙ sym
    (get_or-map number_of (parts 12 6 bs) q [] 0 (omega arith) ∙ ap number_of (parts_at 12 6 bs q [] q_lt))

pub planned_when : (draws : Bool) (row column : ℕ) (pixels : List ℕ) (j : ℕ) (b : Bool) (c0 c1 : ℕ)
    (lines : List ℕ) → (draws && (j == 0)) ≡ b → c0 ≡ (if j == 0 then slice_index pixels 0 else 0)
    → c1 ≡ bit_xor c0 (slice_index (basis pixels) j) → lines ≡ tile_lines pixels j
    → (if b then SetTile c0 c1 row column lines else XorTile c0 c1 row column lines)
    ≡ planned draws row column pixels j
unfolding planned
planned_when draws row column pixels j b c0 c1 lines test first second drawn =
    let both_colours : c1
    ≡ bit_xor (if j == 0 then slice_index pixels 0 else 0) (slice_index (basis pixels) j) =
    second ∙ ap (λ n. bit_xor n (slice_index (basis pixels) j)) first in
    λ t. if sym test t
    then SetTile (first t) (both_colours t) row column (drawn t)
    else XorTile (first t) (both_colours t) row column (drawn t)

pub one_more_planned : (draws : Bool) (row column : ℕ) (pixels : List ℕ) (j : ℕ) (items more : List Instr)
    (instr : Instr) → items ≡ map (planned draws row column pixels) (below j)
    → instr ≡ planned draws row column pixels j → more ≡ items ++ instr ∷ []
    → more ≡ map (planned draws row column pixels) (below (j + 1))
one_more_planned draws row column pixels j items more instr so_far this pushed =
    pushed
    ∙ ap₂ (λ is i. is ++ i ∷ []) so_far this
    ∙ sym (map-range_with_len_more (planned draws row column pixels) 0 j j (omega arith))

pub planned_length : (draws : Bool) (row column : ℕ) (pixels : List ℕ) (j : ℕ) (items : List Instr)
    → items ≡ map (planned draws row column pixels) (below j)
    → length items ≡ j
planned_length draws row column pixels j items so_far =
    ap length so_far ∙ length-map-range_with_len (planned draws row column pixels) 0 j

pub whole_weight : (members pixels : List ℕ) (n : ℕ) → members ≡ basis pixels → n ≡ max 1 (length members)
    → n ≡ weight pixels
unfolding weight
whole_weight members pixels n is_basis h = h ∙ ap (λ ms. max 1 (length ms)) is_basis

pub not_first : (draws : Bool) (j : ℕ) → j ≢ 0 → (draws && (j == 0)) ≡ false
not_first true j h = elim (eqb_tells j 0) [ inl same ↦ absurd (h same.1) | inr differ ↦ differ.0 ]
not_first false j h = refl
