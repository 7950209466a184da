-- The blocks of readings.
use Rattle.std.proofs.Common.{◌≡◌, ℕ, ◌+◌, ◌-◌, ◌*◌, ◌<◌, ◌≤◌, List, [], length, get_or, take, drop, sym, ap, ◌∙◌, arith}
use Rattle.std.specs.Prelude.{slice_range}
use Rattle.std.proofs.lemmas.List.{drop-drop, drop-take, get_or-map, length-map, take-take}
use Rattle.bit_lists.specs.Counting.{parts}
use Rattle.rw_mend.specs.Words.{block_at}
use Rattle.rw_mend.proofs.Heaps.{part_at, parts_length}
use Rattle.rw_mend.specs.Chosen.{blocks_at}
use Rattle.rw_mend.specs.HeldReadings.{held_blocks, held_parts}
use Rattle.rw_mend.specs.declared.held_readings.HeldReadings.{HeldReadings}

-- block b of reading r
pub block_is : (count size r b : ℕ) (bytes : List ℕ) → r < count → 96 * b + 96 ≤ size
    → slice_range bytes (size * r + 96 * b) (size * r + 96 * b + 96)
    ≡ block_at (get_or (parts count size bytes) r []) b
block_is count size r b bytes lt inside =
    let rest : List ℕ = drop (size * r) bytes in
    let m : ℕ = size - 96 * b in
    let whole : 96 * b + m ≡ size = omega arith in
    let cut : drop (96 * b) (take size rest) ≡ take m (drop (96 * b) rest) =
    ap (λ n. drop (96 * b) (take n rest)) (sym whole) ∙ drop-take (96 * b) m rest in
    let few : 96 * b + 96 - 96 * b ≤ m = omega arith in
    sym (ap (λ l. take (96 * b + 96 - 96 * b) (drop (96 * b) l)) (part_at count size bytes r lt)
    ∙ ap (take (96 * b + 96 - 96 * b)) cut
    ∙ take-take (96 * b + 96 - 96 * b) m (drop (96 * b) rest) few
    ∙ ap (take (96 * b + 96 - 96 * b)) (drop-drop (96 * b) (size * r) bytes)
    ∙ ap (λ n. take n (drop (size * r + 96 * b) bytes)) (omega arith))

pub blocks_length : (all : List (List ℕ)) (b : ℕ) → length (blocks_at all b) ≡ length all
blocks_length all b = length-map all (λ (reading : List ℕ). block_at reading b)

pub block_of_reading : (all : List (List ℕ)) (b r : ℕ) → r < length all
    → get_or (blocks_at all b) r [] ≡ block_at (get_or all r []) b
block_of_reading all b r lt = get_or-map (λ (reading : List ℕ). block_at reading b) all r [] [] lt

pub held_count : (readings : HeldReadings) (b : ℕ) → length (held_blocks readings b) ≡ readings.count
held_count readings b =
    blocks_length (held_parts readings) b ∙ parts_length readings.count readings.size readings.bytes.now

-- if all blocks have the same part, each has the part of the first block
pub same_part : (part : List ℕ → List ℕ) (blocks : List (List ℕ)) (n : ℕ) (own : List ℕ) → length blocks ≤ n
    → ((k : ℕ) → k < n → part (get_or blocks k []) ≡ own) → (r : ℕ) → r < length blocks
    → part (get_or blocks r []) ≡ part (get_or blocks 0 [])
same_part part blocks n own all each r lt =
    each r (omega (arith, lt, all)) ∙ sym (each 0 (omega (arith, lt, all)))
