-- Scratches damage at most two symbols of each word, if the stream has whole blocks.
use Rattle.std.proofs.Common.{◌≡◌, ℕ, zero, suc, ◌+◌, ◌-◌, ◌*◌, ◌/◌, ◌%◌, List, [], ◌++◌, length, take, drop, map, flat_map, refl, sym, ap, subst₂, ◌∙◌, length-drop, arith}
use Rattle.std.proofs.Math.Seq.{drop-nil}
use Rattle.std.proofs.lemmas.List.{drop-drop, length-map, map-append, nil_from_length, take-append-drop}
use Rattle.bit_lists.specs.Counting.{parts}
use Rattle.raw_subcode.specs.Channels.{symbols_of, block_of, program_symbols}
use Rattle.raw_subcode.specs.declared.form.Form.TheVariants.{Raw}
use Rattle.rw_interleave.specs.Stream.{DiffersInBursts, IsDamaged}
use Rattle.cdg_workload.specs.Scratches.{scratched}
use Rattle.cdg_workload.proofs.BurstLaws.{differ, channels_stay}

blocks_symbols : (n l k : ℕ) (bytes : List ℕ) → length bytes ≡ n * 96 → k ≡ 96 * l
    → flat_map symbols_of (drop l (map (block_of Raw) (parts n 96 bytes))) ≡ symbols_of (drop k bytes)
blocks_symbols zero l k bytes size at =
    let none : bytes ≡ [] = nil_from_length bytes (omega (arith, size)) in
    ap (flat_map symbols_of) (drop-nil l)
    ∙ sym (ap (λ b. symbols_of (drop k b)) none ∙ ap symbols_of (drop-nil k))
blocks_symbols (suc n) zero k bytes size at =
    let here : 0 ≡ k = omega (arith, at) in
    ap (λ l. symbols_of (take 96 bytes) ++ l) (blocks_symbols n 0 0 (drop 96 bytes) (length-drop 96 bytes
    ∙ omega (arith, size)) refl)
    ∙ sym (map-append (λ byte. byte % 64) (take 96 bytes) (drop 96 bytes))
    ∙ ap symbols_of (take-append-drop 96 bytes) ∙ ap (λ m. symbols_of (drop m bytes)) here
blocks_symbols (suc n) (suc l) k bytes size at =
    let there : 96 + 96 * l ≡ k = omega (arith, at) in
    blocks_symbols n l (96 * l) (drop 96 bytes) (length-drop 96 bytes ∙ omega (arith, size)) refl
    ∙ ap symbols_of (drop-drop (96 * l) 96 bytes ∙ ap (λ m. drop m bytes) there)

program_is : (lead_in blocks : ℕ) (bytes : List ℕ) → length bytes ≡ 96 * blocks
    → program_symbols Raw bytes lead_in ≡ symbols_of (drop (96 * lead_in) bytes)
program_is lead_in blocks bytes size =
    let count : length bytes / 96 ≡ blocks = omega (arith, size) in
    ap (λ n. flat_map symbols_of (drop lead_in (map (block_of Raw) (parts n 96 bytes)))) count
    ∙ blocks_symbols blocks lead_in (96 * lead_in) bytes (omega (arith, size)) refl

length-scratched : (lead_in seed : ℕ) (bytes : List ℕ) → length (scratched lead_in seed bytes) ≡ length bytes
length-scratched lead_in seed bytes =
    sym (length-map (scratched lead_in seed bytes) (λ byte. byte / 64))
    ∙ ap length (channels_stay lead_in seed bytes) ∙ length-map bytes (λ byte. byte / 64)

-- the law about bursts
abbrev pub BurstsAreDamage : Type 0
BurstsAreDamage = (blocks : ℕ) (symbols others : List ℕ) → length symbols ≡ 96 * blocks
    → DiffersInBursts symbols others → IsDamaged symbols Raw others

pub damaged : BurstsAreDamage → (lead_in seed blocks : ℕ) (bytes : List ℕ) → length bytes ≡ 96 * blocks
    → IsDamaged (program_symbols Raw bytes lead_in) Raw
    (program_symbols Raw (scratched lead_in seed bytes) lead_in)
damaged law lead_in seed blocks bytes size =
    let before = program_is lead_in blocks bytes size in
    let after = program_is lead_in blocks (scratched lead_in seed bytes) (length-scratched lead_in seed bytes
    ∙ size) in
    let count : length (symbols_of (drop (96 * lead_in) bytes)) ≡ 96 * (blocks - lead_in) =
    length-map (drop (96 * lead_in) bytes) (λ byte. byte % 64) ∙ length-drop (96 * lead_in) bytes
    ∙ omega (arith, size) in
    subst₂ (λ (s t : List ℕ). IsDamaged s Raw t) (sym before) (sym after)
    (law (blocks - lead_in) (symbols_of (drop (96 * lead_in) bytes))
    (symbols_of (drop (96 * lead_in) (scratched lead_in seed bytes))) count (differ lead_in seed bytes))
