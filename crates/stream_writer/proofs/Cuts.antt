-- Bytes cut into blocks.
use Rattle.std.proofs.Common.{◌≡◌, ℕ, zero, suc, ◌+◌, ◌*◌, ◌/◌, ◌%◌, ◌<◌, List, [], ◌∷◌, ◌++◌, length, get_or, map, flat_map, take, drop, refl, sym, ap, ap₂, ◌∙◌, arith}
use Rattle.std.specs.List.{range_with_len}
use Rattle.std.proofs.lemmas.List.{map-append, map-id, drop-drop, take_all, take-append-drop, length-drop, take-map, drop-map}
use Rattle.std.proofs.Math.Seq.{take-add}
use Rattle.bit_lists.specs.Counting.{below, parts}
use Rattle.raw_subcode.specs.Channels.{symbols_of, block_of, blocks_of, program_symbols}
use Rattle.raw_subcode.specs.declared.form.Form.TheVariants.{Raw}

-- block k of bytes
abbrev pub bytes_at : List ℕ → ℕ → List ℕ
bytes_at bytes k = take 96 (drop (96 * k) bytes)

part_at : (count : ℕ) (bytes : List ℕ) (k : ℕ) → k < count
    → get_or (parts count 96 bytes) k [] ≡ bytes_at bytes k
part_at zero bytes k lt = absurd (omega arith)
part_at (suc count) bytes zero lt = refl
part_at (suc count) bytes (suc k) lt =
    let next : 96 + 96 * k ≡ 96 * suc k = omega arith in
    part_at count (drop 96 bytes) k (omega arith)
    ∙ ap (take 96) (drop-drop (96 * k) 96 bytes ∙ ap (λ n. drop n bytes) next)

pub raw_blocks : (bytes : List ℕ) (n : ℕ) → length bytes ≡ 96 * n → blocks_of Raw bytes ≡ parts n 96 bytes
raw_blocks bytes n size =
    let count : length bytes / 96 ≡ n = omega (arith, size) in
    ap (map (block_of Raw)) (ap (λ m. parts m 96 bytes) count) ∙ map-id (parts n 96 bytes)

pub raw_block_at : (bytes : List ℕ) (n k : ℕ) → length bytes ≡ 96 * n → k < n
    → get_or (blocks_of Raw bytes) k [] ≡ bytes_at bytes k
raw_block_at bytes n k size lt =
    ap (λ (bs : List (List ℕ)). get_or bs k []) (raw_blocks bytes n size) ∙ part_at n bytes k lt

-- the symbols of all blocks are those of all bytes
all_symbols : (n : ℕ) (bytes : List ℕ) → length bytes ≡ 96 * n
    → flat_map symbols_of (parts n 96 bytes) ≡ symbols_of bytes
all_symbols zero [] size = refl
all_symbols zero (b ∷ bytes) size = absurd (omega (arith, size))
all_symbols (suc n) bytes size =
    ap (λ xs. symbols_of (take 96 bytes) ++ xs)
    (all_symbols n (drop 96 bytes) (omega (arith, size, length-drop 96 bytes)))
    ∙ sym (map-append (λ byte. byte % 64) (take 96 bytes) (drop 96 bytes))
    ∙ ap symbols_of (take-append-drop 96 bytes)

later_symbols : (n lead_in : ℕ) (bytes : List ℕ) → length bytes ≡ 96 * (lead_in + n)
    → flat_map symbols_of (drop lead_in (parts (lead_in + n) 96 bytes))
    ≡ symbols_of (drop (96 * lead_in) bytes)
later_symbols n zero bytes size =
    let none : 0 + n ≡ n = omega arith in
    ap (λ m. flat_map symbols_of (parts m 96 bytes)) none ∙ all_symbols n bytes (omega (arith, size))
later_symbols n (suc l) bytes size =
    let next : suc l + n ≡ suc (l + n) = omega arith in
    let there : 96 + 96 * l ≡ 96 * suc l = omega arith in
    ap (λ m. flat_map symbols_of (drop (suc l) (parts m 96 bytes))) next
    ∙ later_symbols n l (drop 96 bytes) (omega (arith, size, length-drop 96 bytes))
    ∙ ap symbols_of (drop-drop (96 * l) 96 bytes ∙ ap (λ k. drop k bytes) there)

pub program_symbols_are : (bytes : List ℕ) (lead_in n : ℕ) → length bytes ≡ 96 * (lead_in + n)
    → program_symbols Raw bytes lead_in ≡ symbols_of (drop (96 * lead_in) bytes)
program_symbols_are bytes lead_in n size =
    ap (λ (bs : List (List ℕ)). flat_map symbols_of (drop lead_in bs)) (raw_blocks bytes (lead_in + n) size)
    ∙ later_symbols n lead_in bytes size

-- the symbols of a block among those of all
pub symbols_of_block : (bytes : List ℕ) (lead_in n b : ℕ) → length bytes ≡ 96 * (lead_in + n)
    → symbols_of (bytes_at bytes (lead_in + b)) ≡ take 96 (drop (96 * b) (program_symbols Raw bytes lead_in))
symbols_of_block bytes lead_in n b size =
    let f : ℕ → ℕ = λ byte. byte % 64 in
    let there : 96 * lead_in + 96 * b ≡ 96 * (lead_in + b) = omega arith in
    sym (
    ap (λ xs. take 96 (drop (96 * b) xs)) (program_symbols_are bytes lead_in n size)
    ∙ ap (take 96) (drop-map f (96 * b) (drop (96 * lead_in) bytes))
    ∙ take-map f 96 (drop (96 * b) (drop (96 * lead_in) bytes))
    ∙ ap (λ xs. map f (take 96 xs)) (drop-drop (96 * b) (96 * lead_in) bytes ∙ ap (λ k. drop k bytes) there))

-- blocks one after another are a part of the bytes
pub blocks_between : (bytes : List ℕ) (f : ℕ → List ℕ) (offset a n : ℕ)
    → ((b : ℕ) → b < a + n → f b ≡ bytes_at bytes (offset + b))
    → flat_map f (range_with_len a n) ≡ take (96 * n) (drop (96 * (offset + a)) bytes)
blocks_between bytes f offset a zero each = refl
blocks_between bytes f offset a (suc n) each =
    let here : List ℕ = drop (96 * (offset + a)) bytes in
    let next : 96 * (offset + a) + 96 ≡ 96 * (offset + (a + 1)) = omega arith in
    let all : 96 + 96 * n ≡ 96 * suc n = omega arith in
    ap₂ (λ xs ys. xs ++ ys) (each a (omega arith))
    (blocks_between bytes f offset (a + 1) n (λ b lt. each b (omega arith))
    ∙ ap (take (96 * n)) (ap (λ k. drop k bytes) (sym next) ∙ sym (drop-drop 96 (96 * (offset + a)) bytes)))
    ∙ sym (take-add 96 (96 * n) here) ∙ ap (λ k. take k here) all

-- bytes that consist of two lists of blocks
pub two_parts : (bytes : List ℕ) (f g : ℕ → List ℕ) (lead_in n : ℕ) → length bytes ≡ 96 * (lead_in + n)
    → ((l : ℕ) → l < lead_in → f l ≡ bytes_at bytes l)
    → ((b : ℕ) → b < n → g b ≡ bytes_at bytes (lead_in + b))
    → flat_map f (below lead_in) ++ flat_map g (below n) ≡ bytes
two_parts bytes f g lead_in n size these those =
    let none : (k : ℕ) → k ≡ 0 + k = λ k. omega arith in
    let first : flat_map f (below lead_in) ≡ take (96 * lead_in) bytes =
    blocks_between bytes f 0 0 lead_in (λ b lt. these b (omega arith) ∙ ap (bytes_at bytes) (none b)) in
    let start : 96 * (lead_in + 0) ≡ 96 * lead_in = omega arith in
    let second : flat_map g (below n) ≡ drop (96 * lead_in) bytes =
    blocks_between bytes g lead_in 0 n (λ b lt. those b (omega arith))
    ∙ ap (λ k. take (96 * n) (drop k bytes)) start
    ∙ take_all (96 * n) (drop (96 * lead_in) bytes) (omega (arith, size, length-drop (96 * lead_in) bytes)) in
    ap₂ (λ xs ys. xs ++ ys) first second ∙ take-append-drop (96 * lead_in) bytes
