-- Bytes cut into blocks and slots.
use Rattle.std.proofs.Common.{◌≡◌, ℕ, zero, suc, ◌+◌, ◌-◌, ◌*◌, ◌/◌, ◌%◌, ◌<◌, List, [], ◌∷◌, ◌++◌, length, take, drop, map, flat_map, refl, sym, ap, ap₂, ◌∙◌, arith}
use Rattle.std.specs.List.{concat, AllByRecursion}
use Rattle.std.proofs.Math.Nat.{suc-mul}
use Rattle.std.proofs.Math.Seq.{drop-nil}
use Rattle.std.specs.Prelude.{slice_index}
use Rattle.std.proofs.lemmas.List.{get_or-drop, get_or-map, get_or-take, length-drop, length-map, length-take-le, drop-drop, map-append, nil_from_length, take-append-drop, take-append-le, drop-append-le}
use Rattle.std.proofs.lemmas.List.FromFn.{fill_by_all}
use Rattle.bit_lists.specs.Counting.{parts}
use Rattle.raw_subcode.specs.Channels.{symbols_of, block_of, program_symbols}
use Rattle.raw_subcode.specs.declared.form.Form.TheVariants.{Raw}
use Rattle.rw_interleave.specs.Windows.{slot_in, slots_in}
use Rattle.rw_merge.specs.Steps.{leading_slots}

-- a slot of a block, as a window reads it
slot_is : (block rest : List ℕ) (k : ℕ) → length block ≡ 96 → k < 4 → rest ≡ drop (24 * k) block
    → symbols_of (take 24 rest) ≡ slot_in block k
unfolding slot_in
slot_is block rest k size lt rest_is =
    let long : length rest ≡ 96 - 24 * k =
    ap length rest_is ∙ length-drop (24 * k) block ∙ ap (λ n. n - 24 * k) size in
    let few : length (take 24 rest) ≡ 24 = length-take-le 24 rest (omega (arith, long, lt)) in
    fill_by_all (λ i. slice_index block (24 * k + i) % 64) (symbols_of (take 24 rest)) 24 0
    (length-map (take 24 rest) (λ (byte : ℕ). byte % 64) ∙ few)
    (λ n n_lt. get_or-map (λ (byte : ℕ). byte % 64) (take 24 rest) n 0 0 (omega (arith, few, n_lt))
    ∙ ap (λ byte. byte % 64)
    (get_or-take 24 rest n 0 n_lt ∙ ap (λ l. slice_index l n) rest_is ∙ get_or-drop (24 * k) block n 0))

-- the slots of a block, as a window reads them
pub slots_taken : (block : List ℕ) → length block ≡ 96 → slots_in block 0 4 ≡ leading_slots 4 block
unfolding slots_in
slots_taken block size =
    let two : drop 24 (drop 24 block) ≡ drop 48 block = drop-drop 24 24 block in
    let three : drop 24 (drop 24 (drop 24 block)) ≡ drop 72 block =
    ap (drop 24) two ∙ drop-drop 24 48 block in
    sym (λ i.
    slot_is block block 0 size (omega arith) refl i
    ∷ slot_is block (drop 24 block) 1 size (omega arith) refl i
    ∷ slot_is block (drop 24 (drop 24 block)) 2 size (omega arith) two i
    ∷ slot_is block (drop 24 (drop 24 (drop 24 block))) 3 size (omega arith) three i
    ∷ [])

pub length-slots_in : (block : List ℕ) → length (slots_in block 0 4) ≡ 4
unfolding slots_in
length-slots_in block = refl

-- whole parts, followed by others
parts-append : (size n m : ℕ) (xs ys : List ℕ) → length xs ≡ n * size
    → parts (n + m) size (xs ++ ys) ≡ parts n size xs ++ parts m size ys
parts-append size zero m xs ys fits =
    let none : xs ≡ [] = nil_from_length xs (omega (arith, fits)) in
    let same : 0 + m ≡ m = omega arith in
    ap₂ (λ k l. parts k size (l ++ ys)) same none
parts-append size (suc n) m xs ys fits =
    let more : length xs ≡ n * size + size = fits ∙ suc-mul n size in
    let next : suc n + m ≡ suc (n + m) = omega arith in
    ap (λ k. parts k size (xs ++ ys)) next
    ∙ ap₂ (λ p ps. p ∷ parts (n + m) size ps) (take-append-le size xs ys (omega (arith, more)))
    (drop-append-le size xs ys (omega (arith, more)))
    ∙ ap (λ ps. take size xs ∷ ps)
    (parts-append size n m (drop size xs) ys (length-drop size xs ∙ omega (arith, more)))

pub slots-append : (n m : ℕ) (xs ys : List ℕ) → length xs ≡ n * 24
    → leading_slots (n + m) (xs ++ ys) ≡ leading_slots n xs ++ leading_slots m ys
slots-append n m xs ys fits =
    ap (map symbols_of) (parts-append 24 n m xs ys fits)
    ∙ map-append symbols_of (parts n 24 xs) (parts m 24 ys)

-- joined slots have the symbols of their bytes
pub slots_together : (n : ℕ) (xs : List ℕ) → length xs ≡ n * 24 → concat (leading_slots n xs) ≡ symbols_of xs
slots_together zero xs fits = sym (ap symbols_of (nil_from_length xs (omega (arith, fits))))
slots_together (suc n) xs fits =
    ap (λ l. symbols_of (take 24 xs) ++ l)
    (slots_together n (drop 24 xs) (length-drop 24 xs ∙ omega (arith, fits)))
    ∙ sym (map-append (λ byte. byte % 64) (take 24 xs) (drop 24 xs)) ∙ ap symbols_of (take-append-drop 24 xs)

pub length-slots : (n : ℕ) (xs : List ℕ) → length (leading_slots n xs) ≡ n
length-slots zero xs = refl
length-slots (suc n) xs = ap suc (length-slots n (drop 24 xs))

pub slots_sized : (n : ℕ) (xs : List ℕ) → length xs ≡ n * 24
    → AllByRecursion (λ (slot : List ℕ). length slot ≡ 24) (leading_slots n xs)
slots_sized zero xs fits = tt
slots_sized (suc n) xs fits = (
  length-map (take 24 xs) (λ (byte : ℕ). byte % 64) ∙ length-take-le 24 xs (omega (arith, fits)),
  slots_sized n (drop 24 xs) (length-drop 24 xs ∙ omega (arith, fits)),
)

-- the symbols of all blocks except the first ones
blocks_symbols : (n l k : ℕ) (bytes : List ℕ) → length bytes ≡ n * 96 → k ≡ l * 96
    → flat_map symbols_of (drop l (map (block_of Raw) (parts n 96 bytes))) ≡ symbols_of (drop k bytes)
blocks_symbols zero l k bytes size at =
    let none : bytes ≡ [] = nil_from_length bytes (omega (arith, size)) in
    ap (flat_map symbols_of) (drop-nil l)
    ∙ sym (ap (λ b. symbols_of (drop k b)) none ∙ ap symbols_of (drop-nil k))
blocks_symbols (suc n) zero k bytes size at =
    let here : 0 ≡ k = omega (arith, at) in
    ap (λ l. symbols_of (take 96 bytes) ++ l)
    (blocks_symbols n 0 0 (drop 96 bytes) (length-drop 96 bytes ∙ omega (arith, size)) refl)
    ∙ sym (map-append (λ byte. byte % 64) (take 96 bytes) (drop 96 bytes))
    ∙ ap symbols_of (take-append-drop 96 bytes)
    ∙ ap (λ m. symbols_of (drop m bytes)) here
blocks_symbols (suc n) (suc l) k bytes size at =
    let there : 96 + l * 96 ≡ k = omega (arith, at) in
    blocks_symbols n l (l * 96) (drop 96 bytes) (length-drop 96 bytes ∙ omega (arith, size)) refl
    ∙ ap symbols_of (drop-drop (l * 96) 96 bytes ∙ ap (λ m. drop m bytes) there)

pub program_is : (lead_in blocks : ℕ) (bytes : List ℕ) → length bytes ≡ blocks * 96
    → program_symbols Raw bytes lead_in ≡ symbols_of (drop (lead_in * 96) bytes)
program_is lead_in blocks bytes size =
    let count : length bytes / 96 ≡ blocks = omega (arith, size) in
    ap (λ n. flat_map symbols_of (drop lead_in (map (block_of Raw) (parts n 96 bytes)))) count
    ∙ blocks_symbols blocks lead_in (lead_in * 96) bytes size refl

-- the bytes of the program, in slots
pub program_slots : (lead_in blocks : ℕ) (bytes : List ℕ) → length bytes ≡ blocks * 96
    → length (drop (lead_in * 96) bytes) ≡ 4 * (blocks - lead_in) * 24
program_slots lead_in blocks bytes size = length-drop (lead_in * 96) bytes ∙ omega (arith, size)
