-- The slots of a block of the lead-in.
use Rattle.std.proofs.Common.{◌≡◌, ◌≢◌, ◌+◌, ◌-◌, ◌*◌, ◌%◌, ◌<◌, ◌==◌, ◌++◌, List, ℕ, length, take, drop, flat_map, replicate, slice_index_or, [], ◌∷◌, sym, ap, ◌∙◌, arith}
use Rattle.std.proofs.lemmas.List.{append-nil, length-append, length-take, length-drop, map-id}
use Rattle.std.proofs.lemmas.List.FromFn.{map-range_with_len_more}
use Rattle.std.proofs.lemmas.Grind.{flat_map-append}
use Rattle.std.proofs.lemmas.Slice.{take-put_mid}
use borrow.Rule.Slice.PartMut.{put_mid}
use Rattle.bit_lists.specs.Counting.{below}
use Rattle.std.proofs.lemmas.Bool.{cond-true, cond-false, eq-eqb, ne_eqb}
use Rattle.cdtext_packs.specs.LeadIn.{lead_in_slot, lead_in_symbols, pack_symbols}

below_more : (k : ℕ) → below (k + 1) ≡ below k ++ k ∷ []
below_more k =
    sym (map-id (below (k + 1)))
    ∙ map-range_with_len_more (λ (n : ℕ). n) 0 k k (omega arith)
    ∙ ap (λ (xs : List ℕ). xs ++ k ∷ []) (map-id (below k))

-- the slots without packs
none_slot : (packs : List (List ℕ)) (j : ℕ) → length packs ≡ 0 → lead_in_slot packs j ≡ replicate 24 0
none_slot packs j none =
    cond-true (length packs == 0) (replicate 24 0)
    (pack_symbols (slice_index_or packs (j % length packs) [])) (eq-eqb (length packs) 0 none)

pub none_symbols : (packs : List (List ℕ)) (block : ℕ) → length packs ≡ 0
    → lead_in_symbols packs block ≡ replicate 96 0
none_symbols packs block none =
    ap (λ (f : ℕ → List ℕ). flat_map f (below 4)) (λ i k. none_slot packs (4 * block + k) none i)

-- the slot of a pack
pub some_slot : (packs : List (List ℕ)) (j : ℕ) → length packs ≢ 0
    → lead_in_slot packs j ≡ pack_symbols (slice_index_or packs (j % length packs) [])
some_slot packs j some =
    cond-false (length packs == 0) (replicate 24 0)
    (pack_symbols (slice_index_or packs (j % length packs) [])) (ne_eqb (length packs) 0 some)

pub slots_more : (packs : List (List ℕ)) (block k : ℕ) (before slot : List ℕ)
    → before ≡ flat_map (λ j. lead_in_slot packs (4 * block + j)) (below k)
    → slot ≡ lead_in_slot packs (4 * block + k)
    → before ++ slot ≡ flat_map (λ j. lead_in_slot packs (4 * block + j)) (below (k + 1))
slots_more packs block k before slot is next =
    let f : ℕ → List ℕ = λ j. lead_in_slot packs (4 * block + j) in
    ap (λ (xs : List ℕ). xs ++ slot) is
    ∙ ap (λ (xs : List ℕ). flat_map f (below k) ++ xs) (next ∙ sym (append-nil (f k)))
    ∙ sym (flat_map-append f (below k) (k ∷ [])) ∙ ap (flat_map f) (sym (below_more k))

pub slot_written : (symbols copied slot : List ℕ) (k : ℕ) → length symbols ≡ 96 → length slot ≡ 24
    → copied ≡ slot → k < 4
    → take (24 * (k + 1)) (put_mid (24 * k) (24 * k + 24 - 24 * k) symbols copied)
    ≡ take (24 * k) symbols ++ slot
slot_written symbols copied slot k size one same below =
    let len = ap length same in
    take-put_mid (24 * k) (24 * k + 24 - 24 * k) symbols copied (24 * (k + 1)) (omega arith) (omega arith)
    ∙ ap (λ (xs : List ℕ). take (24 * k) symbols ++ xs) same

pub length-written : (symbols copied slot : List ℕ) (k : ℕ) → length symbols ≡ 96 → length slot ≡ 24
    → copied ≡ slot → k < 4
    → length (put_mid (24 * k) (24 * k + 24 - 24 * k) symbols copied) ≡ 96
length-written symbols copied slot k size one same below =
    let len = ap length same in
    let first = length-take (24 * k) symbols in
    let start = length-drop (24 * k) symbols in
    let rest = length-drop (24 * k + 24 - 24 * k) (drop (24 * k) symbols) in
    let inner = length-append copied (drop (24 * k + 24 - 24 * k) (drop (24 * k) symbols)) in
    let outer =
    length-append (take (24 * k) symbols) (copied ++ drop (24 * k + 24 - 24 * k) (drop (24 * k) symbols)) in
    omega arith
