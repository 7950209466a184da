-- The slots of blocks, one after another.
use Rattle.std.proofs.Common.{◌≡◌, ℕ, zero, suc, ◌+◌, ◌*◌, ◌%◌, ◌<◌, List, [], ◌∷◌, ◌++◌, length, get_or, map, take, drop, refl, sym, ap, ap₂, ◌∙◌, arith, length-append, length-drop}
use Rattle.std.specs.List.{concat, flat_map, AllByRecursion}
use Rattle.std.proofs.lemmas.List.{append-nil, take_all, length-map, map-append, length-take-le}
use Rattle.std.proofs.lemmas.List.FromFn.{map-range_with_len_more}
use Rattle.std.proofs.lemmas.List.Folds.{concat-append}
use Rattle.std.proofs.Math.Seq.{take-add}
use Rattle.bit_lists.specs.Counting.{below}
use Rattle.raw_subcode.specs.Channels.{symbols_of}
use Rattle.stream_stages.specs.Steps.{slot_of, slots_of}

-- each list has this size
abbrev pub Sized : ℕ → List (List ℕ) → Type 0
Sized size xs = AllByRecursion (λ (x : List ℕ). length x ≡ size) xs

pub sized_append : (size : ℕ) (xs ys : List (List ℕ)) → Sized size xs → Sized size ys → Sized size (xs ++ ys)
sized_append size [] ys all all' = all'
sized_append size (x ∷ xs) ys all all' = (all.0, sized_append size xs ys all.1 all')

pub sized_drop : (size n : ℕ) (xs : List (List ℕ)) → Sized size xs → Sized size (drop n xs)
sized_drop size zero xs all = all
sized_drop size (suc n) [] all = tt
sized_drop size (suc n) (x ∷ xs) all = sized_drop size n xs all.1

length-slot_of : (block : List ℕ) (i : ℕ) → length block ≡ 96 → i < 4 → length (slot_of block i) ≡ 24
unfolding slot_of
length-slot_of block i size lt =
    length-map (take 24 (drop (24 * i) block)) (λ (byte : ℕ). byte % 64)
    ∙ length-take-le 24 (drop (24 * i) block) (omega (arith, size, length-drop (24 * i) block))

pub slots_sized : (block : List ℕ) → length block ≡ 96 → Sized 24 (slots_of block)
unfolding slots_of
slots_sized block size = (
  length-slot_of block 0 size (omega arith),
  (
    length-slot_of block 1 size (omega arith),
    (length-slot_of block 2 size (omega arith), (length-slot_of block 3 size (omega arith), tt)),
  ),
)

pub length-slots_of : (block : List ℕ) → length (slots_of block) ≡ 4
unfolding slots_of
length-slots_of block = refl

-- the first slots of a block are its first symbols
first_slots : (block : List ℕ) (n : ℕ)
    → concat (map (slot_of block) (below n)) ≡ symbols_of (take (24 * n) block)
unfolding slot_of
first_slots block zero = refl
first_slots block (suc n) =
    let next : suc n ≡ n + 1 = omega arith in
    let bytes : take (24 * suc n) block ≡ take (24 * n) block ++ take 24 (drop (24 * n) block) =
    ap (λ k. take k block) (omega arith) ∙ take-add (24 * n) 24 block in
    ap (λ k. concat (map (slot_of block) (below k))) next
    ∙ ap concat (map-range_with_len_more (slot_of block) 0 n n (omega arith))
    ∙ concat-append (map (slot_of block) (below n)) (slot_of block n ∷ [])
    ∙ ap₂ (λ x (y : List ℕ). x ++ y) (first_slots block n) (append-nil (slot_of block n))
    ∙ sym (map-append (λ (byte : ℕ). byte % 64) (take (24 * n) block) (take 24 (drop (24 * n) block)))
    ∙ ap symbols_of (sym bytes)

slots_together : (block : List ℕ) → length block ≡ 96 → concat (slots_of block) ≡ symbols_of block
unfolding slots_of
slots_together block size = first_slots block 4 ∙ ap symbols_of (take_all 96 block (omega (arith, size)))

-- ---- the same for blocks

pub all_slots_sized : (blocks : List (List ℕ)) → Sized 96 blocks → Sized 24 (flat_map slots_of blocks)
all_slots_sized [] all = tt
all_slots_sized (block ∷ blocks) all =
    sized_append 24 (slots_of block) (flat_map slots_of blocks) (slots_sized block all.0)
    (all_slots_sized blocks all.1)

pub all_slots_together : (blocks : List (List ℕ)) → Sized 96 blocks
    → concat (flat_map slots_of blocks) ≡ flat_map symbols_of blocks
all_slots_together [] all = refl
all_slots_together (block ∷ blocks) all =
    concat-append (slots_of block) (flat_map slots_of blocks)
    ∙ ap₂ (λ x (y : List ℕ). x ++ y) (slots_together block all.0) (all_slots_together blocks all.1)

pub length-all_slots : (blocks : List (List ℕ)) → length (flat_map slots_of blocks) ≡ 4 * length blocks
length-all_slots [] = refl
length-all_slots (block ∷ blocks) =
    omega (
      arith,
      length-append (slots_of block) (flat_map slots_of blocks),
      length-slots_of block,
      length-all_slots blocks,
    )

pub length-all_symbols : (blocks : List (List ℕ)) → Sized 96 blocks
    → length (flat_map symbols_of blocks) ≡ 96 * length blocks
length-all_symbols [] all = refl
length-all_symbols (block ∷ blocks) all =
    omega (
      arith,
      length-append (symbols_of block) (flat_map symbols_of blocks),
      length-map block (λ (byte : ℕ). byte % 64),
      all.0,
      length-all_symbols blocks all.1,
    )

symbols_small_before : (block rest : List ℕ) → ((p : ℕ) → get_or rest p 0 < 64) → (p : ℕ)
    → get_or (symbols_of block ++ rest) p 0 < 64
symbols_small_before [] rest small p = small p
symbols_small_before (byte ∷ block) rest small zero = omega arith
symbols_small_before (byte ∷ block) rest small (suc p) = symbols_small_before block rest small p

pub symbols_small : (blocks : List (List ℕ)) (p : ℕ) → get_or (flat_map symbols_of blocks) p 0 < 64
symbols_small [] p = omega arith
symbols_small (block ∷ blocks) p =
    symbols_small_before block (flat_map symbols_of blocks) (symbols_small blocks) p
