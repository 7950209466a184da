-- The packs that are read from the slots of a lead-in.
use Rattle.std.proofs.Common.{◌≡◌, ◌≢◌, ℕ, suc, ◌+◌, ◌*◌, ◌%◌, ◌<◌, false, ◌==◌, List, [], ◌∷◌, ◌++◌, length, get_or, map, take, drop, replicate, inl, inr, refl, sym, ap, ap₂, ◌∙◌, arith}
use Rattle.std.specs.List.{range_with_len}
use Rattle.std.proofs.lemmas.Bool.{cases_Bool, cond-true, cond-false, cond_both, eqb-false}
use Rattle.std.proofs.lemmas.List.{length-map, length-replicate, length-take, get_or-take, take_at, drop_at, drop-drop}
use Rattle.std.proofs.Math.Nat.{mod-lt}
use Rattle.bit_lists.specs.Counting.{below, whole_parts}
use Rattle.bit_lists.specs.Bits.{bits_of, number_of, bits_of_bytes, numbers_of}
use Rattle.bit_lists.proofs.BitsLemmas.{length-bits_of_bytes}
use Rattle.bit_lists.proofs.Groups.{symbols_have_bits, bytes_from_bits}
use Rattle.raw_subcode.specs.Channels.{symbols_of, symbol_bits, blocks_of}
use Rattle.raw_subcode.specs.declared.form.Form.TheVariants.{Raw}
use Rattle.cdtext_packs.specs.LeadIn.{pack_symbols, lead_in_slot, lead_in_symbols, pack_at, lead_in_packs}
use Rattle.toc_model.specs.Places.{DiscLayout}
use Rattle.cdtext_packs.specs.Copies.{IsPack}
use Rattle.stream_writer.specs.Framing.{HasFraming}
use Rattle.round_trips.specs.Slots.{pack_in_slot, packs_in_slots}
use Rattle.round_trips.proofs.ListedFrames.{length-whole_parts, length-raw_blocks}

length-pack_symbols : (pack : List ℕ) → length pack ≡ 18 → length (pack_symbols pack) ≡ 24
unfolding numbers_of
length-pack_symbols pack size =
    length-map (whole_parts 6 (bits_of_bytes pack)) number_of
    ∙ length-whole_parts 6 (bits_of_bytes pack)
    ∙ omega (arith, length-bits_of_bytes pack, size)

zeros_back : numbers_of 8 (symbol_bits (replicate 24 0)) ≡ replicate 18 0
unfolding numbers_of number_of bits_of
zeros_back = refl

symbols_back : (pack : List ℕ) → IsPack pack → numbers_of 8 (symbol_bits (pack_symbols pack)) ≡ pack
symbols_back pack is = ap (numbers_of 8) (symbols_have_bits pack is.size) ∙ bytes_from_bits pack is.bytes

module _ (packs : List (List ℕ)) (are : (n : ℕ) → n < length packs → IsPack (get_or packs n [])) where
  in_slot : (j : ℕ) → (length packs == 0) ≡ false → IsPack (get_or packs (j % length packs) [])
  in_slot j some = let not_none : length packs ≢ 0 = eqb-false (length packs) 0 some in
      are (j % length packs) (mod-lt j (omega arith))

  length-slot : (j : ℕ) → length (lead_in_slot packs j) ≡ 24
  length-slot j =
      cond_both (length packs == 0) (replicate 24 0) (pack_symbols (get_or packs (j % length packs) []))
      (λ (s : List ℕ). length s ≡ 24)
      (λ _. length-replicate {A = ℕ} 24 0)
      (λ some. length-pack_symbols (get_or packs (j % length packs) []) (in_slot j some).size)

  slot_back : (j : ℕ) → numbers_of 8 (symbol_bits (lead_in_slot packs j)) ≡ pack_in_slot packs j
  slot_back j = elim (cases_Bool (length packs == 0)) [
    | inl none ↦
        ap (λ (s : List ℕ). numbers_of 8 (symbol_bits s)) (cond-true (length packs == 0) (replicate 24 0)
        (pack_symbols (get_or packs (j % length packs) [])) none)
        ∙ zeros_back
        ∙ sym (cond-true (length packs == 0) (replicate 18 0) (get_or packs (j % length packs) []) none)
    | inr some ↦
        ap (λ (s : List ℕ). numbers_of 8 (symbol_bits s)) (cond-false (length packs == 0) (replicate 24 0)
        (pack_symbols (get_or packs (j % length packs) [])) some)
        ∙ symbols_back (get_or packs (j % length packs) []) (in_slot j some)
        ∙ sym (cond-false (length packs == 0) (replicate 18 0) (get_or packs (j % length packs) []) some)
  ]

  -- the packs of a block that has the symbols of four slots
  module _ (block : List ℕ) (l : ℕ) (symbols : symbols_of block ≡ lead_in_symbols packs l) where
    abbrev slot : ℕ → List ℕ
    slot k = lead_in_slot packs (4 * l + k)

    abbrev after : ℕ → List ℕ
    after k = drop (24 * k) (lead_in_symbols packs l)

    after_one : drop 24 (lead_in_symbols packs l) ≡ slot 1 ++ (slot 2 ++ (slot 3 ++ []))
    after_one = drop_at (slot 0) (slot 1 ++ (slot 2 ++ (slot 3 ++ []))) 24 (length-slot (4 * l + 0))

    after_two : drop 48 (lead_in_symbols packs l) ≡ slot 2 ++ (slot 3 ++ [])
    after_two =
        sym (drop-drop 24 24 (lead_in_symbols packs l))
        ∙ ap (drop 24) after_one
        ∙ drop_at (slot 1) (slot 2 ++ (slot 3 ++ [])) 24 (length-slot (4 * l + 1))

    after_three : drop 72 (lead_in_symbols packs l) ≡ slot 3 ++ []
    after_three =
        sym (drop-drop 24 48 (lead_in_symbols packs l))
        ∙ ap (drop 24) after_two
        ∙ drop_at (slot 2) (slot 3 ++ []) 24 (length-slot (4 * l + 2))

    from_slot : (k : ℕ) (rest : List ℕ) → drop (24 * k) (lead_in_symbols packs l) ≡ slot k ++ rest
        → pack_at block k ≡ pack_in_slot packs (4 * l + k)
    from_slot k rest is =
        ap (λ (s : List ℕ). numbers_of 8 (symbol_bits (take 24 (drop (24 * k) s)))) symbols
        ∙ ap (λ (s : List ℕ). numbers_of 8 (symbol_bits (take 24 s))) is
        ∙ ap (λ (s : List ℕ). numbers_of 8 (symbol_bits s))
        (take_at (slot k) rest 24 (length-slot (4 * l + k)))
        ∙ slot_back (4 * l + k)

    block_holds : map (pack_at block) (below 4)
        ≡ pack_in_slot packs (4 * l + 0) ∷ pack_in_slot packs (4 * l + 1) ∷ pack_in_slot packs (4 * l + 2)
        ∷ pack_in_slot packs (4 * l + 3) ∷ []
    block_holds = λ i.
        from_slot 0 (slot 1 ++ (slot 2 ++ (slot 3 ++ []))) refl i
        ∷ from_slot 1 (slot 2 ++ (slot 3 ++ [])) after_one i
        ∷ from_slot 2 (slot 3 ++ []) after_two i
        ∷ from_slot 3 [] after_three i ∷ []

  four_more : (l n : ℕ) → map (pack_in_slot packs) (range_with_len (4 * l) (4 * suc n))
      ≡ pack_in_slot packs (4 * l + 0) ∷ pack_in_slot packs (4 * l + 1) ∷ pack_in_slot packs (4 * l + 2)
      ∷ pack_in_slot packs (4 * l + 3)
      ∷ map (pack_in_slot packs) (range_with_len (4 * (l + 1)) (4 * n))
  four_more l n =
      let count : 4 * suc n ≡ suc (suc (suc (suc (4 * n)))) = omega arith in
      let e0 : 4 * l ≡ 4 * l + 0 = omega arith in
      let e2 : 4 * l + 1 + 1 ≡ 4 * l + 2 = omega arith in
      let e3 : 4 * l + 1 + 1 + 1 ≡ 4 * l + 3 = omega arith in
      let e4 : 4 * l + 1 + 1 + 1 + 1 ≡ 4 * (l + 1) = omega arith in
      ap (λ (k : ℕ). map (pack_in_slot packs) (range_with_len (4 * l) k)) count
      ∙ (λ i. pack_in_slot packs (e0 i) ∷ pack_in_slot packs (4 * l + 1) ∷ pack_in_slot packs (e2 i)
      ∷ pack_in_slot packs (e3 i) ∷ map (pack_in_slot packs) (range_with_len (e4 i) (4 * n)))

  blocks_hold : (blocks : List (List ℕ)) (l : ℕ)
      → ((i : ℕ) → i < length blocks → symbols_of (get_or blocks i []) ≡ lead_in_symbols packs (l + i))
      → lead_in_packs blocks ≡ map (pack_in_slot packs) (range_with_len (4 * l) (4 * length blocks))
  blocks_hold [] l each = refl
  blocks_hold (b ∷ blocks) l each =
      let here : l + 0 ≡ l = omega arith in
      ap₂ (λ (xs ys : List (List ℕ)). xs ++ ys)
      (block_holds b l (each 0 (omega arith) ∙ ap (lead_in_symbols packs) here))
      (blocks_hold blocks (l + 1) (λ i less. let next : l + suc i ≡ l + 1 + i = omega arith in
      each (suc i) (omega arith) ∙ ap (lead_in_symbols packs) next))
      ∙ sym (four_more l (length blocks))

  pub lead_in_holds : (layout : DiscLayout) (lead_in : ℕ) (bytes : List ℕ)
      → HasFraming layout packs lead_in bytes
      → lead_in_packs (take lead_in (blocks_of Raw bytes)) ≡ packs_in_slots packs (4 * lead_in)
  lead_in_holds layout lead_in bytes framing =
      let all : length (blocks_of Raw bytes) ≡ lead_in + layout.blocks =
      length-raw_blocks bytes (lead_in + layout.blocks) framing.size in
      let count : length (take lead_in (blocks_of Raw bytes)) ≡ lead_in =
      length-take lead_in (blocks_of Raw bytes) ∙ omega (arith, all) in
      blocks_hold (take lead_in (blocks_of Raw bytes)) 0 (λ i less.
      let within : i < lead_in = omega (arith, count) in
      let from_none : i ≡ 0 + i = omega arith in
      ap symbols_of (get_or-take lead_in (blocks_of Raw bytes) i [] within)
      ∙ framing.texts i within
      ∙ ap (lead_in_symbols packs) from_none)
      ∙ ap (λ (n : ℕ). map (pack_in_slot packs) (range_with_len 0 (4 * n))) count
