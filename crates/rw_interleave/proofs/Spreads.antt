-- The slots that a spreader makes from a list of packs.
use Rattle.std.proofs.Common.{◌≡◌, ◌≢◌, ℕ, zero, suc, ◌+◌, ◌-◌, ◌*◌, ◌/◌, ◌%◌, ◌<◌, ◌≤◌, cond, ltb, List, [], ◌∷◌, ◌++◌, length, length-set, get_or, set, map, drop, replicate, refl, sym, ap, ap₂, ◌∙◌, arith, append_assoc, length-append, length-drop, Option, Some, None, unwrap_or, slice_get, inl, inr, rules}
use Rattle.std.specs.List.{All, concat, range_with_len, AllByRecursion}
use Rattle.std.proofs.lemmas.Bool.{cases_lt, lt-ltb, le-ltb}
use Rattle.std.proofs.lemmas.List.{get_or_append_left, get_or-append_right, length-replicate, drop-append-le, drop-drop, get_or-drop, get_or-replicate, get_or_default}
use Rattle.std.proofs.lemmas.Option.{unwrap_or-slice_get}
use Rattle.std.proofs.lemmas.List.Elements.{All-append, All-get_or, All-replicate}
use Rattle.rw_code.specs.Codeword.{IsCodeword, IsWord}
use Rattle.std.proofs.lemmas.List.FromFn.{length-map-range_with_len, get_or-map-range_with_len, fill_by_all}
use Rattle.cdg_io.specs.Run.{give, run_gives}
use Rattle.bit_lists.specs.Counting.{below}
use Rattle.rw_interleave.specs.declared.slot.TheConstants.{SWAPPED}
use Rattle.rw_interleave.specs.Interleave.{swapped, place, word_of, whole_of_slots, whole_packs, Carries}
use Rattle.rw_interleave.specs.Gathering.{last_seven}
use Rattle.rw_interleave.specs.Spreading.{spread_symbol, spread_over, spread_next, spread_gives, filled_with_idle}
use Rattle.rw_interleave.proofs.Ranges.{map_range}
use Rattle.rw_interleave.proofs.Places.{concat_at, swapped_is, swapped-lt}
use Rattle.rw_interleave.proofs.Eighths.{HasEighths, eighth_more, no_exchange, swapped_back}

-- the symbol at a position of slot k of some packs
abbrev slot_symbol : List (List ℕ) → ℕ → ℕ → ℕ
slot_symbol packs k position =
    cond (ltb k (position % 8)) 0 (get_or (get_or packs (k - position % 8) []) (swapped position) 0)

abbrev slot_of : List (List ℕ) → ℕ → List ℕ
slot_of packs k = map (slot_symbol packs k) (below 24)

-- a symbol of the slot that is sent with the last of some packs, from the last eight packs
last_symbol : (h rest : List (List ℕ)) (p : List ℕ) (position : ℕ)
    → spread_symbol (last_seven h ++ p ∷ []) position ≡ slot_symbol (h ++ p ∷ rest) (length h) position
unfolding spread_symbol
last_symbol h rest p position =
    let d : ℕ = length h - 7 in
    let back : ℕ = position % 8 in
    let l : List (List ℕ) = drop d h ++ p ∷ [] in
    let size : length l ≡ length h - d + 1 =
    length-append (drop d h) (p ∷ []) ∙ ap (λ n. n + 1) (length-drop d h) in
    elim (cases_lt (length h) back) [
      | inl early ↦
          ap (λ t. cond t (get_or (get_or l (length l - back - 1) []) (swapped position) 0) 0)
          (le-ltb back (length l) (omega (arith, size, early)))
          ∙ sym (ap
          (λ t. cond t 0 (get_or (get_or (h ++ p ∷ rest) (length h - back) []) (swapped position) 0))
          (lt-ltb (length h) back early))
      | inr late ↦
          let j : ℕ = length l - back - 1 in
          let all : l ≡ drop d (h ++ p ∷ []) = sym (drop-append-le d h (p ∷ []) (omega arith)) in
          let there : d + j ≡ length h - back = omega (arith, size, late) in
          let whole : get_or (h ++ p ∷ []) (length h - back) []
          ≡ get_or (h ++ p ∷ rest) (length h - back) [] =
          sym (get_or_append_left (h ++ p ∷ []) rest [] (length h - back)
          (omega (arith, length-append h (p ∷ []))))
          ∙ ap (λ m. get_or m (length h - back) []) (append_assoc h (p ∷ []) rest) in
          let same : get_or l j [] ≡ get_or (h ++ p ∷ rest) (length h - back) [] =
          ap (λ m. get_or m j []) all
          ∙ get_or-drop d (h ++ p ∷ []) j []
          ∙ ap (λ m. get_or (h ++ p ∷ []) m []) there
          ∙ whole in
          ap (λ t. cond t (get_or (get_or l j []) (swapped position) 0) 0)
          (lt-ltb back (length l) (omega (arith, size, late)))
          ∙ ap (λ (m : List ℕ). get_or m (swapped position) 0) same
          ∙ sym (ap
          (λ t. cond t 0 (get_or (get_or (h ++ p ∷ rest) (length h - back) []) (swapped position) 0))
          (le-ltb (length h) back late))
    ]

-- the symbol from the pack that is `back` packs before the last, or 0
pub symbol_back : (packs : List (List ℕ)) (found : Option (List ℕ)) (symbols : List ℕ) (back position : ℕ)
    → found ≡ cond (ltb back (length packs)) (slice_get packs (length packs - back - 1)) None
    → symbols ≡ unwrap_or found (replicate 24 0) → position % 8 ≡ back → position < 24
    → get_or symbols (swapped position) 0 ≡ spread_symbol packs position
unfolding spread_symbol
symbol_back packs found symbols back position found_is is at lt =
    let zeros : List ℕ = replicate 24 0 in
    let n : ℕ = length packs - back - 1 in
    let value : get_or symbols (swapped position) 0
    ≡ cond (ltb back (length packs)) (get_or (get_or packs n []) (swapped position) 0) 0 =
    elim (cases_lt back (length packs)) [
      | inl late ↦
          let test = lt-ltb back (length packs) late in
          let pack : symbols ≡ get_or packs n [] =
          is
          ∙ ap (λ (o : Option (List ℕ)). unwrap_or o zeros)
          (found_is ∙ ap (λ t. cond t (slice_get packs n) None) test)
          ∙ unwrap_or-slice_get packs n zeros
          ∙ get_or_default packs n zeros [] (omega (arith, late)) in
          ap (λ (xs : List ℕ). get_or xs (swapped position) 0) pack
          ∙ sym (ap (λ t. cond t (get_or (get_or packs n []) (swapped position) 0) 0) test)
      | inr early ↦
          let test = le-ltb back (length packs) early in
          let none : symbols ≡ zeros =
          is
          ∙ ap (λ (o : Option (List ℕ)). unwrap_or o zeros)
          (found_is ∙ ap (λ t. cond t (slice_get packs n) None) test) in
          ap (λ (xs : List ℕ). get_or xs (swapped position) 0) none
          ∙ get_or-replicate 24 (swapped position) 0 0 (swapped-lt position lt)
          ∙ sym (ap (λ t. cond t (get_or (get_or packs n []) (swapped position) 0) 0) test)
    ] in
    value
    ∙ ap (λ (k : ℕ). cond (ltb k (length packs))
    (get_or (get_or packs (length packs - k - 1) []) (swapped position) 0) 0) (sym at)

pub symbols_back : (packs : List (List ℕ)) (found : Option (List ℕ)) (symbols : List ℕ) (back : ℕ)
    → found ≡ cond (ltb back (length packs)) (slice_get packs (length packs - back - 1)) None
    → symbols ≡ unwrap_or found (replicate 24 0) → (position : ℕ) → position < 24 → position % 8 ≡ back
    → get_or symbols (swapped position) 0 ≡ spread_symbol packs position
symbols_back packs found symbols back found_is is position lt at =
    symbol_back packs found symbols back position found_is is at lt

-- the symbols that come before the first pack
pub zeros_word : IsWord (replicate 24 0)
zeros_word = record { size = refl; symbols = search rules }

-- the three symbols of a slot that are from one pack are put
pub spread_more : (packs : List (List ℕ)) (bytes symbols : List ℕ) (back : ℕ) → back < 8 → IsWord symbols
    → ((p : ℕ) → p < 24 → p % 8 ≡ back → get_or symbols (swapped p) 0 ≡ spread_symbol packs p)
    → length bytes ≡ 24 → HasEighths (λ p. p) (spread_symbol packs) bytes back
    → HasEighths (λ p. p) (spread_symbol packs)
    (set (set (set bytes back (get_or symbols (get_or SWAPPED back 0) 0)) (back + 8)
    (get_or symbols (get_or SWAPPED (back + 8) 0) 0)) (back + 16)
    (get_or symbols (get_or SWAPPED (back + 16) 0) 0)) (back + 1)
spread_more packs bytes symbols back few is_word same size done =
    let value : ℕ → ℕ = λ p. get_or symbols (swapped p) 0 in
    let put : (p : ℕ) → p < 24 → get_or symbols (get_or SWAPPED p 0) 0 ≡ value p =
    λ p lt. ap (λ k. get_or symbols k 0) (swapped_is p lt) in
    let small : (p : ℕ) → p < 24 → p % 8 ≡ back → value p % 64 ≡ spread_symbol packs p =
    λ p lt at.
    let below : value p < 64 =
    All-get_or (λ s. s < 64) symbols (swapped p) 0 (omega (arith, is_word.size, swapped-lt p lt))
    is_word.symbols in
    let low : value p % 64 ≡ value p = omega (arith, below) in
    low ∙ same p lt at in
    eighth_more (λ p. p) (spread_symbol packs) value bytes _ _ _ back no_exchange few size done small
    (ap (set bytes back) (put back (omega arith)))
    (ap (set _ (back + 8)) (put (back + 8) (omega arith)))
    (ap (set _ (back + 16)) (put (back + 16) (omega arith)))

pub three_sets_size : (bytes : List ℕ) (i j k x y z : ℕ) → length bytes ≡ 24
    → length (set (set (set bytes i x) j y) k z) ≡ 24
three_sets_size bytes i j k x y z size =
    length-set (set (set bytes i x) j y) k z ∙ length-set (set bytes i x) j y ∙ length-set bytes i x ∙ size

-- the packs that are kept are the last seven
kept : (h : List (List ℕ)) (p : List ℕ) → spread_next (last_seven h) p ≡ last_seven (h ++ p ∷ [])
unfolding spread_next
kept h p =
    let d : ℕ = length h - 7 in
    let all : drop d h ++ p ∷ [] ≡ drop d (h ++ p ∷ []) = sym (drop-append-le d h (p ∷ []) (omega arith)) in
    let size : length (drop d h ++ p ∷ []) ≡ length h - d + 1 =
    length-append (drop d h) (p ∷ []) ∙ ap (λ n. n + 1) (length-drop d h) in
    let count : d + (length (drop d h ++ p ∷ []) - 7) ≡ length (h ++ p ∷ []) - 7 =
    omega (arith, size, length-append h (p ∷ [])) in
    ap (drop (length (drop d h ++ p ∷ []) - 7)) all
    ∙ drop-drop _ d (h ++ p ∷ [])
    ∙ ap (λ n. drop n (h ++ p ∷ [])) count

abbrev run : List (List ℕ) → List (List ℕ) → List (List ℕ)
run w packs = run_gives spread_next spread_gives w packs

gives_over : (w : List (List ℕ)) (p : List ℕ)
    → spread_gives w p ≡ Some (map (spread_symbol (w ++ p ∷ [])) (below 24))
unfolding spread_gives spread_over
gives_over w p = refl

spreads : (h packs : List (List ℕ))
    → run (last_seven h) packs ≡ map (slot_of (h ++ packs)) (range_with_len (length h) (length packs))
spreads h [] = refl
spreads h (p ∷ packs) =
    let same : (h ++ p ∷ []) ++ packs ≡ h ++ p ∷ packs = append_assoc h (p ∷ []) packs in
    let size : length (h ++ p ∷ []) ≡ length h + 1 = length-append h (p ∷ []) in
    ap (λ o. give o (run (spread_next (last_seven h) p) packs)) (gives_over (last_seven h) p)
    ∙ ap₂ (λ (s : List ℕ) (w : List (List ℕ)). s ∷ run w packs)
    (map_range _ _ 0 24 (λ i from to. last_symbol h packs p i)) (kept h p)
    ∙ ap (λ l. slot_of (h ++ p ∷ packs) (length h) ∷ l) (spreads (h ++ p ∷ []) packs
    ∙ ap₂ (λ (l : List (List ℕ)) k. map (slot_of l) (range_with_len k (length packs))) same size)

pub slots_are : (packs : List (List ℕ)) → run [] packs ≡ map (slot_of packs) (below (length packs))
slots_are packs = spreads [] packs

pub slots_count : (packs : List (List ℕ)) → length (run [] packs) ≡ length packs
slots_count packs = ap length (slots_are packs) ∙ length-map-range_with_len (slot_of packs) 0 (length packs)

slots_sized : (packs : List (List ℕ)) (a n : ℕ)
    → AllByRecursion (λ (s : List ℕ). length s ≡ 24) (map (slot_of packs) (range_with_len a n))
slots_sized packs a zero = tt
slots_sized packs a (suc n) =
    (length-map-range_with_len (slot_symbol packs a) 0 24, slots_sized packs (a + 1) n)

-- a symbol of the slots, from its place
pub spread_at : (packs : List (List ℕ)) (k q : ℕ) → k < length packs → q < 24
    → get_or (concat (run [] packs)) (24 * k + q) 0 ≡ slot_symbol packs k q
spread_at packs k q lt within =
    ap (λ (s : List (List ℕ)). get_or (concat s) (24 * k + q) 0) (slots_are packs)
    ∙ concat_at (map (slot_of packs) (below (length packs))) k q (slots_sized packs 0 (length packs)) within
    ∙ ap (λ (s : List ℕ). get_or s q 0)
    (get_or-map-range_with_len (slot_of packs) 0 (length packs) k k [] lt (omega arith))
    ∙ get_or-map-range_with_len (slot_symbol packs k) 0 24 q q 0 within (omega arith)

-- a symbol of pack n in one of its eight slots
symbol_of_pack : (packs : List (List ℕ)) (n k q : ℕ) → k ≡ n + q % 8
    → slot_symbol packs k q ≡ get_or (get_or packs n []) (swapped q) 0
symbol_of_pack packs n k q e =
    let before : k - q % 8 ≡ n = omega (arith, e) in
    ap (λ t. cond t 0 (get_or (get_or packs (k - q % 8) []) (swapped q) 0))
    (le-ltb k (q % 8) (omega (arith, e)))
    ∙ ap (λ m. get_or (get_or packs m []) (swapped q) 0) before

pub spread_words : (packs : List (List ℕ)) → All (λ pack. length pack ≡ 24) packs → (n : ℕ)
    → n < whole_of_slots (length packs)
    → word_of (concat (run [] packs)) n ≡ get_or packs n []
unfolding word_of
spread_words packs all n lt =
    let symbol : (i : ℕ) → i < 24
    → get_or (concat (run [] packs)) (place n i) 0 ≡ get_or (get_or packs n []) i 0 =
    λ i within.
    let q : ℕ = swapped i in
    spread_at packs (n + q % 8) q (omega (arith, lt)) (swapped-lt i within)
    ∙ symbol_of_pack packs n (n + q % 8) q refl
    ∙ ap (λ j. get_or (get_or packs n []) j 0) (swapped_back i within) in
    sym (fill_by_all (λ i. get_or (concat (run [] packs)) (place n i) 0) (get_or packs n []) 24 0
    (all n [] (omega (arith, lt))) (λ i within. sym (symbol i within)))

pub spread_others : (packs : List (List ℕ))
    → ((n : ℕ) → whole_of_slots (length packs) ≤ n → n < length packs → get_or packs n [] ≡ replicate 24 0)
    → (p : ℕ) → p < 24 * length packs
    → ((n i : ℕ) → n < whole_of_slots (length packs) → i < 24 → place n i ≢ p)
    → get_or (concat (run [] packs)) p 0 ≡ 0
spread_others packs idle p lt other =
    let k : ℕ = p / 24 in
    let q : ℕ = p % 24 in
    let here : p ≡ 24 * k + q = omega arith in
    let symbol : get_or (concat (run [] packs)) p 0 ≡ slot_symbol packs k q =
    ap (λ m. get_or (concat (run [] packs)) m 0) here
    ∙ spread_at packs k q (omega (arith, lt)) (omega arith) in
    symbol ∙ elim (cases_lt k (q % 8)) [
      | inl early ↦
          ap (λ t. cond t 0 (get_or (get_or packs (k - q % 8) []) (swapped q) 0)) (lt-ltb k (q % 8) early)
      | inr late ↦
          let n : ℕ = k - q % 8 in
          let from_pack : slot_symbol packs k q ≡ get_or (get_or packs n []) (swapped q) 0 =
          symbol_of_pack packs n k q (omega (arith, late)) in
          elim (cases_lt n (whole_of_slots (length packs))) [
            | inl whole ↦
                absurd (other n (swapped q) whole (swapped-lt q (omega arith)) (ap
                (λ (j : ℕ). 24 * (n + j % 8) + j) (swapped_back q (omega arith))
                ∙ omega (arith, here, late)))
            | inr last ↦
                from_pack
                ∙ ap (λ (s : List ℕ). get_or s (swapped q) 0) (idle n last (omega (arith, lt)))
                ∙ get_or-replicate 24 (swapped q) 0 0 (swapped-lt q (omega arith))
          ]
    ]

sized_concat : (f : ℕ → List ℕ) (a n : ℕ) → ((k : ℕ) → length (f k) ≡ 24)
    → length (concat (map f (range_with_len a n))) ≡ 24 * n
sized_concat f a zero size = refl
sized_concat f a (suc n) size =
    length-append (f a) (concat (map f (range_with_len (a + 1) n)))
    ∙ ap₂ (λ (m k : ℕ). m + k) (size a) (sized_concat f (a + 1) n size)
    ∙ omega arith

-- the slots have 24 symbols for each pack
spread_size : (packs : List (List ℕ)) → length (concat (run [] packs)) ≡ 24 * length packs
spread_size packs =
    ap (λ s. length (concat s)) (slots_are packs)
    ∙ sized_concat (slot_of packs) 0 (length packs)
    (λ k. length-map-range_with_len (slot_symbol packs k) 0 24)

pub carries : (blocks : ℕ) (packs : List (List ℕ)) → length packs ≡ whole_packs blocks → All IsCodeword packs
    → Carries blocks (concat (run [] (filled_with_idle (4 * blocks) packs))) packs
carries blocks packs count codewords =
    let idle : List (List ℕ) = replicate (4 * blocks - length packs) (replicate 24 0) in
    let all : List (List ℕ) = packs ++ idle in
    let size : length all ≡ 4 * blocks =
    length-append packs idle
    ∙ ap (λ n. length packs + n) (length-replicate (4 * blocks - length packs) (replicate 24 0))
    ∙ omega (arith, count) in
    let sized : All (λ pack. length pack ≡ 24) all =
    All-append (λ pack. length pack ≡ 24) packs idle (λ n d lt. (codewords n d lt).is_word.size)
    (All-replicate (λ pack. length pack ≡ 24) (4 * blocks - length packs) (replicate 24 0) refl) in
    record {
      size = spread_size all ∙ ap (λ n. 24 * n) size ∙ omega arith;
      count = count;
      codewords = codewords;
      words =
          λ n lt. spread_words all sized n (omega (arith, size))
          ∙ get_or_append_left packs idle [] n (omega (arith, count));
      others = λ p lt other.
          spread_others all
          (λ n from to. get_or-append_right packs idle (length packs) n [] (refl {a = length packs})
          (omega (arith, count, size))
          ∙ get_or-replicate (4 * blocks - length packs) (n - length packs) (replicate 24 0) []
          (omega (arith, count, size)))
          p (omega (arith, size)) (λ n i n_lt i_lt. other n i (omega (arith, size)) i_lt);
    }
