-- The words that end with the slots of a stream.
use Rattle.std.proofs.Common.{◌≡◌, ℕ, zero, suc, ◌+◌, ◌-◌, ◌*◌, ◌%◌, ◌<◌, ◌≤◌, List, [], ◌∷◌, ◌++◌, length, get_or, map, take, drop, refl, sym, ap, ap₂, ◌∙◌, arith, append-nil, length-append, length-drop, All, append_assoc}
use Rattle.std.specs.Prelude.{slice_index}
use Rattle.std.proofs.lemmas.Grind.{same_number_lists}
use Rattle.std.specs.List.{concat}
use Rattle.std.proofs.Math.Seq.{take-add}
use Rattle.std.proofs.lemmas.List.{length-map, map-append, length-take-le, get_or-append-add, take-map, get_or-take, get_or-drop, get_or-map}
use Rattle.std.proofs.lemmas.List.FromFn.{map-range_with_len_more, length-map-range_with_len, get_or-map-range_with_len}
use Rattle.std.proofs.lemmas.List.Folds.{concat-append}
use Rattle.bit_lists.specs.Counting.{below}
use Rattle.cdg_io.specs.Run.{run_state, run_gives}
use Rattle.cdg_io.proofs.Runs.{run_state-append, run_gives-append}
use Rattle.raw_subcode.specs.Channels.{symbols_of}
use Rattle.rw_interleave.specs.Interleave.{swapped, place, word_of, whole_of_slots}
use Rattle.rw_interleave.specs.Gathering.{gather_next, gather_gives}
use Rattle.rw_interleave.specs.Windows.{slot_in, slots_in}
use Rattle.rw_interleave.proofs.Ranges.{map_range}
use Rattle.rw_interleave.proofs.Places.{swapped-lt}
use Rattle.stream_trial.specs.Course.{stream_block, stream_slot, slots_before, gathered_before, words_with_stream_block}

-- the law about gatherers
abbrev pub GathersWords : Type 0
GathersWords = (slots : List (List ℕ)) → All (λ slot. length slot ≡ 24) slots
    → run_gives gather_next gather_gives [] slots ≡ map (word_of (concat slots))
    (below (whole_of_slots (length slots)))

slots_more : (bytes : List ℕ) (n : ℕ)
    → slots_before bytes (n + 1) ≡ slots_before bytes n ++ stream_slot bytes n ∷ []
slots_more bytes n = map-range_with_len_more (stream_slot bytes) 0 n n (omega arith)

length-slot_of : (bytes : List ℕ) (n : ℕ) → 24 * n + 24 ≤ length bytes → length (stream_slot bytes n) ≡ 24
unfolding stream_slot
length-slot_of bytes n fits =
    length-map (take 24 (drop (24 * n) bytes)) (λ (byte : ℕ). byte % 64)
    ∙ length-take-le 24 (drop (24 * n) bytes) (omega (arith, length-drop (24 * n) bytes))

slots_sized : (bytes : List ℕ) (n : ℕ) → 24 * n ≤ length bytes
    → All (λ slot. length slot ≡ 24) (slots_before bytes n)
slots_sized bytes n fits = λ k d lt.
    let within : k < n = omega (arith, lt, length-map-range_with_len (stream_slot bytes) 0 n) in
    ap (λ (s : List ℕ). length s)
    (get_or-map-range_with_len (stream_slot bytes) 0 n k k d within (omega arith))
    ∙ length-slot_of bytes k (omega arith)

-- they are the first symbols
slots_together : (bytes : List ℕ) (n : ℕ) → concat (slots_before bytes n) ≡ symbols_of (take (24 * n) bytes)
unfolding stream_slot
slots_together bytes zero = refl
slots_together bytes (suc n) =
    let next : suc n ≡ n + 1 = omega arith in
    let front : take (24 * suc n) bytes ≡ take (24 * n) bytes ++ take 24 (drop (24 * n) bytes) =
    ap (λ k. take k bytes) (omega arith) ∙ take-add (24 * n) 24 bytes in
    ap (λ k. concat (map (stream_slot bytes) (below k))) next
    ∙ ap concat (map-range_with_len_more (stream_slot bytes) 0 n n (omega arith))
    ∙ concat-append (map (stream_slot bytes) (below n)) (stream_slot bytes n ∷ [])
    ∙ ap₂ (λ x (y : List ℕ). x ++ y) (slots_together bytes n) (append-nil (stream_slot bytes n))
    ∙ sym (map-append (λ (byte : ℕ). byte % 64) (take (24 * n) bytes) (take 24 (drop (24 * n) bytes)))
    ∙ ap symbols_of (sym front)

-- the words of the first slots
words_before : GathersWords → (bytes : List ℕ) (n : ℕ) → 24 * n ≤ length bytes
    → run_gives gather_next gather_gives [] (slots_before bytes n) ≡ map
    (word_of (symbols_of (take (24 * n) bytes))) (below (n - 7))
words_before law bytes n fits =
    law (slots_before bytes n) (slots_sized bytes n fits)
    ∙ ap₂ (λ (s : List ℕ) (k : ℕ). map (word_of s) (below (k - 7))) (slots_together bytes n)
    (length-map-range_with_len (stream_slot bytes) 0 n)

-- a word that is whole in the first slots is the same word in all symbols
word_of_front : (bytes : List ℕ) (k n : ℕ) → k + 7 < n
    → word_of (symbols_of (take (24 * n) bytes)) k ≡ word_of (symbols_of bytes) k
unfolding word_of
word_of_front bytes k n last =
    map_range _ _ 0 24 (λ i from to.
    let small : swapped i < 24 = swapped-lt i to in
    let within : place k i < 24 * n = omega (arith, small, last) in
    ap (λ (s : List ℕ). get_or s (place k i) 0) (sym (take-map (λ (byte : ℕ). byte % 64) (24 * n) bytes))
    ∙ get_or-take (24 * n) (symbols_of bytes) (place k i) 0 within)

-- a slot of a block
slot_is : (bytes : List ℕ) (b k n : ℕ) → 96 * b + 96 ≤ length bytes → k < 4 → n ≡ 4 * b + k
    → slot_in (stream_block bytes b) k ≡ stream_slot bytes n
unfolding slot_in stream_slot
slot_is bytes b k n fits lt at =
    let front : List ℕ = take 24 (drop (24 * n) bytes) in
    let size : length front ≡ 24 =
    length-take-le 24 (drop (24 * n) bytes) (omega (arith, length-drop (24 * n) bytes)) in
    let sizes : length (map (λ i. slice_index (stream_block bytes b) (24 * k + i) % 64) (below 24)) ≡ 24 =
    length-map-range_with_len (λ i. slice_index (stream_block bytes b) (24 * k + i) % 64) 0 24 in
    same_number_lists _ _ (sizes ∙ sym (length-map front (λ (byte : ℕ). byte % 64) ∙ size)) (λ i i_lt.
    let within : i < 24 = omega (arith, i_lt, sizes) in
    let place : 96 * b + (24 * k + i) ≡ 24 * n + i = omega (arith, at) in
    let here : slice_index (stream_block bytes b) (24 * k + i) ≡ get_or bytes (24 * n + i) 0 =
    get_or-take 96 (drop (96 * b) bytes) (24 * k + i) 0 (omega arith)
    ∙ get_or-drop (96 * b) bytes (24 * k + i) 0 ∙ ap (λ p. get_or bytes p 0) place in
    get_or-map-range_with_len (λ i. slice_index (stream_block bytes b) (24 * k + i) % 64) 0 24 i i 0 within
    (omega arith)
    ∙ ap (λ x. x % 64) (here
    ∙ sym (get_or-take 24 (drop (24 * n) bytes) i 0 within ∙ get_or-drop (24 * n) bytes i 0))
    ∙ sym (get_or-map (λ (byte : ℕ). byte % 64) front i 0 0 (omega (arith, size))))

-- the slots of a block follow those before it
block_more : (bytes : List ℕ) (b : ℕ) → 96 * b + 96 ≤ length bytes
    → slots_before bytes (4 * (b + 1)) ≡ slots_before bytes (4 * b) ++ slots_in (stream_block bytes b) 0 4
unfolding slots_in
block_more bytes b fits =
    let n : ℕ = 4 * b in
    let s : ℕ → List ℕ = stream_slot bytes in
    let last : 4 * (b + 1) ≡ 4 * b + 1 + 1 + 1 + 1 = omega arith in
    let two = slots_more bytes (4 * b + 1)
    ∙ ap (λ (l : List (List ℕ)). l ++ s (4 * b + 1) ∷ []) (slots_more bytes (4 * b))
    ∙ append_assoc (slots_before bytes (4 * b)) (s (4 * b) ∷ []) (s (4 * b + 1) ∷ []) in
    let three = slots_more bytes (4 * b + 1 + 1) ∙ ap (λ (l : List (List ℕ)). l ++ s (4 * b + 1 + 1) ∷ []) two
    ∙ append_assoc (slots_before bytes (4 * b)) (s (4 * b) ∷ s (4 * b + 1) ∷ []) (s (4 * b + 1 + 1) ∷ []) in
    let four = slots_more bytes (4 * b + 1 + 1 + 1)
    ∙ ap (λ (l : List (List ℕ)). l ++ s (4 * b + 1 + 1 + 1) ∷ []) three
    ∙ append_assoc (slots_before bytes (4 * b)) (s (4 * b) ∷ s (4 * b + 1) ∷ s (4 * b + 1 + 1) ∷ [])
    (s (4 * b + 1 + 1 + 1) ∷ []) in
    ap (slots_before bytes) last ∙ four
    ∙ ap (λ (l : List (List ℕ)). slots_before bytes (4 * b) ++ l)
    (λ i. sym (slot_is bytes b 0 (4 * b) fits (omega arith) (omega arith)) i
    ∷ sym (slot_is bytes b 1 (4 * b + 1) fits (omega arith) (omega arith)) i
    ∷ sym (slot_is bytes b 2 (4 * b + 1 + 1) fits (omega arith) (omega arith)) i
    ∷ sym (slot_is bytes b 3 (4 * b + 1 + 1 + 1) fits (omega arith) (omega arith)) i ∷ [])

-- one more block
pub gathered_more : (bytes : List ℕ) (b : ℕ) → 96 * b + 96 ≤ length bytes
    → gathered_before bytes (b + 1) ≡ run_state gather_next (gathered_before bytes b)
    (slots_in (stream_block bytes b) 0 4)
gathered_more bytes b fits =
    ap (run_state gather_next []) (block_more bytes b fits)
    ∙ run_state-append gather_next [] (slots_before bytes (4 * b)) (slots_in (stream_block bytes b) 0 4)

-- the words that end with block b follow the words of the earlier blocks
words_more : GathersWords → (bytes : List ℕ) (b : ℕ) → 96 * b + 96 ≤ length bytes
    → map (word_of (symbols_of (take (24 * (4 * b)) bytes))) (below (4 * b - 7))
    ++ words_with_stream_block bytes b ≡ map (word_of (symbols_of (take (24 * (4 * (b + 1))) bytes)))
    (below (4 * (b + 1) - 7))
words_more law bytes b fits =
    ap (λ (l : List (List ℕ)). l ++ words_with_stream_block bytes b)
    (sym (words_before law bytes (4 * b) (omega arith)))
    ∙ sym (run_gives-append gather_next gather_gives [] (slots_before bytes (4 * b))
    (slots_in (stream_block bytes b) 0 4))
    ∙ ap (run_gives gather_next gather_gives []) (sym (block_more bytes b fits))
    ∙ words_before law bytes (4 * (b + 1)) (omega arith)

-- each slot except the first seven ends a word
pub length-given : GathersWords → (bytes : List ℕ) (b : ℕ) → 96 * b + 96 ≤ length bytes
    → 4 * b - 7 + length (words_with_stream_block bytes b) ≡ 4 * (b + 1) - 7
length-given law bytes b fits =
    let before : ℕ → List ℕ = word_of (symbols_of (take (24 * (4 * b)) bytes)) in
    let after : ℕ → List ℕ = word_of (symbols_of (take (24 * (4 * (b + 1))) bytes)) in
    let size : length (map before (below (4 * b - 7)) ++ words_with_stream_block bytes b) ≡ length
    (map after (below (4 * (b + 1) - 7))) = ap length (words_more law bytes b fits) in
    omega (
      arith,
      size,
      length-append (map before (below (4 * b - 7)))
          (words_with_stream_block bytes b),
      length-map-range_with_len before 0
          (4 * b - 7),
      length-map-range_with_len after 0 (4 * (b + 1) - 7),
    )

-- the words are in order
pub given_at : GathersWords → (bytes : List ℕ) (b j : ℕ) → 96 * b + 96 ≤ length bytes
    → j < length (words_with_stream_block bytes b)
    → get_or (words_with_stream_block bytes b) j [] ≡ word_of (symbols_of bytes) (4 * b - 7 + j)
given_at law bytes b j fits lt =
    let before : ℕ → List ℕ = word_of (symbols_of (take (24 * (4 * b)) bytes)) in
    let after : ℕ → List ℕ = word_of (symbols_of (take (24 * (4 * (b + 1))) bytes)) in
    let early : length (map before (below (4 * b - 7))) ≡ 4 * b - 7 =
    length-map-range_with_len before 0 (4 * b - 7) in
    let size = length-given law bytes b fits in
    let place_is : 4 * b - 7 + j ≡ length (map before (below (4 * b - 7))) + j = omega (arith, early) in
    sym (ap (λ p. get_or (map before (below (4 * b - 7)) ++ words_with_stream_block bytes b) p []) place_is
    ∙ get_or-append-add (map before (below (4 * b - 7))) (words_with_stream_block bytes b) j [])
    ∙ ap (λ (l : List (List ℕ)). get_or l (4 * b - 7 + j) []) (words_more law bytes b fits)
    ∙ get_or-map-range_with_len after 0 (4 * (b + 1) - 7) (4 * b - 7 + j) (4 * b - 7 + j) []
    (omega (arith, size, lt)) (omega arith)
    ∙ word_of_front bytes (4 * b - 7 + j) (4 * (b + 1)) (omega (arith, size, lt))
