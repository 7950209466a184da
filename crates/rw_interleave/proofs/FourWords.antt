-- Words as vectors of sixteen lanes, lane by lane.
use Rattle.std.proofs.Common.{◌≡◌, ℕ, ◌+◌, ◌-◌, ◌*◌, ◌/◌, ◌%◌, ◌<◌, ◌≤◌, ◌==◌, List, [], ◌∷◌, ◌++◌, length, get_or, map, min, take, drop, inl, inr, refl, sym, ap, ap₂, ◌∙◌, arith}
use Rattle.std.specs.Prelude.{if◌then◌else◌, slice_index}
use Rattle.std.specs.List.{range_with_len}
use Rattle.std.specs.Simd.Lanes.{chunk}
use Rattle.std.proofs.lemmas.Bool.{cases_lt}
use Rattle.std.proofs.lemmas.List.{drop_all, drop-append-le, get_or-append_right, get_or-drop, get_or-map, get_or-take, get_or_append_left, length-append, length-drop, length-map, length-take-le}
use Rattle.std.proofs.lemmas.Simd.{get_or-chunk, length-chunk, pick_l_whole}
use Rattle.bit_lists.specs.Counting.{below}
use Rattle.cdg_io.specs.Run.{run_gives}
use Rattle.rw_interleave.specs.Gathering.{gathered, gather_gives, gather_next}
use Rattle.rw_interleave.specs.Interleave.{swapped}
use Rattle.rw_interleave.specs.Windows.{four_in, sloping_in, slots_in}
use Rattle.rw_interleave.proofs.Ranges.{map_range}
use Rattle.rw_interleave.proofs.Windows.{block_gives, joined_put, none_in, slots_same, start, symbol_is, words_full, words_short}

-- a vector, lane by lane
pub by_lanes : (n : ℕ) (v : List ℕ) → length v ≡ n → v ≡ map (λ i. get_or v i 0) (range_with_len 0 n)
by_lanes n v size = sym (pick_l_whole 0 v n size)

-- two vectors, lane by lane
pub both_by_lanes : (n : ℕ) (v w : List ℕ) (f : List ℕ → List ℕ → List ℕ) → length v ≡ n → length w ≡ n
    → f v w
    ≡ f (map (λ i. get_or v i 0) (range_with_len 0 n)) (map (λ i. get_or w i 0) (range_with_len 0 n))
both_by_lanes n v w f size size' = ap₂ f (by_lanes n v size) (by_lanes n w size')

abbrev pub by_ones : List ℕ → List ℕ → List ℕ
by_ones even odd = map (λ i. slice_index (if i % 2 == 0 then even else odd) i) (below 16)

abbrev pub by_twos : List ℕ → List ℕ → List ℕ
by_twos even odd = map (λ i. slice_index (if i / 2 % 2 == 0 then even else odd) i) (below 16)

pub ones_shuffled : (even odd : List ℕ) → length even ≡ 16 → length odd ≡ 16
    → map (λ k. get_or (even ++ odd) k 0)
    (0 ∷ 17 ∷ 2 ∷ 19 ∷ 4 ∷ 21 ∷ 6 ∷ 23 ∷ 8 ∷ 25 ∷ 10 ∷ 27 ∷ 12 ∷ 29 ∷ 14 ∷ 31 ∷ []) ≡ by_ones even odd
ones_shuffled even odd size size' =
    both_by_lanes 16 even odd (λ v w. map (λ k. get_or (v ++ w) k 0)
    (0 ∷ 17 ∷ 2 ∷ 19 ∷ 4 ∷ 21 ∷ 6 ∷ 23 ∷ 8 ∷ 25 ∷ 10 ∷ 27 ∷ 12 ∷ 29 ∷ 14 ∷ 31 ∷ [])) size size'

pub twos_shuffled : (even odd : List ℕ) → length even ≡ 16 → length odd ≡ 16
    → map (λ k. get_or (even ++ odd) k 0)
    (0 ∷ 1 ∷ 18 ∷ 19 ∷ 4 ∷ 5 ∷ 22 ∷ 23 ∷ 8 ∷ 9 ∷ 26 ∷ 27 ∷ 12 ∷ 13 ∷ 30 ∷ 31 ∷ []) ≡ by_twos even odd
twos_shuffled even odd size size' =
    both_by_lanes 16 even odd (λ v w. map (λ k. get_or (v ++ w) k 0)
    (0 ∷ 1 ∷ 18 ∷ 19 ∷ 4 ∷ 5 ∷ 22 ∷ 23 ∷ 8 ∷ 9 ∷ 26 ∷ 27 ∷ 12 ∷ 13 ∷ 30 ∷ 31 ∷ [])) size size'

-- four bytes from a place of a part are four bytes of its row
pub four_of : (part row : List ℕ) (at from n : ℕ) → at + n ≤ length part → 4 ≤ n
    → ((k : ℕ) → k < 4 → slice_index row (from + k) ≡ slice_index part (at + k))
    → chunk 0 4 (take n (drop at part)) ≡ four_in row from
four_of part row at from n fits most same =
    let rest : List ℕ = take n (drop at part) in
    let size : length rest ≡ n = length-take-le n (drop at part) (omega (arith, fits, length-drop at part)) in
    by_lanes 4 (chunk 0 4 rest) (length-chunk 0 4 rest (omega (arith, size, most)))
    ∙ map_range (λ i. get_or (chunk 0 4 rest) i 0) (λ i. slice_index row (from + i)) 0 4
    (λ i _ lt.
    let place : at + (0 + i) ≡ at + i = omega arith in
    get_or-chunk 0 4 rest i 0 (omega (arith, lt))
    ∙ get_or-take n (drop at part) (0 + i) 0 (omega (arith, lt, most))
    ∙ get_or-drop at part (0 + i) 0
    ∙ ap (slice_index part) place
    ∙ sym (same i (omega (arith, lt))))

-- four bytes, each at the next position of the next slot
pub sloping_by : (b : List ℕ) (at : ℕ)
    → slice_index b (at + 0) ∷ slice_index b (at + 24 + 1) ∷ slice_index b (at + 48 + 2)
    ∷ slice_index b (at + 72 + 3) ∷ []
    ≡ sloping_in b at
sloping_by b at =
    let first : at + 24 + 1 ≡ at + 25 = omega arith in
    let second : at + 48 + 2 ≡ at + 50 = omega arith in
    let third : at + 72 + 3 ≡ at + 75 = omega arith in
    λ i. slice_index b (at + 0) ∷ slice_index b (first i) ∷ slice_index b (second i)
    ∷ slice_index b (third i) ∷ []

-- a word from its symbols at positions 0 to 7 and 16 to 23 of its slots, and from its other symbols
abbrev pub word_of_lanes : List ℕ → List ℕ → List ℕ
word_of_lanes outer middle =
    map (λ i. slice_index (take 8 outer ++ (take 8 middle ++ drop 8 outer)) (swapped i) % 64) (below 24)

-- the same symbols, exchanged
abbrev pub exchanged_lanes : List ℕ → List ℕ → List ℕ
exchanged_lanes outer middle = get_or (outer ++ outer) 0 0
    ∷ get_or (outer ++ outer) 10 0
    ∷ get_or (outer ++ outer) 5 0
    ∷ get_or (outer ++ outer) 15 0
    ∷ get_or (outer ++ outer) 4 0
    ∷ get_or (outer ++ outer) 2 0
    ∷ get_or (outer ++ outer) 6 0
    ∷ get_or (outer ++ outer) 7 0
    ∷ get_or (middle ++ middle) 0 0
    ∷ get_or (middle ++ middle) 1 0
    ∷ get_or (middle ++ middle) 2 0
    ∷ get_or (middle ++ middle) 3 0
    ∷ get_or (middle ++ middle) 4 0
    ∷ get_or (middle ++ middle) 5 0
    ∷ get_or (middle ++ middle) 6 0
    ∷ get_or (middle ++ middle) 7 0
    ∷ get_or (outer ++ outer) 8 0
    ∷ get_or (outer ++ outer) 9 0
    ∷ get_or (outer ++ outer) 1 0
    ∷ get_or (outer ++ outer) 11 0
    ∷ get_or (outer ++ outer) 12 0
    ∷ get_or (outer ++ outer) 13 0
    ∷ get_or (outer ++ outer) 14 0
    ∷ get_or (outer ++ outer) 3 0 ∷ []

pub low_lanes : (symbols : List ℕ) (k d : ℕ) → k < length (map (λ (x : ℕ). x % 64) symbols)
    → get_or (map (λ (x : ℕ). x % 64) symbols) k d < 64
low_lanes symbols k d lt =
    let low = get_or-map (λ (x : ℕ). x % 64) symbols k 0 d
    (omega (arith, lt, length-map symbols (λ (x : ℕ). x % 64))) in
    omega (arith, low)

pub lanes_exchanged : (outer middle : List ℕ) → length outer ≡ 16 → length middle ≡ 16
    → map (λ (x : ℕ). x % 64) (exchanged_lanes outer middle) ≡ word_of_lanes outer middle
unfolding swapped
lanes_exchanged outer middle size size' =
    both_by_lanes 16 outer middle (λ v w. map (λ (x : ℕ). x % 64) (exchanged_lanes v w)) size size'
    ∙ sym (both_by_lanes 16 outer middle word_of_lanes size size')

-- the symbols of a word at positions 0 to 7 and 16 to 23 of its slots
abbrev pub outer_in : List ℕ → ℕ → List ℕ
outer_in b at = sloping_in b at ++ (sloping_in b (at + 100)
    ++ (sloping_in b (at + 16) ++ sloping_in b (at + 116)))

pub word_is : (b : List ℕ) (j : ℕ)
    → word_of_lanes (outer_in b (24 * j)) (sloping_in b (24 * j + 8) ++ sloping_in b (24 * j + 108))
    ≡ gathered (slots_in b j 8)
unfolding gathered swapped
word_is b j = λ i. symbol_is b j 0 0 (24 * j + 0) refl (omega arith) (omega arith) i
    ∷ symbol_is b j 1 18 ((24 * j + 16) + 50) refl (omega arith) (omega arith) i
    ∷ symbol_is b j 2 5 ((24 * j + 100) + 25) refl (omega arith) (omega arith) i
    ∷ symbol_is b j 3 23 ((24 * j + 116) + 75) refl (omega arith) (omega arith) i
    ∷ symbol_is b j 4 4 ((24 * j + 100) + 0) refl (omega arith) (omega arith) i
    ∷ symbol_is b j 5 2 (24 * j + 50) refl (omega arith) (omega arith) i
    ∷ symbol_is b j 6 6 ((24 * j + 100) + 50) refl (omega arith) (omega arith) i
    ∷ symbol_is b j 7 7 ((24 * j + 100) + 75) refl (omega arith) (omega arith) i
    ∷ symbol_is b j 8 8 ((24 * j + 8) + 0) refl (omega arith) (omega arith) i
    ∷ symbol_is b j 9 9 ((24 * j + 8) + 25) refl (omega arith) (omega arith) i
    ∷ symbol_is b j 10 10 ((24 * j + 8) + 50) refl (omega arith) (omega arith) i
    ∷ symbol_is b j 11 11 ((24 * j + 8) + 75) refl (omega arith) (omega arith) i
    ∷ symbol_is b j 12 12 ((24 * j + 108) + 0) refl (omega arith) (omega arith) i
    ∷ symbol_is b j 13 13 ((24 * j + 108) + 25) refl (omega arith) (omega arith) i
    ∷ symbol_is b j 14 14 ((24 * j + 108) + 50) refl (omega arith) (omega arith) i
    ∷ symbol_is b j 15 15 ((24 * j + 108) + 75) refl (omega arith) (omega arith) i
    ∷ symbol_is b j 16 16 ((24 * j + 16) + 0) refl (omega arith) (omega arith) i
    ∷ symbol_is b j 17 17 ((24 * j + 16) + 25) refl (omega arith) (omega arith) i
    ∷ symbol_is b j 18 1 (24 * j + 25) refl (omega arith) (omega arith) i
    ∷ symbol_is b j 19 19 ((24 * j + 16) + 75) refl (omega arith) (omega arith) i
    ∷ symbol_is b j 20 20 ((24 * j + 116) + 0) refl (omega arith) (omega arith) i
    ∷ symbol_is b j 21 21 ((24 * j + 116) + 25) refl (omega arith) (omega arith) i
    ∷ symbol_is b j 22 22 ((24 * j + 116) + 50) refl (omega arith) (omega arith) i
    ∷ symbol_is b j 23 3 (24 * j + 75) refl (omega arith) (omega arith) i ∷ []

-- ---- A block whose bytes are used as its symbols.

raw_same : (early late block symbols : List ℕ) → length early ≡ 72 → length late ≡ 96
    → ((n : ℕ) → n < 96 → slice_index symbols n ≡ slice_index block n % 64) → (n : ℕ) → n < 264
    → slice_index (early ++ (late ++ block)) n % 64 ≡ slice_index (early ++ (late ++ symbols)) n % 64
raw_same early late block symbols early_size late_size low n within =
    elim (cases_lt n 72) [
      | inl first ↦
          ap (λ x. x % 64) (get_or_append_left early (late ++ block) 0 n (omega (arith, first, early_size))
          ∙ sym (get_or_append_left early (late ++ symbols) 0 n (omega (arith, first, early_size))))
      | inr later ↦
          let there : slice_index (early ++ (late ++ block)) n ≡ slice_index (late ++ block) (n - 72) =
          get_or-append_right early (late ++ block) 72 n 0 early_size later in
          let there' : slice_index (early ++ (late ++ symbols)) n ≡ slice_index (late ++ symbols) (n - 72) =
          get_or-append_right early (late ++ symbols) 72 n 0 early_size later in
          ap (λ x. x % 64) there
          ∙ elim (cases_lt (n - 72) 96) [
            | inl second ↦
                ap (λ x. x % 64) (get_or_append_left late block 0 (n - 72) (omega (arith, second, late_size))
                ∙ sym (get_or_append_left late symbols 0 (n - 72) (omega (arith, second, late_size))))
            | inr third ↦
                let old = get_or-append_right late block 96 (n - 72) 0 late_size third in
                let new = get_or-append_right late symbols 96 (n - 72) 0 late_size third in
                let least = low (n - 72 - 96) (omega (arith, within)) in
                omega (arith, old, new, least)
          ]
          ∙ sym (ap (λ x. x % 64) there')
    ]

-- ---- The words that end with a block, in a window with `count` slots.

-- one more slot
whole_more : (b : List ℕ) (count j : ℕ) (words : List (List ℕ)) → count ≤ 7 → length words ≡ j
    → drop (7 - count) words ≡ run_gives gather_next gather_gives (start b count) (slots_in b 7 j)
    → drop (7 - count) (words ++ gathered (slots_in b j 8) ∷ [])
    ≡ run_gives gather_next gather_gives (start b count) (slots_in b 7 (j + 1))
whole_more b count j words few size done =
    let word = gathered (slots_in b j 8) in
    elim (cases_lt (count + j) 7) [
      | inl short ↦
          let none : drop (7 - count) words ≡ [] = drop_all (7 - count) words (omega (arith, size, short)) in
          let still : drop (7 - count) (words ++ word ∷ []) ≡ [] =
          drop_all (7 - count) (words ++ word ∷ [])
          (omega (arith, size, short, length-append words (word ∷ []))) in
          words_short b count j _ few short (still ∙ sym none ∙ done)
      | inr full ↦
          words_full b count j (drop (7 - count) words) _ word few full done refl
          (drop-append-le (7 - count) words (word ∷ []) (omega (arith, size, full)))
    ]

-- the four words behind seven slots, without those whose slots are missing
whole_four : (b : List ℕ) (count : ℕ) → count ≤ 7
    → drop (7 - count) (map (λ j. gathered (slots_in b j 8)) (below 4))
    ≡ run_gives gather_next gather_gives (start b count) (slots_in b 7 4)
whole_four b count few =
    let word : ℕ → List ℕ = λ j. gathered (slots_in b j 8) in
    let no : List (List ℕ) = [] in
    let none : drop (7 - count) no ≡ run_gives gather_next gather_gives (start b count) (slots_in b 7 0) =
    drop_all (7 - count) no (omega arith)
    ∙ sym (ap (λ l. run_gives gather_next gather_gives (start b count) l) (none_in b 7)) in
    let one = whole_more b count 0 [] few refl none in
    let two = whole_more b count 1 (word 0 ∷ []) few refl one in
    let three = whole_more b count 2 (word 0 ∷ word 1 ∷ []) few refl two in
    whole_more b count 3 (word 0 ∷ word 1 ∷ word 2 ∷ []) few refl three

-- the words that end with a block
pub block_words : (early late block : List ℕ) (count : ℕ) (words four : List (List ℕ)) → length early ≡ 72
    → length late ≡ 96 → length block ≡ 96 → count ≤ 7
    → four ≡ map (λ first. gathered (slots_in (early ++ (late ++ block)) first 8)) (below 4)
    → words ≡ drop (min (7 - count) 4) four
    → words ≡ run_gives gather_next gather_gives (start (early ++ late) count) (slots_in block 0 4)
block_words early late block count words four early_size late_size block_size few is left =
    let symbols : List ℕ = map (λ (x : ℕ). x % 64) block in
    let raw : List ℕ = early ++ (late ++ block) in
    let row : List ℕ = early ++ (late ++ symbols) in
    let low : (n : ℕ) → n < 96 → slice_index symbols n ≡ slice_index block n % 64 =
    λ n lt. get_or-map (λ (x : ℕ). x % 64) block n 0 0 (omega (arith, lt, block_size)) in
    let same = raw_same early late block symbols early_size late_size low in
    let word : (j : ℕ) → j < 4 → gathered (slots_in raw j 8) ≡ gathered (slots_in row j 8) =
    λ j lt. ap gathered (slots_same raw row j j 8 (λ k lt'. same (24 * j + k) (omega (arith, lt, lt')))) in
    let zeroth = word 0 (omega arith) in
    let first = word 1 (omega arith) in
    let second = word 2 (omega arith) in
    let third = word 3 (omega arith) in
    let clean : four ≡ map (λ j. gathered (slots_in row j 8)) (below 4) =
    is ∙ (λ i. zeroth i ∷ first i ∷ second i ∷ third i ∷ []) in
    let all : words ≡ drop (7 - count) four =
    left
    ∙ elim (cases_lt 4 (7 - count)) [
      | inl short ↦
          let size = ap length is in
          drop_all (min (7 - count) 4) four (omega (arith, short, size))
          ∙ sym (drop_all (7 - count) four (omega (arith, short, size)))
      | inr full ↦ let most : min (7 - count) 4 ≡ 7 - count = omega (arith, full) in
          ap (λ n. drop n four) most
    ] in
    block_gives (early ++ late) row block count words few
    (joined_put early late symbols block early_size late_size low)
    (all ∙ ap (drop (7 - count)) clean ∙ whole_four row count few)
