-- The words that end with a block, and the window after it.
use Rattle.std.proofs.Common.{◌≡◌, ℕ, zero, suc, ◌+◌, ◌-◌, ◌*◌, ◌%◌, ◌<◌, ◌≤◌, Bool, true, false, List, [], ◌∷◌, ◌++◌, length, length-append, length-drop, ltb, map, min, take, drop, ltb, Fits, w64, refl, sym, subst, ap, ap₂, zero-add, ◌∙◌, arith, Some, None, inl, inr, bit_or}
use Rattle.std.specs.Prelude.{slice_index, replicate}
use Rattle.std.specs.declared.option.Option.{Option}
use Rattle.std.specs.List.{concat, range_with_len}
use Rattle.std.proofs.lemmas.Bool.{cases_lt, ltb-true}
use Rattle.std.proofs.lemmas.Nat.{or_mod, le_or_l, le_or_r}
use Rattle.std.proofs.lemmas.List.{append-nil, append_assoc, drop_all, drop-drop, get_or-append_right, get_or_append_left, get_or-drop, get_or-replicate, get_or-take, length-replicate, length-take-le, replicate-append-replicate, take-append-drop}
use Rattle.std.proofs.lemmas.Grind.{same_number_lists}
use Rattle.std.proofs.lemmas.List.Elements.{All-get_or}
use Rattle.std.proofs.lemmas.List.FromFn.{map-range_with_len_more, get_or-map-range_with_len, length-map-range_with_len}
use Rattle.rw_code.specs.Codeword.{IsWord}
use Rattle.cdg_io.specs.Run.{give, run_state, run_gives}
use Rattle.cdg_io.proofs.Runs.{run_state-append, run_gives-append}
use Rattle.rw_interleave.specs.Gathering.{gathered, gather_next, gather_gives, kept_symbols, symbol_at}
use Rattle.rw_interleave.specs.Interleave.{swapped}
use Rattle.rw_interleave.specs.Windows.{IsWindow, slot_in, slots_in}
use Rattle.rw_interleave.proofs.Gathers.{gather_short, gather_full}
use Rattle.rw_interleave.proofs.Ranges.{map_range}

-- ---- Slots one after another.

length-slots_in : (b : List ℕ) (f n : ℕ) → length (slots_in b f n) ≡ n
unfolding slots_in
length-slots_in b f zero = refl
length-slots_in b f (suc n) = ap suc (length-slots_in b (f + 1) n)

slots_more : (b : List ℕ) (f n k : ℕ) → f + n ≡ k → slots_in b f (n + 1) ≡ slots_in b f n ++ slot_in b k ∷ []
unfolding slots_in
slots_more b f n k at = map-range_with_len_more (slot_in b) f n k at

slots_first : (b : List ℕ) (f n : ℕ) → slots_in b f (suc n) ≡ slot_in b f ∷ slots_in b (f + 1) n
unfolding slots_in
slots_first b f n = refl

-- the slots of two lists are equal if their symbols are equal
pub slots_same : (b b' : List ℕ) (f g n : ℕ)
    → ((k : ℕ) → k < 24 * n → slice_index b (24 * f + k) % 64 ≡ slice_index b' (24 * g + k) % 64)
    → slots_in b f n ≡ slots_in b' g n
unfolding slots_in slot_in
slots_same b b' f g zero same = refl
slots_same b b' f g (suc n) same =
    let here : slot_in b f ≡ slot_in b' g =
    map_range (λ i. slice_index b (24 * f + i) % 64) (λ i. slice_index b' (24 * g + i) % 64) 0 24
    (λ i from to. same i (omega arith)) in
    let rest : slots_in b (f + 1) n ≡ slots_in b' (g + 1) n = slots_same b b' (f + 1) (g + 1) n (λ k lt.
    let left : 24 * (f + 1) + k ≡ 24 * f + (24 + k) = omega arith in
    let right : 24 * g + (24 + k) ≡ 24 * (g + 1) + k = omega arith in
    ap (λ n. slice_index b n % 64) left
    ∙ same (24 + k) (omega arith)
    ∙ ap (λ n. slice_index b' n % 64) right) in
    ap₂ (λ (x : List ℕ) (l : List (List ℕ)). x ∷ l) here rest

-- ---- A step.

-- the window after j slots of a block
abbrev pub window_at : List ℕ → ℕ → ℕ → List (List ℕ)
window_at b count j = slots_in b (7 + j - min (count + j) 7) (min (count + j) 7)

step_short : (b : List ℕ) (count j : ℕ) → count + j < 7
    → (gather_next (window_at b count j) (slot_in b (7 + j)) ≡ window_at b count (j + 1))
    × (gather_gives (window_at b count j) (slot_in b (7 + j)) ≡ None)
step_short b count j lt =
    let now : min (count + j) 7 ≡ count + j = omega arith in
    let later : min (count + (j + 1)) 7 ≡ count + j + 1 = omega arith in
    let first : 7 + (j + 1) - (count + j + 1) ≡ 7 + j - (count + j) = omega arith in
    let (next, gives) =
    gather_short (window_at b count j) (slot_in b (7 + j))
    (omega (arith, length-slots_in b (7 + j - min (count + j) 7) (min (count + j) 7))) in (
      next
          ∙ ap (λ m. slots_in b (7 + j - m) m ++ slot_in b (7 + j) ∷ []) now
          ∙ sym (slots_more b (7 + j - (count + j)) (count + j) (7 + j) (omega arith))
          ∙ ap (λ f. slots_in b f (count + j + 1)) (sym first)
          ∙ ap (λ m. slots_in b (7 + (j + 1) - m) m) (sym later),
      gives,
    )

step_full : (b : List ℕ) (count j : ℕ) → 7 ≤ count + j
    → (gather_next (window_at b count j) (slot_in b (7 + j)) ≡ window_at b count (j + 1))
    × (gather_gives (window_at b count j) (slot_in b (7 + j)) ≡ Some (gathered (slots_in b j 8)))
step_full b count j ge =
    let now : min (count + j) 7 ≡ 7 = omega arith in
    let later : min (count + (j + 1)) 7 ≡ 7 = omega arith in
    let first : 7 + j - 7 ≡ j = omega arith in
    let second : 7 + (j + 1) - 7 ≡ j + 1 = omega arith in
    let window : window_at b count j ≡ slot_in b j ∷ slots_in b (j + 1) 6 =
    ap (λ m. slots_in b (7 + j - m) m) now ∙ ap (λ f. slots_in b f 7) first ∙ slots_first b j 6 in
    let last : slots_in b (j + 1) 7 ≡ slots_in b (j + 1) 6 ++ slot_in b (7 + j) ∷ [] =
    slots_more b (j + 1) 6 (7 + j) (omega arith) in
    let (next, gives) =
    gather_full (slot_in b j) (slots_in b (j + 1) 6) (slot_in b (7 + j)) (length-slots_in b (j + 1) 6) in (
      ap (λ w. gather_next w (slot_in b (7 + j))) window
          ∙ next
          ∙ sym last
          ∙ ap (λ f. slots_in b f 7) (sym second)
          ∙ ap (λ m. slots_in b (7 + (j + 1) - m) m) (sym later),
      ap (λ w. gather_gives w (slot_in b (7 + j))) window
          ∙ gives
          ∙ ap (λ (l : List (List ℕ)). Some (gathered (slot_in b j ∷ l))) (sym last)
          ∙ ap (λ (l : List (List ℕ)). Some (gathered l)) (sym (slots_first b j 7)),
    )

step_next : (b : List ℕ) (count j : ℕ)
    → gather_next (window_at b count j) (slot_in b (7 + j)) ≡ window_at b count (j + 1)
step_next b count j =
    elim (cases_lt (count + j) 7) [
      | inl lt ↦ (step_short b count j lt).0
      | inr ge ↦ (step_full b count j ge).0
    ]

-- ---- A block.

pub none_in : (b : List ℕ) (f : ℕ) → slots_in b f 0 ≡ []
unfolding slots_in
none_in b f = refl

abbrev pub start : List ℕ → ℕ → List (List ℕ)
start b count = slots_in b (7 - count) count

pub state_after : (b : List ℕ) (count j : ℕ) → count ≤ 7
    → run_state gather_next (start b count) (slots_in b 7 j) ≡ window_at b count j
state_after b count zero few =
    let now : min (count + 0) 7 ≡ count = omega arith in
    let first : 7 + 0 - count ≡ 7 - count = omega arith in
    ap (λ l. run_state gather_next (start b count) l) (none_in b 7)
    ∙ ap (λ f. slots_in b f count) (sym first)
    ∙ ap (λ m. slots_in b (7 + 0 - m) m) (sym now)
state_after b count (suc j) few =
    let more : suc j ≡ j + 1 = omega arith in
    ap (λ n. run_state gather_next (start b count) (slots_in b 7 n)) more
    ∙ ap (run_state gather_next (start b count)) (slots_more b 7 j (7 + j) refl)
    ∙ run_state-append gather_next (start b count) (slots_in b 7 j) (slot_in b (7 + j) ∷ [])
    ∙ ap (λ w. gather_next w (slot_in b (7 + j))) (state_after b count j few)
    ∙ step_next b count j ∙ ap (window_at b count) (sym more)

given_more : (b : List ℕ) (count j : ℕ) → count ≤ 7
    → run_gives gather_next gather_gives (start b count) (slots_in b 7 (j + 1))
    ≡ run_gives gather_next gather_gives (start b count) (slots_in b 7 j)
    ++ give (gather_gives (window_at b count j) (slot_in b (7 + j))) []
given_more b count j few =
    ap (run_gives gather_next gather_gives (start b count)) (slots_more b 7 j (7 + j) refl)
    ∙ run_gives-append gather_next gather_gives (start b count) (slots_in b 7 j) (slot_in b (7 + j) ∷ [])
    ∙ ap (λ w. run_gives gather_next gather_gives (start b count) (slots_in b 7 j)
    ++ give (gather_gives w (slot_in b (7 + j))) []) (state_after b count j few)

pub words_short : (b : List ℕ) (count j : ℕ) (words : List (List ℕ)) → count ≤ 7 → count + j < 7
    → words ≡ run_gives gather_next gather_gives (start b count) (slots_in b 7 j)
    → words ≡ run_gives gather_next gather_gives (start b count) (slots_in b 7 (j + 1))
words_short b count j words few lt done =
    done ∙ sym (append-nil (run_gives gather_next gather_gives (start b count) (slots_in b 7 j)))
    ∙ ap (λ (o : Option (List ℕ)).
    run_gives gather_next gather_gives (start b count) (slots_in b 7 j) ++ give o [])
    (sym (step_short b count j lt).1)
    ∙ sym (given_more b count j few)

pub words_full : (b : List ℕ) (count j : ℕ) (words words' : List (List ℕ)) (word : List ℕ) → count ≤ 7
    → 7 ≤ count + j → words ≡ run_gives gather_next gather_gives (start b count) (slots_in b 7 j)
    → word ≡ gathered (slots_in b j 8) → words' ≡ words ++ word ∷ []
    → words' ≡ run_gives gather_next gather_gives (start b count) (slots_in b 7 (j + 1))
words_full b count j words words' word few ge done is add =
    add ∙ ap₂ (λ (l : List (List ℕ)) (w : List ℕ). l ++ w ∷ []) done is
    ∙ ap (λ (o : Option (List ℕ)).
    run_gives gather_next gather_gives (start b count) (slots_in b 7 j) ++ give o [])
    (sym (step_full b count j ge).1)
    ∙ sym (given_more b count j few)

-- ---- A word.

symbol_in : (b : List ℕ) (j p : ℕ) → p < 24
    → symbol_at (slots_in b j 8) p ≡ slice_index b (24 * (j + p % 8) + p) % 64
unfolding slots_in slot_in
symbol_in b j p lt =
    ap (λ (l : List ℕ). slice_index l p)
    (get_or-map-range_with_len (slot_in b) j 8 (p % 8) (j + p % 8) [] (omega arith) refl)
    ∙ get_or-map-range_with_len (λ i. slice_index b (24 * (j + p % 8) + i) % 64) 0 24 p p 0 lt (omega arith)

pub symbol_is : (b : List ℕ) (j i p x : ℕ) → swapped i ≡ p → p < 24 → 24 * j + (24 * (p % 8) + p) ≡ x
    → slice_index b x % 64 ≡ symbol_at (slots_in b j 8) (swapped i)
symbol_is b j i p x at lt place =
    let there : x ≡ 24 * (j + p % 8) + p = omega (arith, place) in
    ap (λ k. slice_index b k % 64) there ∙ sym (symbol_in b j p lt) ∙ ap (symbol_at (slots_in b j 8)) (sym at)

-- the symbol that is d bytes after the first byte of slot j, one of the four slots that begin a word
pub place_fits : (j d : ℕ) → j < 4 → ltb d 192 ≡ true → Fits w64 (24 * j + d)
place_fits j d first few = omega (arith, first, ltb-true d 192 few)

pub place_within : (j d : ℕ) → j < 4 → ltb d 192 ≡ true → 24 * j + d < 264
place_within j d first few = omega (arith, first, ltb-true d 192 few)

pub symbol_small : (b : List ℕ) (j d x symbol : ℕ) → ((n : ℕ) → n < 264 → slice_index b n < 64) → j < 4
    → symbol ≡ slice_index b x → 24 * j + d ≡ x → ltb d 192 ≡ true → symbol < 64
symbol_small b j d x symbol small first is place few =
    subst (λ s. s < 64) (sym is) (small x (subst (λ n. n < 264) place (place_within j d first few)))

pub symbol_at_place : (b : List ℕ) (j i p d x symbol : ℕ) → ((n : ℕ) → n < 264 → slice_index b n < 64)
    → j < 4 → symbol ≡ slice_index b x → 24 * j + d ≡ x → ltb d 192 ≡ true → swapped i ≡ p → ltb p 24 ≡ true
    → 24 * (p % 8) + p ≡ d → symbol ≡ symbol_at (slots_in b j 8) (swapped i)
symbol_at_place b j i p d x symbol small first is there few at in_slot place =
    let below : symbol < 64 = symbol_small b j d x symbol small first is there few in
    let low : symbol ≡ symbol % 64 = omega (arith, below) in
    low ∙ ap (λ s. s % 64) is
    ∙ symbol_is b j i p x at (ltb-true p 24 in_slot) (ap (λ n. 24 * j + n) place ∙ there)

-- ---- Zeros.

zero_slot : (b : List ℕ) (k : ℕ) → ((i : ℕ) → i < 24 → slice_index b (24 * k + i) % 64 ≡ 0)
    → slot_in b k ≡ replicate 24 0
unfolding slot_in
zero_slot b k zeros =
    map_range (λ i. slice_index b (24 * k + i) % 64) (λ i. 0) 0 24 (λ i from to. zeros i (omega arith))

zero_slots : (b : List ℕ) (f n : ℕ) → ((i : ℕ) → 24 * f ≤ i → i < 24 * (f + n) → slice_index b i % 64 ≡ 0)
    → slots_in b f n ≡ replicate n (replicate 24 0)
unfolding slots_in
zero_slots b f zero zeros = refl
zero_slots b f (suc n) zeros =
    ap₂ (λ (x : List ℕ) (l : List (List ℕ)). x ∷ l)
    (zero_slot b f (λ i lt. zeros (24 * f + i) (omega arith) (omega arith)))
    (zero_slots b (f + 1) n (λ i from to. zeros i (omega arith) (omega arith)))

quiet_state : run_state gather_next (replicate 7 (replicate 24 0)) (replicate 4 (replicate 24 0))
    ≡ replicate 7 (replicate 24 0)
unfolding gather_next
quiet_state = refl

quiet_gives : run_gives gather_next gather_gives (replicate 7 (replicate 24 0)) (replicate 4 (replicate 24 0))
    ≡ replicate 4 (replicate 24 0)
unfolding gather_next gather_gives gathered swapped
quiet_gives = refl

-- a window of seven slots of zeros is unchanged after a block of zeros, with which four words of zeros end
pub quiet_block : (b block : List ℕ) → ((n : ℕ) → n < 168 → slice_index b n % 64 ≡ 0)
    → ((n : ℕ) → n < 96 → slice_index block n % 64 ≡ 0)
    → (slots_in b 0 7 ≡ run_state gather_next (slots_in b 0 7) (slots_in block 0 4))
    × (replicate 4 (replicate 24 0)
    ≡ run_gives gather_next gather_gives (slots_in b 0 7) (slots_in block 0 4))
quiet_block b block old new =
    let window = zero_slots b 0 7 (λ i from to. old i (omega arith)) in
    let slots = zero_slots block 0 4 (λ i from to. new i (omega arith)) in (
      window ∙ sym (ap₂ (run_state gather_next) window slots ∙ quiet_state),
      sym (ap₂ (run_gives gather_next gather_gives) window slots ∙ quiet_gives),
    )

-- ---- Bits.

pub or_zeros : (a b : ℕ) → bit_or a b % 64 ≡ 0 → (a % 64 ≡ 0) × (b % 64 ≡ 0)
or_zeros a b none =
    let both : bit_or (a % 64) (b % 64) ≡ 0 = sym (or_mod a b 6) ∙ none in
    let left = le_or_l (a % 64) (b % 64) in
    let right = le_or_r (a % 64) (b % 64) in
    (omega (arith, both, left), omega (arith, both, right))

-- ---- A block that is put behind the earlier slots, which are then moved up.

-- The earlier slots are unchanged, and the block follows them.
pub record IsPut (b p block : List ℕ) : Type 0 where
  pub before : (n : ℕ) → n < 168 → slice_index p n ≡ slice_index b n
  pub after : (n : ℕ) → n < 96 → slice_index p (168 + n) ≡ slice_index block n % 64

start_same : (b p block : List ℕ) (count : ℕ) → count ≤ 7 → IsPut b p block → start b count ≡ start p count
start_same b p block count few put =
    slots_same b p (7 - count) (7 - count) count
    (λ k lt. ap (λ x. x % 64) (sym (put.before (24 * (7 - count) + k) (omega arith))))

block_same : (b p block : List ℕ) → IsPut b p block → slots_in block 0 4 ≡ slots_in p 7 4
block_same b p block put = slots_same block p 0 7 4 (λ k lt.
    let put_there = put.after k (omega arith) in
    ap (λ n. slice_index block n % 64) (zero-add k) ∙ omega (arith, put_there))

pub block_state : (b p m block : List ℕ) (count : ℕ) → count ≤ 7 → IsPut b p block
    → ((n : ℕ) → n < 168 → slice_index m n ≡ slice_index p (96 + n))
    → start m (min (count + 4) 7) ≡ run_state gather_next (start b count) (slots_in block 0 4)
block_state b p m block count few put moved =
    let now = min (count + 4) 7 in
    let back : start m now ≡ slots_in p (7 + 4 - now) now =
    slots_same m p (7 - now) (7 + 4 - now) now (λ k lt.
    let there : 96 + (24 * (7 - now) + k) ≡ 24 * (7 + 4 - now) + k = omega arith in
    ap (λ x. x % 64) (moved (24 * (7 - now) + k) (omega arith) ∙ ap (slice_index p) there)) in
    back
    ∙ sym (state_after p count 4 few)
    ∙ sym (ap₂ (run_state gather_next) (start_same b p block count few put) (block_same b p block put))

pub block_gives : (b p block : List ℕ) (count : ℕ) (words : List (List ℕ)) → count ≤ 7 → IsPut b p block
    → words ≡ run_gives gather_next gather_gives (start p count) (slots_in p 7 4)
    → words ≡ run_gives gather_next gather_gives (start b count) (slots_in block 0 4)
block_gives b p block count words few put is =
    is
    ∙ sym
    (ap₂ (run_gives gather_next gather_gives) (start_same b p block count few put) (block_same b p block put))

pub put_symbols : (b p block : List ℕ) → ((n : ℕ) → n < 168 → slice_index b n < 64) → IsPut b p block
    → (n : ℕ) → n < 264
    → slice_index p n < 64
put_symbols b p block small put n within =
    elim (cases_lt n 168) [
      | inl before ↦ let there = small n before in
          let same = put.before n before in
          omega (arith, there, same)
      | inr after ↦
          let there = put.after (n - 168) (omega arith) in
          let at : slice_index p (168 + (n - 168)) ≡ slice_index p n = ap (slice_index p) (omega arith) in
          omega (arith, there, at)
    ]

pub moved_symbols : (p m : List ℕ) → ((n : ℕ) → n < 264 → slice_index p n < 64)
    → ((n : ℕ) → n < 168 → slice_index m n ≡ slice_index p (96 + n))
    → (n : ℕ) → n < 168 → slice_index m n < 64
moved_symbols p m small moved n within = let there = small (96 + n) (omega arith) in
    let same = moved n within in
    omega (arith, there, same)

-- ---- The last seven slots as two lists, of three slots and of four.

-- if both are parts of a row, so are they together
pub joined_at : (early late row : List ℕ) (at : ℕ) → length early ≡ 72
    → ((n : ℕ) → n < 72 → slice_index early n ≡ slice_index row (at + n))
    → ((n : ℕ) → n < 96 → slice_index late n ≡ slice_index row (at + 72 + n))
    → (n : ℕ) → n < 168 → slice_index (early ++ late) n ≡ slice_index row (at + n)
joined_at early late row at size first second n within =
    elim (cases_lt n 72) [
      | inl lt ↦ get_or_append_left early late 0 n (omega (arith, lt, size)) ∙ first n lt
      | inr ge ↦
          let place : at + 72 + (n - 72) ≡ at + n = omega (arith, ge) in
          get_or-append_right early late 72 n 0 size ge
          ∙ second (n - 72) (omega (arith, ge, within))
          ∙ ap (slice_index row) place
    ]

-- and a block is put behind them
pub joined_put : (early late symbols block : List ℕ) → length early ≡ 72 → length late ≡ 96
    → ((n : ℕ) → n < 96 → slice_index symbols n ≡ slice_index block n % 64)
    → IsPut (early ++ late) (early ++ (late ++ symbols)) block
joined_put early late symbols block early_size late_size same =
    let size : length (early ++ late) ≡ 168 =
    omega (arith, length-append early late, early_size, late_size) in
    let together : early ++ (late ++ symbols) ≡ (early ++ late) ++ symbols =
    sym (append_assoc early late symbols) in
    record {
      before =
          λ n lt. ap (λ (l : List ℕ). slice_index l n) together
          ∙ get_or_append_left (early ++ late) symbols 0 n (omega (arith, lt, size));
      after = λ n lt.
          let place : 168 + n - 168 ≡ n = omega arith in
          ap (λ (l : List ℕ). slice_index l (168 + n)) together
          ∙ get_or-append_right (early ++ late) symbols 168 (168 + n) 0 size (omega arith)
          ∙ ap (slice_index symbols) place
          ∙ same n lt;
    }

-- the last three of the four slots and the block are the new last seven slots
pub joined_moved : (early late three symbols : List ℕ) → length early ≡ 72 → length late ≡ 96
    → length three ≡ 72 → ((n : ℕ) → n < 72 → slice_index three n ≡ slice_index late (24 + n)) → (n : ℕ)
    → n < 168
    → slice_index (three ++ symbols) n ≡ slice_index (early ++ (late ++ symbols)) (96 + n)
joined_moved early late three symbols early_size late_size three_size same =
    let size : length (early ++ late) ≡ 168 =
    omega (arith, length-append early late, early_size, late_size) in
    let together : (early ++ late) ++ symbols ≡ early ++ (late ++ symbols) =
    append_assoc early late symbols in
    joined_at three symbols (early ++ (late ++ symbols)) 96 three_size
    (λ n lt.
    let place : 96 + n - 72 ≡ 24 + n = omega arith in
    same n lt
    ∙ sym (sym (ap (λ (l : List ℕ). slice_index l (96 + n)) together)
    ∙ get_or_append_left (early ++ late) symbols 0 (96 + n) (omega (arith, lt, size))
    ∙ get_or-append_right early late 72 (96 + n) 0 early_size (omega arith)
    ∙ ap (slice_index late) place))
    (λ n lt.
    let place : 96 + 72 + n - 168 ≡ n = omega arith in
    sym (sym (ap (λ (l : List ℕ). slice_index l (96 + 72 + n)) together)
    ∙ get_or-append_right (early ++ late) symbols 168 (96 + 72 + n) 0 size (omega arith)
    ∙ ap (slice_index symbols) place))

-- if both are zeros, so are they together
pub joined_zeros : (early late : List ℕ) → length early ≡ 72
    → ((n : ℕ) → n < 72 → slice_index early n % 64 ≡ 0) → ((n : ℕ) → n < 96 → slice_index late n % 64 ≡ 0)
    → (n : ℕ) → n < 168
    → slice_index (early ++ late) n % 64 ≡ 0
joined_zeros early late size first second n within =
    elim (cases_lt n 72) [
      | inl lt ↦ ap (λ x. x % 64) (get_or_append_left early late 0 n (omega (arith, lt, size))) ∙ first n lt
      | inr ge ↦
          ap (λ x. x % 64) (get_or-append_right early late 72 n 0 size ge)
          ∙ second (n - 72) (omega (arith, ge, within))
    ]

-- ---- Their symbols.

slot_bytes : (b : List ℕ) (k : ℕ) → 24 * k + 24 ≤ length b → ((n : ℕ) → n < length b → slice_index b n < 64)
    → slot_in b k ≡ take 24 (drop (24 * k) b)
unfolding slot_in
slot_bytes b k fits small =
    let size : length (map (λ i. slice_index b (24 * k + i) % 64) (range_with_len 0 24)) ≡ 24 =
    length-map-range_with_len (λ i. slice_index b (24 * k + i) % 64) 0 24 in
    let other : length (take 24 (drop (24 * k) b)) ≡ 24 =
    length-take-le 24 (drop (24 * k) b) (omega (arith, fits, length-drop (24 * k) b)) in
    same_number_lists _ (take 24 (drop (24 * k) b)) (size ∙ sym other) (λ i lt.
    let within : i < 24 = omega (arith, lt, size) in
    let below : slice_index b (24 * k + i) < 64 = small (24 * k + i) (omega (arith, fits, within)) in
    let low : slice_index b (24 * k + i) % 64 ≡ slice_index b (24 * k + i) = omega (arith, below) in
    get_or-map-range_with_len (λ i. slice_index b (24 * k + i) % 64) 0 24 i i 0 within (omega arith)
    ∙ low
    ∙ sym (get_or-take 24 (drop (24 * k) b) i 0 within ∙ get_or-drop (24 * k) b i 0))

slots_rest : (b : List ℕ) (f n : ℕ) → 24 * (f + n) ≡ length b
    → ((n : ℕ) → n < length b → slice_index b n < 64)
    → concat (slots_in b f n) ≡ drop (24 * f) b
unfolding slots_in
slots_rest b f zero size small = sym (drop_all (24 * f) b (omega (arith, size)))
slots_rest b f (suc n) size small =
    let place : 24 * f + 24 ≡ 24 * (f + 1) = omega arith in
    let rest : drop (24 * (f + 1)) b ≡ drop 24 (drop (24 * f) b) =
    sym (drop-drop 24 (24 * f) b ∙ ap (λ k. drop k b) place) in
    ap₂ (λ (x y : List ℕ). x ++ y) (slot_bytes b f (omega (arith, size)) small)
    (slots_rest b (f + 1) n (omega (arith, size)) small ∙ rest)
    ∙ take-append-drop 24 (drop (24 * f) b)

-- zeros, and then the symbols of the slots that have come
pub kept_in : (b : List ℕ) (count : ℕ) (quiet : Bool) → IsWindow b count quiet
    → replicate (24 * (7 - count)) 0 ++ drop (24 * (7 - count)) b ≡ kept_symbols (start b count)
kept_in b count quiet w =
    let few = w.few in
    ap₂ (λ k (l : List ℕ). replicate (24 * (7 - k)) 0 ++ l) (sym (length-slots_in b (7 - count) count))
    (sym (slots_rest b (7 - count) count (omega (arith, few, w.size))
    (λ n lt. w.symbols n (omega (arith, lt, w.size)))))

-- a list that begins with zeros and continues with the slots
pub padded : (b p symbols : List ℕ) (first : ℕ) → first ≤ 168 → length b ≡ 168 → length symbols ≡ 168
    → ((n : ℕ) → n < 168 → slice_index p n ≡ slice_index b n)
    → ((n : ℕ) → n < first → slice_index symbols n ≡ 0)
    → ((n : ℕ) → first ≤ n → n < 168 → slice_index symbols n ≡ slice_index p n)
    → symbols ≡ replicate first 0 ++ drop first b
padded b p symbols first most size count before zeros rest =
    let whole : length (replicate first 0 ++ drop first b) ≡ 168 = omega (
      arith,
      length-append (replicate {A = ℕ} first 0) (drop first b),
      length-replicate {A = ℕ},
      length-drop first b,
      size,
      most,
    ) in
    same_number_lists symbols (replicate first 0 ++ drop first b) (count ∙ sym whole) (λ n lt.
    let within : n < 168 = omega (arith, lt, count) in
    elim (cases_lt n first) [
      | inl early ↦
          zeros n early
          ∙ sym (get_or_append_left (replicate first 0) (drop first b) 0 n
          (omega (arith, early, within, length-replicate {A = ℕ}))
          ∙ get_or-replicate {A = ℕ} first n 0 0 (omega (arith, early, within)))
      | inr late ↦
          let place : first + (n - first) ≡ n = omega (arith, late, within) in
          rest n late within
          ∙ before n within
          ∙ sym (get_or-append_right (replicate first 0) (drop first b) first n 0
          (length-replicate {A = ℕ} first 0) (omega (arith, late))
          ∙ get_or-drop first b (n - first) 0
          ∙ ap (slice_index b) place)
    ])

-- ---- The word that ends with a slot.

pub none_given : (b : List ℕ) (count : ℕ) → count < 7 → gather_gives (start b count) (slot_in b 7) ≡ None
none_given b count lt =
    let none : min (count + 0) 7 ≡ count = omega (arith, lt) in
    ap (λ m. gather_gives (slots_in b (7 - m) m) (slot_in b 7)) (sym none)
    ∙ (step_short b count 0 (omega (arith, lt))).1

pub one_given : (b : List ℕ) (count : ℕ) → count ≡ 7
    → gather_gives (start b count) (slot_in b 7) ≡ Some (gathered (slots_in b 0 8))
one_given b count full =
    let none : min (count + 0) 7 ≡ count = omega (arith, full) in
    ap (λ m. gather_gives (slots_in b (7 - m) m) (slot_in b 7)) (sym none)
    ∙ (step_full b count 0 (omega (arith, full))).1

-- ---- A slot that is put behind the earlier slots, which are then moved up.

pub slot_symbols : (b p m slot : List ℕ) → ((n : ℕ) → n < 168 → slice_index b n < 64) → IsWord slot
    → ((n : ℕ) → n < 168 → slice_index p n ≡ slice_index b n)
    → ((n : ℕ) → n < 24 → slice_index p (168 + n) ≡ slice_index slot n)
    → ((n : ℕ) → n < 168 → slice_index m n ≡ slice_index p (24 + n))
    → (n : ℕ) → n < 168 → slice_index m n < 64
slot_symbols b p m slot small word before after moved n within =
    let here = moved n within in
    elim (cases_lt n 144) [
      | inl old ↦ let there = small (24 + n) (omega arith) in
          let same = before (24 + n) (omega arith) in
          omega (arith, here, there, same)
      | inr new ↦
          let there = after (n - 144) (omega arith) in
          let at : slice_index p (168 + (n - 144)) ≡ slice_index p (24 + n) =
          ap (slice_index p) (omega arith) in
          let low : slice_index slot (n - 144) < 64 =
          All-get_or (λ s. s < 64) slot (n - 144) 0 (omega (arith, word.size)) word.symbols in
          omega (arith, here, there, at, low)
    ]

-- putting a slot is putting a block that begins with it
pub alone_put : (p block slot : List ℕ) → IsWord slot
    → ((n : ℕ) → n < 96 → slice_index p (168 + n) ≡ slice_index block n % 64)
    → ((n : ℕ) → n < 24 → slice_index block n ≡ slice_index slot n)
    → (n : ℕ) → n < 24 → slice_index p (168 + n) ≡ slice_index slot n
alone_put p block slot word put same n lt =
    let small : slice_index slot n < 64 =
    All-get_or (λ s. s < 64) slot n 0 (omega (arith, word.size, lt)) word.symbols in
    let there = put n (omega (arith, lt)) in
    omega (arith, small, there, same n lt)

-- a symbol that is put is equal to its low six bits
low_same : (p slot : List ℕ) (i : ℕ) → IsWord slot → i < 24 → slice_index p (168 + i) ≡ slice_index slot i
    → slice_index p (24 * 7 + i) % 64 ≡ slice_index slot i
low_same p slot i word lt same =
    let small : slice_index slot i < 64 =
    All-get_or (λ s. s < 64) slot i 0 (omega (arith, word.size)) word.symbols in
    let low : slice_index slot i % 64 ≡ slice_index slot i = omega (arith, small) in
    ap (λ x. x % 64) same ∙ low

-- the slot that is put
slot_same : (p slot : List ℕ) → IsWord slot
    → ((n : ℕ) → n < 24 → slice_index p (168 + n) ≡ slice_index slot n)
    → slot_in p 7 ≡ slot
unfolding slot_in
slot_same p slot word after =
    let size : length (map (λ i. slice_index p (24 * 7 + i) % 64) (range_with_len 0 24)) ≡ 24 =
    length-map-range_with_len (λ i. slice_index p (24 * 7 + i) % 64) 0 24 in
    same_number_lists _ slot (size ∙ sym word.size) (λ i lt.
    let within : i < 24 = omega (arith, lt, size) in
    get_or-map-range_with_len (λ i. slice_index p (24 * 7 + i) % 64) 0 24 i i 0 within (omega arith)
    ∙ low_same p slot i word within (after i within))

pub slot_gives : (b p slot : List ℕ) (count : ℕ) → count ≤ 7 → IsWord slot
    → ((n : ℕ) → n < 168 → slice_index p n ≡ slice_index b n)
    → ((n : ℕ) → n < 24 → slice_index p (168 + n) ≡ slice_index slot n)
    → gather_gives (start p count) (slot_in p 7) ≡ gather_gives (start b count) slot
slot_gives b p slot count few word before after =
    let old : start p count ≡ start b count =
    slots_same p b (7 - count) (7 - count) count
    (λ k lt. ap (λ x. x % 64) (before (24 * (7 - count) + k) (omega arith))) in
    ap₂ gather_gives old (slot_same p slot word after)

pub slot_state : (b p m slot : List ℕ) (count : ℕ) → count ≤ 7 → IsWord slot
    → ((n : ℕ) → n < 168 → slice_index p n ≡ slice_index b n)
    → ((n : ℕ) → n < 24 → slice_index p (168 + n) ≡ slice_index slot n)
    → ((n : ℕ) → n < 168 → slice_index m n ≡ slice_index p (24 + n))
    → start m (min (count + 1) 7) ≡ gather_next (start b count) slot
slot_state b p m slot count few word before after moved =
    let now = min (count + 1) 7 in
    let old : start p count ≡ start b count =
    slots_same p b (7 - count) (7 - count) count
    (λ k lt. ap (λ x. x % 64) (before (24 * (7 - count) + k) (omega arith))) in
    let back : start m now ≡ slots_in p (7 + 1 - now) now =
    slots_same m p (7 - now) (7 + 1 - now) now (λ k lt.
    let there : 24 + (24 * (7 - now) + k) ≡ 24 * (7 + 1 - now) + k = omega arith in
    ap (λ x. x % 64) (moved (24 * (7 - now) + k) (omega arith) ∙ ap (slice_index p) there)) in
    let none : min (count + 0) 7 ≡ count = omega arith in
    let first : window_at p count 0 ≡ start p count = ap (λ m. slots_in p (7 - m) m) none in
    back ∙ sym (step_next p count 0) ∙ ap₂ gather_next (first ∙ old) (slot_same p slot word after)

-- a window of zeros into which no slot has come
pub fresh_window : IsWindow (replicate 72 0 ++ replicate 96 0) 0 false
fresh_window = record {
  size = omega (arith, length-append (replicate {A = ℕ} 72 0) (replicate 96 0), length-replicate {A = ℕ});
  few = omega arith;
  symbols = λ n lt.
      let none = get_or-replicate {A = ℕ} 168 n 0 0 (omega arith) in
      let all = ap (λ (l : List ℕ). slice_index l n) (replicate-append-replicate 72 96 0) in
      omega (arith, none, all);
  full = λ yes. absurd (cc);
  zeros = λ yes. absurd (cc);
}
