-- The last slots of a stream, from their symbols.
use Rattle.std.proofs.Common.{◌≡◌, ℕ, zero, suc, ◌+◌, ◌-◌, ◌*◌, ◌%◌, ◌≤◌, Bool, true, false, cond, ◌==◌, List, [], ◌∷◌, ◌++◌, length, map, take, drop, replicate, refl, sym, ap, ap₂, ◌∙◌, arith, append_assoc, length-append, length-drop, inl, inr}
use Rattle.std.specs.Prelude.{min}
use Rattle.std.specs.List.{AllByRecursion, concat, flat_map, range_with_len}
use Rattle.std.proofs.lemmas.Bool.Decides.{eqb_tells}
use Rattle.std.proofs.lemmas.List.{append-nil, length-replicate}
use Rattle.cdg_io.specs.Run.{run_state}
use Rattle.raw_subcode.specs.Channels.{symbols_of}
use Rattle.raw_subcode.specs.declared.form.Form.TheVariants.{Raw}
use Rattle.rw_interleave.specs.Gathering.{gather_next, kept_symbols, last_seven}
use Rattle.rw_interleave.proofs.Gathers.{gather_short}
use Rattle.stream_stages.specs.Steps.{slot_of, slots_of, window_next, words_next}
use Rattle.stream_stages.specs.declared.block_words.BlockWords.{BlockWords}
use Rattle.stream_stages.proofs.Slots.{Sized, slots_sized}
use Rattle.live_player.proofs.Words.{rest_of}

-- the slot has 24 symbols
abbrev pub IsSlot : List ℕ → Type 0
IsSlot slot = (length slot ≡ 24) × (symbols_of slot ≡ slot)

abbrev pub AreSlots : List (List ℕ) → Type 0
AreSlots slots = AllByRecursion IsSlot slots

-- ---- gathered slots

slots_append : (xs ys : List (List ℕ)) → AreSlots xs → AreSlots ys → AreSlots (xs ++ ys)
slots_append [] ys a b = b
slots_append (x ∷ xs) ys a b = (a.0, slots_append xs ys a.1 b)

slots_drop : (n : ℕ) (xs : List (List ℕ)) → AreSlots xs → AreSlots (drop n xs)
slots_drop zero xs all = all
slots_drop (suc n) [] all = tt
slots_drop (suc n) (x ∷ xs) all = slots_drop n xs all.1

pub gathered_slots : (w slots : List (List ℕ)) → AreSlots w → AreSlots slots
    → AreSlots (run_state gather_next w slots)
unfolding gather_next
gathered_slots w [] a b = a
gathered_slots w (s ∷ slots) a b =
    gathered_slots (last_seven (w ++ s ∷ [])) slots
    (slots_drop (length (w ++ s ∷ []) - 7) (w ++ s ∷ []) (slots_append w (s ∷ []) a (b.0, tt))) b.1

pub gathered_count : (w slots : List (List ℕ)) → length w ≤ 7
    → length (run_state gather_next w slots) ≡ min 7 (length w + length slots)
unfolding gather_next
gathered_count w [] few = omega (arith, few)
gathered_count w (s ∷ slots) few =
    let next : length (last_seven (w ++ s ∷ [])) ≡ min 7 (length w + 1) =
    omega (arith, length-drop (length (w ++ s ∷ []) - 7) (w ++ s ∷ []), length-append w (s ∷ []), few) in
    omega (arith, gathered_count (last_seven (w ++ s ∷ [])) slots (omega (arith, next)), next)

pub raw_window : (w slots : List (List ℕ))
    → run_state (window_next Raw) w slots ≡ run_state gather_next w slots
unfolding window_next
raw_window w [] = refl
raw_window w (s ∷ slots) = raw_window (gather_next w s) slots

-- up to seven slots are all kept
grown : (w slots : List (List ℕ)) → length w + length slots ≤ 7 → run_state gather_next w slots ≡ w ++ slots
grown w [] few = sym (append-nil w)
grown w (s ∷ slots) few =
    let short = gather_short w s (omega (arith, few)) in
    ap (λ (v : List (List ℕ)). run_state gather_next v slots) short.0
    ∙ grown (w ++ s ∷ []) slots (omega (arith, few, length-append w (s ∷ [])))
    ∙ append_assoc w (s ∷ []) slots

-- ---- the slots of blocks

symbols_again : (bytes : List ℕ) → symbols_of (symbols_of bytes) ≡ symbols_of bytes
symbols_again [] = refl
symbols_again (x ∷ bytes) =
    let low : x % 64 % 64 ≡ x % 64 = omega arith in
    ap₂ (λ y (ys : List ℕ). y ∷ ys) low (symbols_again bytes)

block_slots : (block : List ℕ) → length block ≡ 96 → AreSlots (slots_of block)
unfolding slots_of slot_of
block_slots block size =
    let sized : Sized 24 (slots_of block) = slots_sized block size in
    let again : (i : ℕ) → symbols_of (slot_of block i) ≡ slot_of block i =
    λ i. symbols_again (take 24 (drop (24 * i) block)) in
    ((sized.0, again 0), ((sized.1.0, again 1), ((sized.1.1.0, again 2), ((sized.1.1.1.0, again 3), tt))))

pub all_slots : (blocks : List (List ℕ)) → Sized 96 blocks → AreSlots (flat_map slots_of blocks)
all_slots [] sized = tt
all_slots (block ∷ blocks) sized =
    slots_append (slots_of block) (flat_map slots_of blocks) (block_slots block sized.0)
    (all_slots blocks sized.1)

-- ---- slots from their symbols

take_first : (xs ys : List ℕ) → take (length xs) (xs ++ ys) ≡ xs
take_first [] ys = refl
take_first (x ∷ xs) ys = ap (λ (l : List ℕ). x ∷ l) (take_first xs ys)

slot_back : (before slot after : List ℕ) (k : ℕ) → length before ≡ 24 * k → IsSlot slot
    → symbols_of (take 24 (drop (24 * k) (before ++ (slot ++ after)))) ≡ slot
slot_back before slot after k size is =
    ap (λ n. symbols_of (take 24 (drop n (before ++ (slot ++ after))))) (sym size)
    ∙ ap (λ (l : List ℕ). symbols_of (take 24 l)) (rest_of before (slot ++ after))
    ∙ ap (λ n. symbols_of (take n (slot ++ after))) (sym is.0) ∙ ap symbols_of (take_first slot after) ∙ is.1

slots_back : (before : List ℕ) (k : ℕ) (slots : List (List ℕ)) → length before ≡ 24 * k → AreSlots slots
    → map (λ n. symbols_of (take 24 (drop (24 * n) (before ++ concat slots))))
    (range_with_len k (length slots))
    ≡ slots
slots_back before k [] size all = refl
slots_back before k (s ∷ slots) size all =
    ap₂ (λ (x : List ℕ) (xs : List (List ℕ)). x ∷ xs) (slot_back before s (concat slots) k size all.0)
    (ap (λ (l : List ℕ).
    map (λ n. symbols_of (take 24 (drop (24 * n) l))) (range_with_len (k + 1) (length slots)))
    (sym (append_assoc before s (concat slots)))
    ∙ slots_back (before ++ s) (k + 1) slots (omega (arith, size, all.0.0, length-append before s)) all.1)

-- the last seven slots can be restored from their saved symbols
pub gathered_again : (slots : List (List ℕ)) (m : ℕ) → AreSlots slots → length slots ≤ 7 → m ≡ length slots
    → run_state gather_next []
    (map (λ n. symbols_of (take 24 (drop (24 * n) (kept_symbols slots)))) (range_with_len (7 - m) m))
    ≡ slots
gathered_again slots m all few count =
    let zeros : List ℕ = replicate (24 * (7 - length slots)) 0 in
    ap (λ n. run_state gather_next []
    (map (λ n. symbols_of (take 24 (drop (24 * n) (kept_symbols slots)))) (range_with_len (7 - n) n))) count
    ∙ ap (run_state gather_next [])
    (slots_back zeros (7 - length slots) slots (length-replicate {A = ℕ} (24 * (7 - length slots)) 0) all)
    ∙ grown [] slots (omega (arith, few))

-- ---- the form and the lead-in of a resumed stream

form_by : (ended : Bool) (s other : BlockWords) → other.form ≡ s.form
    → (cond ended other (record s { lead_in = s.lead_in - 1 })).form ≡ s.form
form_by true s other same = same
form_by false s other same = refl

pub form_stays : (s : BlockWords) (blocks : List (List ℕ)) → (run_state words_next s blocks).form ≡ s.form
unfolding words_next
form_stays s [] = refl
form_stays s (block ∷ blocks) =
    form_stays (words_next s block) blocks
    ∙ form_by (s.lead_in == 0) s
    (record s { gather = run_state (window_next s.form) s.gather (slots_of block) }) refl

next_lead_in : (s : BlockWords) (block : List ℕ) → (words_next s block).lead_in ≡ s.lead_in - 1
unfolding words_next
next_lead_in s block =
    let after : Bool → ℕ = λ ended. (cond ended
    (record s { gather = run_state (window_next s.form) s.gather (slots_of block) })
    (record s { lead_in = s.lead_in - 1 })).lead_in in
    elim (eqb_tells s.lead_in 0) [
      | inl none ↦ ap after none.0 ∙ omega (arith, none.1)
      | inr some ↦ ap after some.0
    ]

pub lead_in_falls : (s : BlockWords) (blocks : List (List ℕ))
    → (run_state words_next s blocks).lead_in ≡ s.lead_in - length blocks
lead_in_falls s [] = omega arith
lead_in_falls s (block ∷ blocks) =
    omega (arith, lead_in_falls (words_next s block) blocks, next_lead_in s block)
