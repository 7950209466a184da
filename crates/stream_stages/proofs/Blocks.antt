-- The slots of a block, as a window reads them.
use Rattle.std.proofs.Common.{◌≡◌, ℕ, ◌+◌, ◌-◌, ◌*◌, ◌%◌, ◌<◌, ◌⊎◌, inl, inr, List, [], ◌∷◌, length, map, take, drop, Some, None, sym, ap, ◌∙◌, arith, length-drop, length-take-le}
use Rattle.std.specs.Prelude.{slice_index, ◌==◌, if◌then◌else◌}
use Rattle.std.specs.declared.option.Option.{Option}
use Rattle.arrayvec.specs.ArrayVec.{ArrayVec}
use Rattle.std.proofs.lemmas.List.{length-map, get_or-map, get_or-take, get_or-drop}
use Rattle.std.proofs.lemmas.List.FromFn.{fill_by_all}
use Rattle.cdg_io.specs.Run.{run_state, run_gives}
use Rattle.rw_interleave.specs.Gathering.{gather_next, gather_gives}
use Rattle.rw_interleave.specs.Windows.{slot_in, slots_in}
use Rattle.raw_subcode.specs.declared.form.Form.{Form}
use Rattle.raw_subcode.specs.declared.form.Form.TheVariants.{Raw, Sector, Cooked}
use Rattle.stream_stages.specs.Steps.{slot_of, slots_of, window_next, window_gives, words_next, words_give}
use Rattle.stream_stages.specs.declared.block_words.BlockWords.{BlockWords}

slot_same : (block : List ℕ) (k : ℕ) → length block ≡ 96 → k < 4 → slot_of block k ≡ slot_in block k
unfolding slot_of slot_in
slot_same block k size lt =
    let rest = drop (24 * k) block in
    let few : length (take 24 rest) ≡ 24 =
    length-take-le 24 rest (omega (arith, size, length-drop (24 * k) block)) in
    fill_by_all (λ i. slice_index block (24 * k + i) % 64) (map (λ (byte : ℕ). byte % 64) (take 24 rest)) 24 0
    (length-map (take 24 rest) (λ (byte : ℕ). byte % 64) ∙ few)
    (λ n n_lt. get_or-map (λ (byte : ℕ). byte % 64) (take 24 rest) n 0 0 (omega (arith, few, n_lt))
    ∙ ap (λ byte. byte % 64) (get_or-take 24 rest n 0 n_lt ∙ get_or-drop (24 * k) block n 0))

pub slots_same : (block : List ℕ) → length block ≡ 96 → slots_of block ≡ slots_in block 0 4
unfolding slots_of slots_in
slots_same block size =
    (λ i. slot_same block 0 size (omega arith) i ∷ slot_same block 1 size (omega arith) i
    ∷ slot_same block 2 size (omega arith) i ∷ slot_same block 3 size (omega arith) i ∷ [])

-- if packs are spread over slots, a window reads the slots of a block
pub raw_state : (form : Form) (w : List (List ℕ)) (block : List ℕ) → (form ≡ Raw) ⊎ (form ≡ Sector)
    → length block ≡ 96
    → run_state gather_next w (slots_in block 0 4) ≡ run_state (window_next form) w (slots_of block)
unfolding window_next
raw_state form w block (inl raw) size =
    ap (run_state gather_next w) (sym (slots_same block size))
    ∙ ap (λ f. run_state (window_next f) w (slots_of block)) (sym raw)
raw_state form w block (inr sector) size =
    ap (run_state gather_next w) (sym (slots_same block size))
    ∙ ap (λ f. run_state (window_next f) w (slots_of block)) (sym sector)

pub raw_gives : (form : Form) (w : List (List ℕ)) (block : List ℕ) → (form ≡ Raw) ⊎ (form ≡ Sector)
    → length block ≡ 96
    → run_gives gather_next gather_gives w (slots_in block 0 4)
    ≡ run_gives (window_next form) (window_gives form) w (slots_of block)
unfolding window_next window_gives
raw_gives form w block (inl raw) size =
    ap (run_gives gather_next gather_gives w) (sym (slots_same block size))
    ∙ ap (λ f. run_gives (window_next f) (window_gives f) w (slots_of block)) (sym raw)
raw_gives form w block (inr sector) size =
    ap (run_gives gather_next gather_gives w) (sym (slots_same block size))
    ∙ ap (λ f. run_gives (window_next f) (window_gives f) w (slots_of block)) (sym sector)

-- the slots of the cooked form are words
pub cooked_state : (form : Form) (w : List (List ℕ)) (block : List ℕ) → form ≡ Cooked
    → w ≡ run_state (window_next form) w (slots_of block)
unfolding window_next slots_of
cooked_state form w block cooked = ap (λ f. run_state (window_next f) w (slots_of block)) (sym cooked)

pub cooked_gives : (form : Form) (w : List (List ℕ)) (block : List ℕ) → form ≡ Cooked
    → slots_of block ≡ run_gives (window_next form) (window_gives form) w (slots_of block)
unfolding window_next window_gives slots_of
cooked_gives form w block cooked =
    ap (λ f. run_gives (window_next f) (window_gives f) w (slots_of block)) (sym cooked)

-- a block of the program
pub taken_next : (s : BlockWords) (block : List ℕ) (window : List (List ℕ)) → s.lead_in ≡ 0
    → window ≡ run_state (window_next s.form) s.gather (slots_of block)
    → record s { gather = window } ≡ words_next s block
unfolding words_next
taken_next s block window none is =
    let with : List (List ℕ) → BlockWords = λ g. record s { gather = g } in
    let after : BlockWords = with (run_state (window_next s.form) s.gather (slots_of block)) in
    ap with is ∙ ap (λ (n : ℕ). if n == 0 then after else record s { lead_in = s.lead_in - 1 }) (sym none)

pub taken_gives : (s : BlockWords) (block : List ℕ) (words : ArrayVec (List ℕ)) → s.lead_in ≡ 0
    → words.items ≡ run_gives (window_next s.form) (window_gives s.form) s.gather (slots_of block)
    → Some words ≡ words_give s block
unfolding words_give
taken_gives s block words none is =
    let given : List (List ℕ) → Option (ArrayVec (List ℕ)) = λ items. Some (record { items = items }) in
    let all : Option (ArrayVec (List ℕ)) =
    given (run_gives (window_next s.form) (window_gives s.form) s.gather (slots_of block)) in
    ap given is ∙ ap (λ (n : ℕ). if n == 0 then all else None) (sym none)
