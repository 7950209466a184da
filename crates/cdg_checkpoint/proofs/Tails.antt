-- The last slots of a stream, and their symbols.
use Rattle.std.proofs.Common.{◌≡◌, ℕ, zero, suc, ◌+◌, ◌-◌, ◌*◌, ◌≤◌, List, [], ◌∷◌, ◌++◌, length, drop, replicate, refl, sym, ap, ap₂, ◌∙◌, arith, length-append, length-drop, append_assoc, inl, inr}
use Rattle.std.specs.List.{concat, flat_map}
use Rattle.std.proofs.Math.Seq.{drop-append-add, drop-nil}
use Rattle.std.proofs.lemmas.Bool.{cases_lt}
use Rattle.std.proofs.lemmas.List.{append-nil, drop-append-le, drop-drop, drop-replicate, length-replicate}
use Rattle.cdg_io.specs.Run.{run_state}
use Rattle.raw_subcode.specs.Channels.{symbols_of}
use Rattle.raw_subcode.specs.declared.form.Form.TheVariants.{Raw}
use Rattle.rw_interleave.specs.Gathering.{gather_next, kept_symbols, last_seven}
use Rattle.stream_stages.specs.Steps.{slots_of, window_next, words_next}
use Rattle.stream_stages.specs.declared.block_words.BlockWords.{BlockWords}
use Rattle.stream_stages.proofs.Slots.{Sized, all_slots_sized, all_slots_together, sized_drop}
use Rattle.stream_stages.proofs.StageRuns.{window_run}
use Rattle.cdg_checkpoint.specs.Saved.{last_symbols}

-- the last seven of some slots can be taken before or after others follow
seven_again : (w : List (List ℕ)) (s : List ℕ) (slots : List (List ℕ)) → length w ≤ 7
    → last_seven (last_seven (w ++ s ∷ []) ++ slots) ≡ last_seven (w ++ s ∷ slots)
seven_again w s slots few =
    let l : List (List ℕ) = w ++ s ∷ [] in
    let k : ℕ = length (w ++ s ∷ []) - 7 in
    let all : List (List ℕ) = (w ++ s ∷ []) ++ slots in
    let place : k + (length (drop k all) - 7) ≡ length all - 7 =
    omega (arith, few, length-append w (s ∷ []), length-append l slots, length-drop k all) in
    ap last_seven (sym (drop-append-le k l slots (omega arith)))
    ∙ drop-drop (length (drop k all) - 7) k all
    ∙ ap (λ n. drop n all) place
    ∙ ap last_seven (append_assoc w (s ∷ []) slots)

keeps_last : (w slots : List (List ℕ)) → length w ≤ 7
    → run_state gather_next w slots ≡ last_seven (w ++ slots)
unfolding gather_next
keeps_last w [] few =
    let none : length w - 7 ≡ 0 = omega (arith, few) in
    sym (ap last_seven (append-nil w) ∙ ap (λ n. drop n w) none)
keeps_last w (s ∷ slots) few =
    keeps_last (last_seven (w ++ s ∷ [])) slots
    (omega (arith, few, length-append w (s ∷ []), length-drop (length (w ++ s ∷ []) - 7) (w ++ s ∷ [])))
    ∙ seven_again w s slots few

concat_drop : (m : ℕ) (slots : List (List ℕ)) → Sized 24 slots
    → concat (drop m slots) ≡ drop (24 * m) (concat slots)
concat_drop zero slots all = refl
concat_drop (suc m) [] all = sym (drop-nil {A = ℕ} (24 * suc m))
concat_drop (suc m) (s ∷ slots) all =
    let place : length s + 24 * m ≡ 24 * suc m = omega (arith, all.0) in
    concat_drop m slots all.1
    ∙ sym (drop-append-add s (concat slots) (24 * m))
    ∙ ap (λ n. drop n (s ++ concat slots)) place

length-concat : (slots : List (List ℕ)) → Sized 24 slots → length (concat slots) ≡ 24 * length slots
length-concat [] all = refl
length-concat (s ∷ slots) all =
    omega (arith, length-append s (concat slots), all.0, length-concat slots all.1)

-- the symbols of the last seven, with zeros before them
kept_last : (slots : List (List ℕ)) → Sized 24 slots
    → kept_symbols (last_seven slots) ≡ last_symbols 168 (concat slots)
kept_last slots all =
    let n : ℕ = length slots in
    let m : ℕ = length slots - 7 in
    let size = length-concat slots all in
    let zeros : List ℕ = replicate 168 0 in
    let kept : 24 * (7 - length (drop m slots)) ≡ 168 - 24 * n = omega (arith, length-drop m slots) in
    let left : kept_symbols (last_seven slots) ≡ replicate (168 - 24 * n) 0 ++ drop (24 * m) (concat slots) =
    ap₂ (λ k (l : List ℕ). replicate k 0 ++ l) kept (concat_drop m slots all) in
    elim (cases_lt 7 n) [
      | inl many ↦
          let none : 168 - 24 * n ≡ 0 = omega (arith, many) in
          let place : length (replicate {A = ℕ} 168 0) + 24 * m ≡ length (concat slots) =
          omega (arith, many, size, length-replicate {A = ℕ}) in
          left
          ∙ ap (λ k. replicate k 0 ++ drop (24 * m) (concat slots)) none
          ∙ sym (drop-append-add zeros (concat slots) (24 * m))
          ∙ ap (λ k. drop k (zeros ++ concat slots)) place
      | inr few ↦
          let none : 24 * m ≡ 0 = omega (arith, few) in
          let fits : length (concat slots) ≤ length (replicate {A = ℕ} 168 0) =
          omega (arith, few, size, length-replicate {A = ℕ}) in
          let rest : 168 - 24 * n ≡ 168 - length (concat slots) = omega (arith, size) in
          left
          ∙ ap (λ k. replicate (168 - 24 * n) 0 ++ drop k (concat slots)) none
          ∙ ap (λ k. replicate k 0 ++ concat slots) rest
          ∙ ap (λ (l : List ℕ). l ++ concat slots) (sym (drop-replicate (length (concat slots)) 168 0))
          ∙ sym (drop-append-le (length (concat slots)) zeros (concat slots) fits)
    ]

raw_window : (w slots : List (List ℕ)) → run_state (window_next Raw) w slots ≡ run_state gather_next w slots
unfolding window_next
raw_window w [] = refl
raw_window w (s ∷ slots) = raw_window (gather_next w s) slots

-- the symbols that a window keeps are the last symbols of the stream
pub kept_after : (lead_in : ℕ) (s : BlockWords) (blocks : List (List ℕ))
    → s ≡ record { form = Raw; lead_in = lead_in; gather = [] } → Sized 96 blocks
    → kept_symbols (run_state words_next s blocks).gather
    ≡ last_symbols 168 (flat_map symbols_of (drop lead_in blocks))
kept_after lead_in s blocks fresh sized =
    let program : List (List ℕ) = drop lead_in blocks in
    let sized_program : Sized 96 program = sized_drop 96 lead_in blocks sized in
    let slots : List (List ℕ) = flat_map slots_of program in
    let window =
    ap (λ (s : BlockWords). (run_state words_next s blocks).gather) fresh
    ∙ window_run Raw lead_in [] blocks
    ∙ raw_window [] slots
    ∙ keeps_last [] slots (omega arith) in
    ap kept_symbols window
    ∙ kept_last slots (all_slots_sized program sized_program)
    ∙ ap (last_symbols 168) (all_slots_together program sized_program)
