-- The run of the stage is the thin form.
use Rattle.std.proofs.Common.{◌≡◌, ℕ, zero, suc, ◌*◌, ◌/◌, ◌<◌, ◌≤◌, true, true≢false, List, [], ◌∷◌, ◌++◌, length, get_or, take, drop, refl, sym, ap, ◌∙◌, subst, inl, inr, arith, append_assoc, length-drop}
use Rattle.std.specs.Prelude.{if◌then◌else◌}
use Rattle.std.proofs.lemmas.Bool.{cases_Bool}
use Rattle.std.proofs.lemmas.List.{append-nil, length-take-le}
use Rattle.cdg_io.specs.Run.{run_gives}
use Rattle.cdg_io.specs.Pump.{given, units_of}
use Rattle.cdg_io.proofs.Frames.{machine_of}
use Rattle.cdg_io.proofs.Streaming.{IsWhole, whole_units}
use Rattle.cdg_screen.specs.Standing.{Standing, blank, standing_after}
use Rattle.cdg_screen.proofs.Turns.{blank_is_whole, in_turn}
use Rattle.cdg_instructions.specs.declared.instr.Instr.{Instr}
use Rattle.rw_code.specs.Packs.{idle_pack}
use Rattle.cdg_press.specs.Thin.{IsNeedless, IsThinned, IsThinForm, IsThinText}
use Rattle.cdg_press.specs.Steps.{pack_instruction, is_needless, thin_next, thin_gives}
use Rattle.cdg_press.proofs.Forms.{after, instructions_at, instructions_of, read_each}
use Rattle.cdg_press.proofs.Meanings.{has_instruction}
use Rattle.cdg_press.proofs.Sameness.{if_needless, needless_if}

-- ---- the run

-- the output of the stage for some packs
abbrev run_of : Standing → List (List ℕ) → List (List ℕ)
run_of now packs = run_gives thin_next thin_gives now packs

-- the output for one pack
abbrev given_pack : Standing → List ℕ → List ℕ
given_pack now pack = if is_needless now (pack_instruction pack) then idle_pack else pack

-- the standing after one more instruction
next_stands : (now : Standing) (before : List Instr) (pack : List ℕ) → now ≡ after before
    → thin_next now pack ≡ after (before ++ pack_instruction pack ∷ [])
unfolding thin_next
next_stands now before pack same =
    ap (λ (now : Standing). standing_after now (pack_instruction pack ∷ [])) same
    ∙ sym (in_turn blank before (pack_instruction pack ∷ []))

-- the standing decides whether a pack is needless
module _ (now : Standing) (before : List Instr) (same : now ≡ after before) where
  -- with one more instruction
  with_one : (instr : Instr) → standing_after now (instr ∷ []) ≡ after (before ++ instr ∷ [])
  with_one instr =
      ap (λ (now : Standing). standing_after now (instr ∷ [])) same ∙ sym (in_turn blank before (instr ∷ []))

  to_needless : (instr : Instr) → is_needless now instr ≡ true → IsNeedless before instr
  to_needless instr t =
      let h = if_needless now instr t in
      record { graphic = h.0; nothing = sym (with_one instr) ∙ h.1 ∙ same }

  from_needless : (instr : Instr) → IsNeedless before instr → is_needless now instr ≡ true
  from_needless instr h = needless_if now instr h.graphic (with_one instr ∙ h.nothing ∙ sym same)

  thinned : (pack : List ℕ) → IsThinned before (pack_instruction pack) pack (given_pack now pack)
  thinned pack =
      let instr = pack_instruction pack in
      elim (cases_Bool (is_needless now instr)) [
        | inl holds ↦ inl (to_needless instr holds, rw holds refl)
        | inr fails ↦ inr ((λ h. true≢false (sym (from_needless instr h) ∙ fails)), rw fails refl)
      ]

run_count : (now : Standing) (packs : List (List ℕ)) → length (run_of now packs) ≡ length packs
unfolding thin_gives
run_count now [] = refl
run_count now (pack ∷ packs) = ap suc (run_count (thin_next now pack) packs)

run_thinned : (now : Standing) (before : List Instr) (packs : List (List ℕ)) → now ≡ after before → (n : ℕ)
    → n < length packs
    → IsThinned (before ++ take n (instructions_of packs)) (pack_instruction (get_or packs n []))
    (get_or packs n []) (get_or (run_of now packs) n [])
unfolding thin_gives
run_thinned now before [] same n lt = absurd (omega arith)
run_thinned now before (pack ∷ packs) same zero lt =
    subst (λ (is : List Instr). IsThinned is (pack_instruction pack) pack (given_pack now pack))
    (sym (append-nil before)) (thinned now before same pack)
run_thinned now before (pack ∷ packs) same (suc n) lt =
    subst (λ (is : List Instr). IsThinned is (pack_instruction (get_or packs n [])) (get_or packs n [])
    (get_or (run_of (thin_next now pack) packs) n []))
    (append_assoc before (pack_instruction pack ∷ []) (take n (instructions_of packs)))
    (run_thinned (thin_next now pack) (before ++ pack_instruction pack ∷ []) packs
    (next_stands now before pack same) n (omega arith))

-- the run over packs of 24 bytes, from a blank standing
run_is_thin : (now : Standing) (packs : List (List ℕ)) → now ≡ blank
    → ((n : ℕ) → n < length packs → length (get_or packs n []) ≡ 24)
    → IsThinForm packs (run_of now packs)
run_is_thin now packs same sized = record {
  instrs = instructions_of packs;
  read = read_each packs (λ n lt. has_instruction (get_or packs n []) (sized n lt));
  count = run_count now packs;
  each = λ n lt.
      subst (λ (i : Instr).
      IsThinned (take n (instructions_of packs)) i (get_or packs n []) (get_or (run_of now packs) n []))
      (sym (instructions_at packs n lt))
      (run_thinned now [] packs (same ∙ sym blank_is_whole) n lt);
}

unit_sized : (count : ℕ) (bytes : List ℕ) → count * 24 ≤ length bytes → (n : ℕ)
    → n < length (units_of 24 count bytes)
    → length (get_or (units_of 24 count bytes) n []) ≡ 24
unit_sized zero bytes fits n lt = absurd (omega arith)
unit_sized (suc count) bytes fits zero lt = length-take-le 24 bytes (omega arith)
unit_sized (suc count) bytes fits (suc n) lt =
    unit_sized count (drop 24 bytes) (omega (arith, length-drop 24 bytes)) n (omega arith)

-- the output of the stage for the whole packs of some bytes is the text of their thin form
pub given_is_thin : (now : Standing) (bytes : List ℕ) (n : ℕ) → now ≡ blank → IsWhole 24 n bytes
    → IsThinText bytes (given 24 (machine_of thin_next thin_gives) now bytes n)
given_is_thin now bytes n same whole =
    let count : length bytes / 24 ≡ n = omega (arith, whole.fits, whole.rest) in
    record {
      thins = run_of now (units_of 24 n bytes);
      form =
          subst (λ k. IsThinForm (units_of 24 k bytes) (run_of now (units_of 24 n bytes))) (sym count)
          (run_is_thin now (units_of 24 n bytes) same (unit_sized n bytes whole.fits));
      text_is = refl;
    }

-- so each list of bytes has a thin text
pub some_text : (bytes : List ℕ) → (text : List ℕ) × IsThinText bytes text
some_text bytes = (_, given_is_thin blank bytes (length bytes / 24) refl (whole_units 24 bytes (omega arith)))
