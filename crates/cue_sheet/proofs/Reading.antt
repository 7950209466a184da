-- A text is read line by line.
use Rattle.std.proofs.Common.{subst, inl, inr, ◌++◌, ◌≡◌, ℕ, ◌+◌, ◌≤◌, ◌<◌, List, [], ◌∷◌, length, Option, Some, None, refl, ap, sym, ◌∙◌, arith}
use Rattle.std.specs.Prelude.{Ok, Err, is_some, not, if◌then◌else◌, Bool, true, false}
use Rattle.text_lines.specs.Text.{lines_in, without_mark}
use Rattle.text_lines.specs.Reading.{at_line, read_on}
use Rattle.text_lines.proofs.ReadOn.{read_on-taken, read_on-refused, read_on-end}
use Rattle.std.proofs.lemmas.Bool.{cases_Bool}
use Rattle.cue_sheet.specs.CueSheet.{IsSheet, sheet_from}
use Rattle.cue_sheet.specs.Grammar.{CueState, nothing_said, has_index_one, track_with, sheet_step, ended, read_cue}
use Rattle.cue_sheet.specs.Steps.{unless, end_reason, sheet_said, TakesLine, IsEmpty, Says}
use Rattle.cue_sheet.specs.declared.fault.CueWhy.{CueWhy}
use Rattle.cue_sheet.specs.declared.fault.CueWhy.TheVariants.{NoFile, NoTrack, NoIndex}
use Rattle.cue_sheet.proofs.Good.{IsGood, good_start, good_more, good_sheet}
use Rattle.cue_sheet.proofs.Stepping.{ended_is}

-- the lines that were read give the draft, and the rest is read from there
pub record Reading (text rest : List ℕ) (number : ℕ) (draft : CueState) : Type 0 where
  pub same : read_cue text ≡ read_on sheet_step ended number draft (lines_in rest)
  pub good : IsGood draft
  pub bound : number + length rest ≤ 67108865
  pub positive : 1 ≤ number

pub reading_starts : (text rest : List ℕ) (draft : CueState) → rest ≡ without_mark text
    → length rest ≤ 67108864 → draft ≡ nothing_said
    → Reading text rest 1 draft
reading_starts text rest draft is short empty = record {
  same =
      ap (λ r. read_on sheet_step ended 1 nothing_said (lines_in r)) (sym is)
      ∙ ap (λ s. read_on sheet_step ended 1 s (lines_in rest)) (sym empty);
  good = subst IsGood (sym empty) good_start;
  bound = omega arith;
  positive = omega arith;
}

read_line : (text rest line next : List ℕ) (number : ℕ) (old new : CueState) → Reading text rest number old
    → lines_in rest ≡ line ∷ lines_in next
    → length next < length rest → sheet_step old line ≡ Ok new → IsGood new
    → Reading text next (number + 1) new
read_line text rest line next number old new reading lines shorter taken good = record {
  same =
      reading.same
      ∙ (ap (read_on sheet_step ended number old) lines
      ∙ read_on-taken sheet_step ended number old new line (lines_in next) taken);
  good = good;
  bound = omega (arith, reading.bound);
  positive = omega arith;
}

pub reading_goes_on : (text rest line next : List ℕ) (number : ℕ) (old new : CueState)
    → Reading text rest number old → lines_in rest ≡ line ∷ lines_in next
    → length next < length rest → TakesLine old line new → Reading text next (number + 1) new
reading_goes_on text rest line next number old new reading lines shorter (IsEmpty taken same) =
    read_line text rest line next number old new reading lines shorter taken
    (subst IsGood (sym same) reading.good)
reading_goes_on text rest line next number old new reading lines shorter (Says said taken range free is) =
    read_line text rest line next number old new reading lines shorter taken
    (subst IsGood (sym is) (good_more old said reading.good range free))

-- a line that is not accepted is the first one that is refused
pub reading_stops : (text rest line next : List ℕ) (number : ℕ) (old : CueState) (why : CueWhy)
    → Reading text rest number old → lines_in rest ≡ line ∷ lines_in next
    → sheet_step old line ≡ Err why → read_cue text ≡ Err (number, why)
reading_stops text rest line next number old why reading lines refuses =
    reading.same ∙ (ap (read_on sheet_step ended number old) lines
    ∙ read_on-refused sheet_step ended number old why line (lines_in next) refuses)

pub reading_ends : (text rest : List ℕ) (number : ℕ) (draft : CueState) (why : Option CueWhy)
    → Reading text rest number draft → lines_in rest ≡ [] → why ≡ end_reason draft
    → read_cue text ≡ at_line number (unless (sheet_said draft) why)
reading_ends text rest number draft why reading lines is =
    reading.same ∙ (ap (read_on sheet_step ended number draft) lines
    ∙ (read_on-end sheet_step ended number draft
    ∙ (ap (at_line number) (ended_is draft)
    ∙ ap (λ w. at_line number (unless (sheet_said draft) w)) (sym is))))

end_needs_file : (f : Bool) → f ≡ false → (if not f then Some NoFile else Some NoTrack) ≡ None → ⊥
end_needs_file false is h = cc
end_needs_file true is h = cc

end_needs_track : (f : Bool) → f ≡ true → (if not f then Some NoFile else Some NoTrack) ≡ None → ⊥
end_needs_track false is h = cc
end_needs_track true is h = cc

end_needs_index : (f one : Bool) → one ≡ false
    → (if not f then Some NoFile else (if one then None else Some NoIndex)) ≡ None
    → ⊥
end_needs_index false one is h = cc
end_needs_index true false is h = cc
end_needs_index true true is h = cc

-- if the end is not refused, there is a last track and the sheet is valid
ends : (s : CueState) (o : Option ℕ) → s.number ≡ o → IsGood s
    → (if not s.has_file
    then Some NoFile
    else (if not (is_some o) then Some NoTrack else (if has_index_one s.section then None else Some NoIndex)))
    ≡ None
    → IsSheet (sheet_from s.album (s.tracks ++ track_with o s.section))
ends s None is good free = elim (cases_Bool s.has_file) [
  | inl file ↦ let no : ⊥ = end_needs_track s.has_file file free in absurd no
  | inr none ↦ let no : ⊥ = end_needs_file s.has_file none free in absurd no
]
ends s (Some n) is good free = elim (cases_Bool (has_index_one s.section)) [
  | inl one ↦ good_sheet s n good is one
  | inr other ↦ let no : ⊥ = end_needs_index s.has_file (has_index_one s.section) other free in absurd no
]

pub reading_is_sheet : (text rest : List ℕ) (number : ℕ) (draft : CueState) → Reading text rest number draft
    → end_reason draft ≡ None
    → IsSheet (sheet_said draft)
reading_is_sheet text rest number draft reading free = ends draft draft.number refl reading.good free
