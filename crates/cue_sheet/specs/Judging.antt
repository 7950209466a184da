-- The state that the code needs to accept or refuse a line: of the texts and gaps of the previous lines, it has only
-- whether they exist; of their times, only the latest.
use Rattle.std.specs.Prelude.{◌≡◌, ◌-◌, ◌==◌, ℕ, List, length, Option, Some, None, is_some, slice_index_or, if◌then◌else◌, Result, Err, MatchResult, IfSome}
use Rattle.cue_sheet.specs.CueSheet.{CueSection}
use Rattle.cue_sheet.specs.Grammar.{CueState, has_index_one, sheet_step}
use Rattle.cue_sheet.specs.Steps.{stripped, TakesLine}
use Rattle.cue_sheet.specs.declared.fault.CueWhy.{CueWhy}
use Rattle.cue_sheet.specs.declared.judge.SectionMarks.{SectionMarks}
use Rattle.cue_sheet.specs.declared.judge.SheetJudge.{SheetJudge}
use Rattle.cue_sheet.specs.declared.reader.SheetReader.{SheetReader}

-- the number of the last index line
abbrev pub last_index_number : List (ℕ × ℕ) → Option ℕ
last_index_number lines =
    if length lines == 0 then None else Some (slice_index_or lines (length lines - 1) (0, 0)).0

-- The marks are those of this section.
pub record Marks (said : CueSection) (marks : SectionMarks) : Type 0 where
  pub catalogue : marks.catalogue ≡ is_some said.catalogue
  pub title : marks.title ≡ is_some said.title
  pub performer : marks.performer ≡ is_some said.performer
  pub songwriter : marks.songwriter ≡ is_some said.songwriter
  pub control : marks.control ≡ is_some said.control
  pub isrc : marks.isrc ≡ is_some said.isrc
  pub pregap : marks.pregap ≡ is_some said.pregap
  pub postgap : marks.postgap ≡ is_some said.postgap
  pub one : marks.has_index_one ≡ has_index_one said
  pub last : marks.last_index ≡ last_index_number said.indices

-- The judge is in its state after these lines.
pub record Judges (said : CueState) (judge : SheetJudge) : Type 0 where
  pub file : judge.has_file ≡ said.has_file
  pub latest : judge.latest ≡ said.latest
  pub number : judge.number ≡ said.number
  pub section : Marks said.section judge.section

-- The reader is in its state after these lines. It has a draft if there was memory for it.
pub record HasReadLines (said : CueState) (reader : SheetReader) : Type 0 where
  pub judged : Judges said reader.judge
  pub kept : IfSome reader.draft (λ draft. draft ≡ stripped said)

-- If the line is accepted after these lines, the reader is in its state after the line. If not, the result has the reason.
abbrev pub ReadsCueLine : CueState → List ℕ → SheetReader → Result (Unit {0}) CueWhy → Type 0
ReadsCueLine said line reader result =
    MatchResult result (λ _. (next : CueState) × TakesLine said line next × HasReadLines next reader)
    (λ why. sheet_step said line ≡ Err why)
