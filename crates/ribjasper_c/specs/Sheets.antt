-- The index lines and texts of a cue sheet, and the numbers of the kinds of texts.
use Rattle.std.specs.Prelude.{◌≡◌, ◌≢◌, ◌<◌, ◌≤◌, ◌⊎◌, ◌↔◌, ℕ, ℤ, pos, ◌==◌, if◌then◌else◌, List, length, Err}
use Rattle.text_lines.specs.Text.{most_text_bytes}
use Rattle.cue_sheet.specs.CueSheet.{CueSheet}
use Rattle.cue_sheet.specs.Grammar.{read_cue}
use Rattle.cue_sheet.specs.declared.fault.CueText.{CueText}
use Rattle.cue_sheet.specs.declared.fault.CueText.TheVariants.{Title, Performer, Songwriter}
use Rattle.cue_sheet.specs.declared.fault.CueWhy.{CueWhy}
use Rattle.disc_plan.specs.SheetRows.{refusal_report, AreRowsOf, IsRowsStop, IsTextOf, IsTextOfSheet, IsTextStop}
use Rattle.disc_plan.specs.declared.index_rows.SheetRow.{SheetRow}
use Rattle.disc_plan.specs.declared.stops.SheetStop.TheVariants.{NoRoom}
use Rattle.disc_plan.specs.declared.stops.TextStop.TheVariants.{NoTrack, NoRoom as no_room_for}
use Rattle.disc_plan.specs.declared.reports.SheetReport.{SheetReport}

-- the kind of texts with a number: 0 titles, 1 performers, 2 songwriters
abbrev pub text_kind : ℕ → CueText
text_kind n = if n == 1 then Performer else if n == 2 then Songwriter else Title

-- This is a result for a cue sheet: done, too long or no such text, refused, buffer too small, out of memory.
abbrev pub IsSheetAnswer : ℤ → Type 0
IsSheetAnswer result = (result ≡ pos 0) ⊎ (result ≡ pos 2) ⊎ (result ≡ pos 3) ⊎ (result ≡ pos 6)
    ⊎ (result ≡ pos 7)

-- The rows of the index lines of a sheet are at the front of some rows, with a correct report of the sheet; or the
-- report says why not.
pub record WritesRowsOfSheet (sheet : List ℕ) (old_rows new_rows : List SheetRow)
    (old_report new_report : SheetReport) (result : ℤ) : Type 0 where
  pub rows : result ≡ pos 0 → AreRowsOf sheet old_rows new_rows new_report
  pub long : (result ≡ pos 2) ↔ (most_text_bytes < length sheet)
  pub refused : result ≡ pos 3 → (line : ℕ) × (why : CueWhy)
      × (read_cue sheet ≡ Err (line, why)) × (new_report ≡ refusal_report line why)
  pub small : result ≡ pos 6 → IsRowsStop sheet (length old_rows) (NoRoom new_report)
  -- only a valid sheet can be out of memory
  pub memory : result ≡ pos 7 → (read : CueSheet) × IsTextOfSheet sheet read
  pub answer : IsSheetAnswer result
  pub untouched : result ≢ pos 0 → new_rows ≡ old_rows
  pub same : (result ≡ pos 2) ⊎ (result ≡ pos 7) → new_report ≡ old_report

-- A text of a sheet is at the front of some bytes, with its size; or the result says why not.
pub record WritesTextOfSheet (sheet : List ℕ) (kind place : ℕ) (old new : List ℕ)
    (old_count new_count : ℕ) (result : ℤ) : Type 0 where
  pub text : result ≡ pos 0 → (kind ≤ 2) × IsTextOf (text_kind kind) place sheet old new new_count
  pub usage : result ≡ pos 2 → (2 < kind) ⊎ (most_text_bytes < length sheet)
      ⊎ IsTextStop (text_kind kind) place sheet (length old) NoTrack
  -- an unknown kind is refused first, and then a sheet that is too long
  pub first : (2 < kind) ⊎ (most_text_bytes < length sheet) → result ≡ pos 2
  pub refused : result ≡ pos 3 → (line : ℕ) × (why : CueWhy) × (read_cue sheet ≡ Err (line, why))
  pub small : result ≡ pos 6
      → IsTextStop (text_kind kind) place sheet (length old) (no_room_for new_count)
  pub memory : result ≡ pos 7 → (kind ≤ 2) × ((read : CueSheet) × IsTextOfSheet sheet read)
  pub answer : IsSheetAnswer result
  pub untouched : result ≢ pos 0 → new ≡ old
  pub same : result ≢ pos 0 → result ≢ pos 6 → new_count ≡ old_count
