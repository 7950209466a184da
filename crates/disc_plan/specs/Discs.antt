-- The plan of a disc, or the reason why it has none.
use Rattle.std.specs.Prelude.{◌≡◌, ℕ, ◌<◌, ◌≤◌, List, Ok, Err, count_by, length, take}
use Rattle.text_lines.specs.Text.{most_text_bytes}
use Rattle.cue_sheet.specs.CueSheet.{CueSheet}
use Rattle.cue_sheet.specs.Grammar.{read_cue}
use Rattle.toc_model.specs.Places.{program_blocks}
use Rattle.picture_script.specs.Script.{Drawing, pictures}
use Rattle.picture_script.specs.ScriptGrammar.{read_script}
use Rattle.picture_script.specs.ShowLines.{show_lines}
use Rattle.subcode_author.specs.AuthorAnswer.{HasRoom, HoldsPictures, IsDiscRefusal}
use Rattle.disc_plan.specs.PictureRows.{is_late, ArePlannedRows}
use Rattle.disc_plan.specs.declared.plan.PlannedDisc.{PlannedDisc}
use Rattle.disc_plan.specs.declared.picture_rows.PlannedRow.{PlannedRow}
use Rattle.disc_plan.specs.declared.stops.PlanStop.{PlanStop}
use Rattle.disc_plan.specs.declared.stops.PlanStop.TheVariants.{SheetTooLong, Sheet, ScriptTooLong, Script, Disc, NoRoom, NoMemory}

-- The texts of a disc, and the numbers of blocks of its lead-in and its audio file.
pub record DiscTexts : Type 0 where
  pub sheet : List ℕ
  pub script : List ℕ
  pub lead_in : ℕ
  pub audio : ℕ

-- the disc with these parts
abbrev pub planned_disc : List ℕ → List ℕ → ℕ → ℕ → DiscTexts
planned_disc sheet script lead_in audio =
    record { sheet = sheet; script = script; lead_in = lead_in; audio = audio }

-- The text of the sheet is not too long, and this is its sheet.
abbrev pub HasSheetText : DiscTexts → CueSheet → Type 0
HasSheetText disc sheet = (length disc.sheet ≤ most_text_bytes) × (read_cue disc.sheet ≡ Ok sheet)

-- The text of the script is not too long, and this is its script.
abbrev pub HasScriptText : DiscTexts → List Drawing → Type 0
HasScriptText disc script = (length disc.script ≤ most_text_bytes) × (read_script disc.script ≡ Ok script)

-- The texts of the disc are this sheet and this script.
abbrev pub IsReadAs : DiscTexts → CueSheet → List Drawing → Type 0
IsReadAs disc sheet script = HasSheetText disc sheet × HasScriptText disc script

-- The disc is not refused before its pictures are planned.
abbrev pub HasPlan : DiscTexts → CueSheet → List Drawing → Type 0
HasPlan disc sheet script = IsReadAs disc sheet script × HoldsPictures sheet script disc.audio
    × HasRoom sheet disc.lead_in

-- This is the reason why a text is not a sheet.
abbrev pub IsPlanSheetStop : List ℕ → PlanStop → Type 0
IsPlanSheetStop text SheetTooLong = most_text_bytes < length text
IsPlanSheetStop text (Sheet line why) = (length text ≤ most_text_bytes) × (read_cue text ≡ Err (line, why))
IsPlanSheetStop text NoMemory =
    (sheet : CueSheet) × (length text ≤ most_text_bytes) × (read_cue text ≡ Ok sheet)
IsPlanSheetStop text _ = ⊥

-- This is the reason why a text is not a script.
abbrev pub IsPlanScriptStop : List ℕ → PlanStop → Type 0
IsPlanScriptStop text ScriptTooLong = most_text_bytes < length text
IsPlanScriptStop text (Script line why) =
    (length text ≤ most_text_bytes) × (read_script text ≡ Err (line, why))
IsPlanScriptStop text NoMemory =
    (script : List Drawing) × (length text ≤ most_text_bytes) × (read_script text ≡ Ok script)
IsPlanScriptStop text _ = ⊥

-- This is the reason why a disc has no plan in `room` rows. Each reason is reported only if the previous ones do not apply,
-- and `NoMemory` only if neither text is too long and no line is refused.
abbrev pub IsPlanStop : DiscTexts → ℕ → PlanStop → Type 0
IsPlanStop disc room (Disc stop) = (sheet : CueSheet) × (script : List Drawing) × IsReadAs disc sheet script
    × IsDiscRefusal sheet script disc.lead_in disc.audio stop
IsPlanStop disc room (NoRoom count blocks) = (sheet : CueSheet) × (script : List Drawing)
    × HasPlan disc sheet script
    × (count ≡ pictures script) × (blocks ≡ program_blocks sheet disc.audio) × (room < count)
IsPlanStop disc room ScriptTooLong = (sheet : CueSheet) × HasSheetText disc sheet
    × IsPlanScriptStop disc.script ScriptTooLong
IsPlanStop disc room (Script line why) = (sheet : CueSheet) × HasSheetText disc sheet
    × IsPlanScriptStop disc.script (Script line why)
IsPlanStop disc room NoMemory = (sheet : CueSheet) × (script : List Drawing) × IsReadAs disc sheet script
IsPlanStop disc room stop = IsPlanSheetStop disc.sheet stop

-- These are the rows of the plan of a disc, and its numbers.
pub record IsPlan (disc : DiscTexts) (rows : List PlannedRow) (report : PlannedDisc) : Type 0 where
  pub sheet : CueSheet
  pub script : List Drawing
  pub has_plan : HasPlan disc sheet script
  pub pictures_are : report.pictures ≡ pictures script
  pub blocks_are : report.blocks ≡ program_blocks sheet disc.audio
  pub rows_are : ArePlannedRows script (show_lines disc.script) report.pictures rows
  pub late_are : report.late ≡ count_by is_late (take report.pictures rows)
