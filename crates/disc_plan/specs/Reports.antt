-- The result of a plan, or the reason why there is none.
use Rattle.std.specs.Prelude.{ℕ}
use Rattle.picture_script.specs.declared.reasons.ScriptWhy.{ScriptWhy}
use Rattle.picture_script.specs.declared.reasons.ScriptWhy.TheVariants as script
use Rattle.subcode_author.specs.declared.stops.AuthorStop.{AuthorStop}
use Rattle.subcode_author.specs.declared.stops.AuthorStop.TheVariants.{LengthShort, DiscTooLong, PastEnd, TextTooLong, LeadInShort}
use Rattle.disc_plan.specs.declared.plan.PlannedDisc.{PlannedDisc}
use Rattle.disc_plan.specs.declared.stops.PlanStop.{PlanStop}
use Rattle.disc_plan.specs.declared.stops.PlanStop.TheVariants.{SheetTooLong, Sheet, ScriptTooLong, Script, Disc, NoRoom, NoMemory}
use Rattle.disc_plan.specs.declared.reports.PlanReport.{PlanReport}
use Rattle.cue_sheet.specs.declared.fault.CueWhy.{CueWhy}
use Rattle.cue_sheet.specs.declared.fault.CueWhy.TheVariants.{UnknownCommand, SecondFile, Misplaced, BadArgument, Repeated, NoIndex, NotAudio, NumberOrder, IndexOrder, TimeOrder, NoFile, NoTrack}

-- the number of a reason to refuse a line of a sheet
abbrev pub cue_number : CueWhy → ℕ
cue_number UnknownCommand = 1
cue_number SecondFile = 2
cue_number Misplaced = 3
cue_number BadArgument = 4
cue_number Repeated = 5
cue_number NoIndex = 6
cue_number NotAudio = 7
cue_number NumberOrder = 8
cue_number IndexOrder = 9
cue_number TimeOrder = 10
cue_number NoFile = 11
cue_number NoTrack = 12

-- the result for a disc with a plan
abbrev pub plan_report : PlannedDisc → PlanReport
plan_report disc = record {
  pictures = disc.pictures;
  blocks = disc.blocks;
  late = disc.late;
  why = 0;
  line = 0;
  number = 0;
}

-- the result for a disc without a plan: the reason, its line and its number
abbrev pub refusal : ℕ → ℕ → ℕ → PlanReport
refusal why line number =
    record { pictures = 0; blocks = 0; late = 0; why = why; line = line; number = number }

-- the number of a reason to refuse a line of a script
abbrev pub script_number : ScriptWhy → ℕ
script_number script.UnknownCommand = 1
script_number script.BadArgument = 2
script_number script.OutOfRange = 3
script_number script.TimeOrder = 4
script_number script.TooMany = 5

-- the result for a sheet and a script that do not fit on their disc
abbrev pub disc_refusal : AuthorStop → PlanReport
disc_refusal (LengthShort need) = refusal 4 0 need
disc_refusal (DiscTooLong blocks) = refusal 5 0 blocks
disc_refusal (PastEnd blocks) = refusal 6 0 blocks
disc_refusal (TextTooLong packs) = refusal 7 0 packs
disc_refusal (LeadInShort need) = refusal 8 0 need
disc_refusal _ = refusal 0 0 0

-- the result if there is no plan
abbrev pub stop_report : PlanStop → PlanReport
stop_report SheetTooLong = refusal 1 0 0
stop_report (Sheet line why) = refusal 2 line (cue_number why)
stop_report ScriptTooLong = refusal 1 0 0
stop_report (Script line why) = refusal 3 line (script_number why)
stop_report (Disc stop) = disc_refusal stop
stop_report (NoRoom pictures blocks) = plan_report (record { pictures = pictures; blocks = blocks; late = 0 })
stop_report NoMemory = refusal 0 0 0
