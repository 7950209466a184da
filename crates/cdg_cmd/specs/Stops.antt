-- The status for each stop of each call: the only place that defines them.
use Rattle.std.specs.Prelude.{◌==◌, Result, Ok, Err, if◌then◌else◌}
use Rattle.cdg_io.specs.declared.whole.ReadStop.{ReadStop}
use Rattle.cdg_io.specs.declared.whole.ReadStop.TheVariants as read
use Rattle.cue_sheet.specs.declared.fault.CueStop.{CueStop}
use Rattle.cue_sheet.specs.declared.fault.CueStop.TheVariants as sheet
use Rattle.picture_script.specs.declared.reasons.ScriptStop.{ScriptStop}
use Rattle.picture_script.specs.declared.reasons.ScriptStop.TheVariants as script
use Rattle.cdg_io.specs.declared.pumping.Pumped.{Pumped}
use Rattle.cdg_io.specs.declared.pumping.PumpStop.{PumpStop}
use Rattle.cdg_io.specs.declared.pumping.PumpStop.TheVariants as pump
use Rattle.cdtext_packs.specs.declared.kinds.TextFault.{TextFault}
use Rattle.cdtext_packs.specs.declared.kinds.TextFault.TheVariants as fault
use Rattle.stream_stages.specs.declared.played.Played.{Played}
use Rattle.stream_stages.specs.declared.played.PlayStop.{PlayStop}
use Rattle.stream_stages.specs.declared.played.PlayStop.TheVariants as play
use Rattle.rw_merge.specs.declared.merge.Merged.{Merged}
use Rattle.rw_merge.specs.declared.merge.MergeStop.{MergeStop}
use Rattle.rw_merge.specs.declared.merge.MergeStop.TheVariants as merge
use Rattle.cdg_checkpoint.specs.declared.stops.Resumed.{Resumed}
use Rattle.cdg_checkpoint.specs.declared.stops.ResumeStop.{ResumeStop}
use Rattle.cdg_checkpoint.specs.declared.stops.ResumeStop.TheVariants as resume
use Rattle.subcode_author.specs.declared.stops.AuthorStop.{AuthorStop}
use Rattle.subcode_author.specs.declared.stops.AuthorStop.TheVariants as author
use Rattle.cdg_press.specs.declared.stops.PressStop.{PressStop}
use Rattle.cdg_press.specs.declared.stops.PressStop.TheVariants as press
use Rattle.cdg_cmd.specs.declared.status.Which.{Which}
use Rattle.cdg_cmd.specs.declared.status.Which.TheVariants.{First, Second}
use Rattle.cdg_cmd.specs.declared.status.Refusal.TheVariants.{Torn, TooLong, PastEnd, Cue, Script, LengthShort, DiscTooLong, LeadInShort, TextTooLong, TextMissing, TextNoSize, TextMalformed, SecondTorn, Unequal, PackTorn, Gap, CdgTooLong, BadSave, BeforeSave}
use Rattle.cdg_cmd.specs.declared.status.Status.{Status}
use Rattle.cdg_cmd.specs.declared.status.Status.TheVariants.{Done, Damaged, Refused, Late, ReadFault, WriteFault, NoMemory}

-- the status if an input is not read to its end
abbrev pub read_status : Which → ReadStop → Status
read_status which read.Failed = ReadFault which
read_status which read.TooLong = Refused TooLong
read_status which read.NoMemory = NoMemory

-- the status of a cue sheet that is not accepted
abbrev pub sheet_status : CueStop → Status
sheet_status (sheet.Fault line why) = Refused (Cue line why)
sheet_status sheet.NoMemory = NoMemory

-- the status of a picture script that is not accepted
abbrev pub script_status : ScriptStop → Status
script_status (script.Fault line why) = Refused (Script line why)
script_status script.NoMemory = NoMemory

-- the status if the text packs of a lead-in hold no texts
abbrev pub text_fault_status : TextFault → Status
text_fault_status (fault.Missing seq) = Refused (TextMissing seq)
text_fault_status fault.NoSize = Refused TextNoSize
text_fault_status (fault.Malformed seq byte) = Refused (TextMalformed seq byte)
text_fault_status fault.NoMemory = NoMemory

-- the status for the result of a player
abbrev pub play_status : Result Played PlayStop → Status
play_status (Ok played) = if played.bad == 0 then Done else Damaged played.bad
play_status (Err play.ReadFault) = ReadFault First
play_status (Err play.WriteFault) = WriteFault
play_status (Err (play.Torn block)) = Refused (Torn block)
play_status (Err play.TooLong) = Refused TooLong
play_status (Err (play.PastEnd blocks)) = Refused (PastEnd blocks)
play_status (Err (play.Text why)) = text_fault_status why

-- the status for the result of a pump
abbrev pub pump_status : Result Pumped PumpStop → Status
pump_status (Ok pumped) = Done
pump_status (Err pump.ReadFault) = ReadFault First
pump_status (Err pump.WriteFault) = WriteFault
pump_status (Err (pump.Torn unit)) = Refused (Torn unit)
pump_status (Err pump.TooLong) = Refused TooLong

-- the status for the result of a thinner
abbrev pub thin_status : Result Pumped PumpStop → Status
thin_status (Ok pumped) = Done
thin_status (Err pump.ReadFault) = ReadFault First
thin_status (Err pump.WriteFault) = WriteFault
thin_status (Err (pump.Torn unit)) = Refused (PackTorn unit)
thin_status (Err pump.TooLong) = Refused TooLong

-- the status for the result of a merger
abbrev pub merge_status : Result Merged MergeStop → Status
merge_status (Ok merged) = if merged.bad == 0 then Done else Damaged merged.bad
merge_status (Err merge.FirstFault) = ReadFault First
merge_status (Err merge.SecondFault) = ReadFault Second
merge_status (Err merge.WriteFault) = WriteFault
merge_status (Err merge.TooLong) = Refused TooLong
merge_status (Err (merge.Torn block)) = Refused (Torn block)
merge_status (Err (merge.SecondTorn block)) = Refused (SecondTorn block)
merge_status (Err (merge.Unequal blocks)) = Refused (Unequal blocks)

-- the status for the result of a resumed call
abbrev pub resume_status : Result Resumed ResumeStop → Status
resume_status (Ok resumed) = if resumed.bad == 0 then Done else Damaged resumed.bad
resume_status (Err resume.FirstFault) = ReadFault First
resume_status (Err resume.SecondFault) = ReadFault Second
resume_status (Err resume.WriteFault) = WriteFault
resume_status (Err (resume.BadSave byte)) = Refused (BadSave byte)
resume_status (Err (resume.BeforeSave blocks)) = Refused (BeforeSave blocks)
resume_status (Err (resume.Torn block)) = Refused (Torn block)
resume_status (Err resume.TooLong) = Refused TooLong
resume_status (Err (resume.PastEnd blocks)) = Refused (PastEnd blocks)

-- the status for the result of `author`
abbrev pub author_status : Result (Unit {0}) AuthorStop → Status
author_status (Ok done) = Done
author_status (Err (author.LengthShort need)) = Refused (LengthShort need)
author_status (Err (author.DiscTooLong blocks)) = Refused (DiscTooLong blocks)
author_status (Err (author.PastEnd blocks)) = Refused (PastEnd blocks)
author_status (Err (author.TextTooLong packs)) = Refused (TextTooLong packs)
author_status (Err (author.LeadInShort need)) = Refused (LeadInShort need)
author_status (Err (author.Late picture need free)) = Late picture need free
author_status (Err author.WriteFault) = WriteFault
author_status (Err author.NoMemory) = NoMemory

-- the status for the result of `press`
abbrev pub press_status : Result (Unit {0}) PressStop → Status
press_status (Ok done) = Done
press_status (Err (press.PackTorn pack)) = Refused (PackTorn pack)
press_status (Err (press.LengthShort need)) = Refused (LengthShort need)
press_status (Err (press.DiscTooLong blocks)) = Refused (DiscTooLong blocks)
press_status (Err (press.Gap track)) = Refused (Gap track)
press_status (Err (press.CdgTooLong packs room)) = Refused (CdgTooLong packs room)
press_status (Err (press.TextTooLong packs)) = Refused (TextTooLong packs)
press_status (Err (press.LeadInShort need)) = Refused (LeadInShort need)
press_status (Err press.WriteFault) = WriteFault
press_status (Err press.NoMemory) = NoMemory
