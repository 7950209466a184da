-- The exit status of the process and the line on standard error for each status.
use Rattle.std.specs.Prelude.{ℕ, List, [], ◌++◌, codes, decimal}
use Rattle.bit_lists.specs.Digits.{line_feed}
use Rattle.cdg_cmd.specs.declared.status.Which.{Which}
use Rattle.cdg_cmd.specs.declared.status.Which.TheVariants.{First, Second}
use Rattle.cdg_cmd.specs.declared.status.Refusal.{Refusal}
use Rattle.cdg_cmd.specs.declared.status.Refusal.TheVariants.{Torn, TooLong, PastEnd, Cue, Script, LengthShort, DiscTooLong, LeadInShort, TextTooLong, TextMissing, TextNoSize, TextMalformed, SecondTorn, Unequal, PackTorn, Gap, CdgTooLong, BadSave, BeforeSave}
use Rattle.cdg_cmd.specs.declared.status.Status.{Status}
use Rattle.cdg_cmd.specs.declared.status.Status.TheVariants.{Done, Damaged, Usage, Refused, Late, ReadFault, WriteFault, NoMemory}
use Rattle.cue_sheet.specs.declared.fault.CueWhy.{CueWhy}
use Rattle.cue_sheet.specs.declared.fault.CueWhy.TheVariants as cue
use Rattle.picture_script.specs.declared.reasons.ScriptWhy.{ScriptWhy}
use Rattle.picture_script.specs.declared.reasons.ScriptWhy.TheVariants as script

-- the exit status of the process
abbrev pub exit_of : Status → ℕ
exit_of Done = 0
exit_of (Damaged n) = 1
exit_of Usage = 2
exit_of (Refused why) = 3
exit_of (Late picture need free) = 4
exit_of (ReadFault which) = 5
exit_of WriteFault = 6
exit_of NoMemory = 7

-- words, a blank and a number
abbrev pub words_and_count : List ℕ → ℕ → List ℕ
words_and_count words n = words ++ codes " " ++ decimal n

-- why a line of a cue sheet is refused
abbrev pub cue_words : CueWhy → List ℕ
cue_words cue.UnknownCommand = codes "unknown-command"
cue_words cue.SecondFile = codes "second-file"
cue_words cue.Misplaced = codes "misplaced"
cue_words cue.BadArgument = codes "bad-argument"
cue_words cue.Repeated = codes "repeated"
cue_words cue.NoIndex = codes "no-index"
cue_words cue.NotAudio = codes "not-audio"
cue_words cue.NumberOrder = codes "number-order"
cue_words cue.IndexOrder = codes "index-order"
cue_words cue.TimeOrder = codes "time-order"
cue_words cue.NoFile = codes "no-file"
cue_words cue.NoTrack = codes "no-track"

-- why a line of a picture script is refused
abbrev pub script_words : ScriptWhy → List ℕ
script_words script.UnknownCommand = codes "unknown-command"
script_words script.BadArgument = codes "bad-argument"
script_words script.OutOfRange = codes "out-of-range"
script_words script.TimeOrder = codes "time-order"
script_words script.TooMany = codes "too-many"

-- the name of an input, the number of a line, and why it is refused
abbrev pub line_words : List ℕ → ℕ → List ℕ → List ℕ
line_words name line why = words_and_count name line ++ codes " " ++ why

-- the words for a refusal
abbrev pub refusal_words : Refusal → List ℕ
refusal_words (Torn block) = words_and_count (codes "torn") block
refusal_words TooLong = codes "too-long"
refusal_words (PastEnd blocks) = words_and_count (codes "past-end") blocks
refusal_words (Cue line why) = line_words (codes "cue") line (cue_words why)
refusal_words (Script line why) = line_words (codes "script") line (script_words why)
refusal_words (LengthShort need) = words_and_count (codes "length-short") need
refusal_words (DiscTooLong blocks) = words_and_count (codes "disc-too-long") blocks
refusal_words (LeadInShort need) = words_and_count (codes "lead-in-short") need
refusal_words (TextTooLong packs) = words_and_count (codes "text-too-long") packs
refusal_words (TextMissing seq) = words_and_count (codes "text-missing") seq
refusal_words TextNoSize = codes "text-no-size"
refusal_words (TextMalformed seq byte) = words_and_count (words_and_count (codes "text-malformed") seq) byte
refusal_words (SecondTorn block) = words_and_count (codes "second-torn") block
refusal_words (Unequal blocks) = words_and_count (codes "unequal") blocks
refusal_words (PackTorn pack) = words_and_count (codes "pack-torn") pack
refusal_words (Gap track) = words_and_count (codes "gap") track
refusal_words (CdgTooLong packs room) = words_and_count (words_and_count (codes "cdg-too-long") packs) room
refusal_words (BadSave byte) = words_and_count (codes "bad-save") byte
refusal_words (BeforeSave blocks) = words_and_count (codes "before-save") blocks

-- the words of a picture that is late: its number, the packs that it needs, and those that are free
abbrev pub late_words : ℕ → ℕ → ℕ → List ℕ
late_words picture need free = words_and_count (words_and_count
    (words_and_count (codes "late") picture ++ codes " need") need ++ codes " free") free

-- the name of an input
abbrev pub input_words : Which → List ℕ
input_words First = codes "read fault first"
input_words Second = codes "read fault second"

-- the line that is written on standard error; `Done` has no line
abbrev pub error_line : Status → List ℕ
error_line Done = []
error_line (Damaged n) = words_and_count (codes "damaged") n ++ line_feed
error_line Usage = codes "usage" ++ line_feed
error_line (Refused why) = codes "refused " ++ refusal_words why ++ line_feed
error_line (Late picture need free) = late_words picture need free ++ line_feed
error_line (ReadFault which) = input_words which ++ line_feed
error_line WriteFault = codes "write fault" ++ line_feed
error_line NoMemory = codes "no memory" ++ line_feed
