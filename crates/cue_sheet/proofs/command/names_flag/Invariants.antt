use Rattle.std.proofs.Common.{◌≡◌, length}
use Rattle.text_lines.specs.Text.{words_in}
use Rattle.cue_sheet.specs.CueLines.{names_flag}
use Rattle.cue_sheet.proofs.command.names_flag.Given as goal

abbrev pub invariant-loop-word : goal.invariant-loop-word
invariant-loop-word l = names_flag l.flag (words_in l.fn.argument) ≡ names_flag l.flag (words_in l.rest)

abbrev pub decreases-loop-word : goal.decreases-loop-word
decreases-loop-word l = length l.rest
