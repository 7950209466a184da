use Rattle.std.proofs.Common.{◌≡◌, length}
use Rattle.std.specs.List.{list_all}
use Rattle.text_lines.specs.Text.{words_in}
use Rattle.cue_sheet.specs.CueLines.{is_flag}
use Rattle.cue_sheet.proofs.command.are_flags.Given as goal

abbrev pub invariant-loop-word : goal.invariant-loop-word
invariant-loop-word l = list_all is_flag (words_in l.fn.argument) ≡ list_all is_flag (words_in l.rest)

abbrev pub decreases-loop-word : goal.decreases-loop-word
decreases-loop-word l = length l.rest
