use Rattle.std.proofs.Common.{◌≡◌, take}
use Rattle.text_lines.proofs.after_word.Given as goal

abbrev pub invariant-loop-i : goal.invariant-loop-i
invariant-loop-i l = take l.i l.line ≡ take l.i l.word
