use Rattle.std.proofs.Common.{◌≡◌, ◌≤◌, ◌+◌, length}
use Rattle.text_lines.specs.Text.{lines_in}
use Rattle.picture_script.specs.ShowLines.{show_lines_from}
use Rattle.picture_script.proofs.show_lines.next_show_line.Given as goal

abbrev pub invariant-loop-line : goal.invariant-loop-line
invariant-loop-line l =
    (show_lines_from l.fn.number (lines_in l.fn.text) ≡ show_lines_from l.number (lines_in l.rest))
    × (l.number + length l.rest ≤ 67108865)

abbrev pub decreases-loop-line : goal.decreases-loop-line
decreases-loop-line l = length l.rest
