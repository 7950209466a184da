use Rattle.std.proofs.Common.{◌≡◌, ◌≤◌, ◌+◌, List, length}
use Rattle.text_lines.specs.Text.{lines_in}
use Rattle.picture_script.specs.Script.{Drawing}
use Rattle.picture_script.specs.ScriptGrammar.{read_script, checked_lines}
use Rattle.picture_script.specs.Reader.{Followed}
use Rattle.picture_script.proofs.script.Script.parse.Given as goal

abbrev pub invariant-loop-line : goal.invariant-loop-line
invariant-loop-line l =
    ((before : List Drawing) × Followed before l.reader
    × (checked_lines l.number before (lines_in l.rest) ≡ read_script l.text))
    × (l.number + length l.rest ≤ 67108865)

abbrev pub decreases-loop-line : goal.decreases-loop-line
decreases-loop-line l = length l.rest
