use Rattle.std.proofs.Common.{◌≡◌, ◌-◌, ◌<◌, length, take}
use Rattle.std.specs.Prelude.{All}
use Rattle.text_lines.specs.Text.{words_in}
use Rattle.picture_script.specs.ScriptGrammar.{numbers_in}
use Rattle.picture_script.proofs.Numbers.{with_front}
use Rattle.picture_script.proofs.grammar.numbers.Given as goal

abbrev pub invariant-loop-i : goal.invariant-loop-i
invariant-loop-i g l = (numbers_in g.row.N (words_in l.line)
    ≡ with_front (take l.i l.numbers) (numbers_in (g.row.N - l.i) (words_in l.rest)))
    × (length l.numbers ≡ g.row.N)
    × All (λ n. n < 1000) l.numbers
