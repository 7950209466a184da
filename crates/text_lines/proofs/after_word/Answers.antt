use Rattle.std.proofs.Common.{◌≡◌, ℕ, ◌<◌, ◌≤◌, true, List, length, take, get_or, ap, arith}
use Rattle.std.proofs.lemmas.Grind.{common_steps}
use Rattle.text_lines.specs.Text.{is_blank}
use Rattle.text_lines.proofs.WordSteps.{front_word, first_stands, first_over, rest_begins, word_at}
use Rattle.text_lines.proofs.after_word.Goals as goal
use Rattle.text_lines.proofs.after_word.Goals.{else-not-is_empty-via-then-not-is_empty+else-not-is_blank, else-not-is_empty-via-else-not-is_empty}

whole_front : (line word : List ℕ) (i : ℕ) → i ≤ length word → length word ≤ i → take i line ≡ take i word
    → take (length word) line ≡ word
whole_front line word i high low same = grind (arith, common_steps)

pub returns-then-line-word-clause-none : goal.returns-then-line-word-clause-none
returns-then-line-word-clause-none c none at =
    let stands = first_stands c.args.word.now c.args.line.now c.requires.trimmed c.requires.some at in
    grind (arith, common_steps, ap length stands)

pub returns-then-line-i-clause-none : goal.returns-then-line-i-clause-none
returns-then-line-i-clause-none c none at =
    let stands = first_stands c.args.word.now c.args.line.now c.requires.trimmed c.requires.some at in
    let same : get_or c.args.line.now c.loop-i.i 0 ≡ get_or c.args.word.now c.loop-i.i 0 =
    word_at c.args.word.now c.args.line.now c.loop-i.i stands (omega arith) in
    grind (arith, common_steps, same)

pub returns-then-not-is_blank-clause-none : goal.returns-then-not-is_blank-clause-none
returns-then-not-is_blank-clause-none c none at =
    let line = c.args.line.now in
    let word = c.args.word.now in
    let here : get_or c.split_at.result.1.now 0 0 ≡ get_or line (length word) 0 =
    rest_begins line c.split_at.result.1.now (length word) c.split_at.ensures.back in
    let more : length word < length line = grind (arith, c.split_at.ensures.back_len) in
    let over : is_blank (get_or line (length word) 0) ≡ true =
    first_over word line c.requires.trimmed c.requires.some at more in
    grind (arith, common_steps, over, here, c.is_blank.ensures)

pub returns-clause-words : goal.returns-clause-words
returns-clause-words c =
    let line = c.args.line.now in
    let word = c.args.word.now in
    let begins : take (length word) line ≡ word =
    whole_front line word c.loop-i.i (omega arith) (omega arith) c.loop-i.invariant in
    let here : get_or c.split_at.result.1.now 0 0 ≡ get_or line (length word) 0 =
    rest_begins line c.split_at.result.1.now (length word) c.split_at.ensures.back in
    front_word word line c.split_at.result.1.now begins c.requires.some c.requires.whole
    (λ more. elim c.else-not-is_empty.branch [
      | else-not-is_empty-via-then-not-is_empty+else-not-is_blank w ↦
          grind (arith, common_steps, here, w.is_blank.ensures)
      | else-not-is_empty-via-else-not-is_empty w ↦ absurd (grind (arith, c.split_at.ensures.back_len))
    ])
    c.split_at.ensures.back
