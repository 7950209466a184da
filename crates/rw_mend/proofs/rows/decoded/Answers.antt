use Rattle.std.proofs.Common.{rules, ◌≡◌, true, sym, ◌∙◌}
use Rattle.rw_mend.specs.Words.{reading_at}
use Rattle.rw_mend.proofs.Givens.{reading-word}
use Rattle.rw_mend.proofs.Unread.{blank_by_blocks, reading-coverage}
use Rattle.rw_mend.proofs.rows.decoded.Goals as goal

pub returns-then-is_blank : goal.returns-then-is_blank
returns-then-is_blank c =
    let program = c.args.program.now in
    let n = c.args.n in
    let history = c.requires.history in
    let blank : c.is_blank.result ≡ true = search rules in
    let marks = c.is_blank.ensures blank in
    c.decode_blank.ensures (reading_at program n)
    (reading-coverage program n ∙ sym (c.coverage.ensures program history))
    (reading-word program n
    ∙ blank_by_blocks program n (sym history.first_blank ∙ marks.0) (sym history.second_blank ∙ marks.1)
    (λ apart. sym (history.third_blank apart) ∙ marks.2 apart))
