use Rattle.std.proofs.Common.{rules, ◌≡◌, true, replicate, sym, ap, ◌∙◌}
use Rattle.std.proofs.lemmas.Bool.Decides.{leb_tells}
use Rattle.std.proofs.Math.Dec.{leb}
use Rattle.rw_code.specs.Codeword.{differences}
use Rattle.rw_mend.proofs.Quiet.{blank_quiet, quiet_by_weight}
use Rattle.rw_mend.proofs.Unread.{blank_by_blocks}
use Rattle.rw_mend.proofs.silences.is_quiet_at.Goals as goal

pub returns-then-is_blank : goal.returns-then-is_blank
returns-then-is_blank c =
    let program = c.args.program.now in
    let history = c.requires.history in
    let blank : c.is_blank.result ≡ true = search rules in
    let marks = c.is_blank.ensures blank in
    sym (blank_quiet program c.args.m
    (blank_by_blocks program c.args.m (sym history.first_blank ∙ marks.0) (sym history.second_blank ∙ marks.1)
    (λ apart. sym (history.third_blank apart) ∙ marks.2 apart)))

pub returns : goal.returns
returns c =
    quiet_by_weight c.args.program.now c.args.m c.weight.result (leb c.weight.result 2)
    (c.weight.ensures.count ∙ ap (λ w. differences w (replicate 24 0)) c.word_at.ensures)
    (leb_tells c.weight.result 2)
