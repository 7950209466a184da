use Rattle.std.proofs.Common.{rules, sym, ◌∙◌, arith}
use Rattle.cdg_cmd.proofs.Commands.{none_made}
use Rattle.cdg_cmd.proofs.FourWords.{four_long, four_of, four_texts, same_four}
use Rattle.cdg_cmd.proofs.command.read_lengths.Goals as goal

pub returns-in_err-read_lead_in-in-len4-clause-all : goal.returns-in_err-read_lead_in-in-len4-clause-all
returns-in_err-read_lead_in-in-len4-clause-all c = λ lead_in length within below is.
    let w = same_four _ _ _ _ _ _ _ _
    (sym (four_texts c.args.words.now _ _ _ _ c.in-len4.len_at_least c.in-len4.len_below c.option-item.is
    c.number-item.is c.second-item.is c.time-item.is) ∙ is) in
    absurd (none_made _ (c.in_err-read_lead_in-in-len4.ensures.all lead_in within (c.deref.ensures ∙ w.0)
    (c.deref-in-len4.ensures ∙ w.1)))

pub returns-in_err-read_time-in-len4-clause-all : goal.returns-in_err-read_time-in-len4-clause-all
returns-in_err-read_time-in-len4-clause-all c = λ lead_in length within below is.
    let w = same_four _ _ _ _ _ _ _ _
    (sym (four_texts c.args.words.now _ _ _ _ c.in-len4.len_at_least c.in-len4.len_below c.option-item.is
    c.number-item.is c.second-item.is c.time-item.is) ∙ is) in
    absurd (none_made _ (c.in_err-read_time-in-len4.ensures.all length below (c.deref-in-len4-2.ensures ∙ w.2)
    (c.deref-in-len4-3.ensures ∙ w.3)))

pub returns-in_ok-read_time-in-len4-clause-spelled : goal.returns-in_ok-read_time-in-len4-clause-spelled
returns-in_ok-read_time-in-len4-clause-spelled c =
    let one = c.in_ok-read_lead_in-in-len4.ensures.spelled in
    let two = c.in_ok-read_time-in-len4.ensures.spelled in (
      one.0,
      two.0,
      four_texts c.args.words.now _ _ _ _ c.in-len4.len_at_least c.in-len4.len_below c.option-item.is
          c.number-item.is c.second-item.is c.time-item.is
          ∙ four_of _ _ _ _ _ _ _ _ (sym c.deref.ensures ∙ one.1) (sym c.deref-in-len4.ensures ∙ one.2)
          (sym c.deref-in-len4-2.ensures ∙ two.1) (sym c.deref-in-len4-3.ensures ∙ two.2),
    )

pub returns-in_ok-read_time-in-len4-clause-all : goal.returns-in_ok-read_time-in-len4-clause-all
returns-in_ok-read_time-in-len4-clause-all c = λ lead_in length within below is.
    let w = same_four _ _ _ _ _ _ _ _
    (sym (four_texts c.args.words.now _ _ _ _ c.in-len4.len_at_least c.in-len4.len_below c.option-item.is
    c.number-item.is c.second-item.is c.time-item.is) ∙ is) in
    let one =
    c.in_ok-read_lead_in-in-len4.ensures.all lead_in within (c.deref.ensures ∙ w.0)
    (c.deref-in-len4.ensures ∙ w.1) in
    let two =
    c.in_ok-read_time-in-len4.ensures.all length below (c.deref-in-len4-2.ensures ∙ w.2)
    (c.deref-in-len4-3.ensures ∙ w.3) in
    search rules

pub returns-in_default-clause-all : goal.returns-in_default-clause-all
returns-in_default-clause-all c = λ lead_in length within below is.
    absurd (omega (arith, four_long c.args.words.now _ _ _ _ is, c.in_default.len_below))

pub returns-in_default-2-clause-all : goal.returns-in_default-2-clause-all
returns-in_default-2-clause-all c = λ lead_in length within below is.
    absurd (omega (arith, four_long c.args.words.now _ _ _ _ is, c.in_default.len_at_least))
