use Rattle.std.proofs.Common.{rules, sym, ap₂, ◌∙◌, ◌++◌, ◌∷◌, [], take, ◌-◌, length, ℕ, List, subst}
use Rattle.cdg_cmd.specs.Words.{IsStreamOptions, texts}
use Rattle.cdg_cmd.proofs.LastWords.{same_ends, with_last_two}
use Rattle.cdg_cmd.proofs.command.read_timed.Goals as goal

pub returns-in_err-lead_in-in-len2-up-clause-all : goal.returns-in_err-lead_in-in-len2-up-clause-all
returns-in_err-lead_in-in-len2-up-clause-all c =
    λ lead_in form at within below spelled. let (options, stream, is) = spelled in
    let ends =
    same_ends _ options _ _ _ _ (sym
    (with_last_two c.args.words.now _ _ c.in-len2-up.len_at_least c.option-item.is c.time-item.is)
    ∙ is) in
    let again =
    c.read_stream.ensures.all lead_in form within
    (subst (IsStreamOptions lead_in form) (sym ends.0) stream) in
    search rules

pub returns-in_ok-at-in-len2-up-clause-spelled : goal.returns-in_ok-at-in-len2-up-clause-spelled
returns-in_ok-at-in-len2-up-clause-spelled c =
    let stream = c.in_ok-lead_in-in-len2-up.ensures.spelled in
    let time = c.in_ok-at-in-len2-up.ensures.spelled in (
      stream.0,
      time.0,
      (
        texts (take (length c.args.words.now - 2) c.args.words.now),
        stream.1,
        with_last_two c.args.words.now _ _ c.in-len2-up.len_at_least c.option-item.is c.time-item.is
            ∙ ap₂
            (λ (a b : List ℕ). texts (take (length c.args.words.now - 2) c.args.words.now) ++ a ∷ b ∷ [])
            (sym c.deref.ensures ∙ time.1) (sym c.deref-in-len2-up.ensures ∙ time.2),
      ),
    )

pub returns-in_ok-at-in-len2-up-clause-all : goal.returns-in_ok-at-in-len2-up-clause-all
returns-in_ok-at-in-len2-up-clause-all c =
    λ lead_in form at within below spelled. let (options, stream, is) = spelled in
    let ends =
    same_ends _ options _ _ _ _ (sym
    (with_last_two c.args.words.now _ _ c.in-len2-up.len_at_least c.option-item.is c.time-item.is)
    ∙ is) in
    let again =
    c.read_stream.ensures.all lead_in form within
    (subst (IsStreamOptions lead_in form) (sym ends.0) stream) in
    let time =
    c.read_time.ensures.all at below (c.deref.ensures ∙ ends.1) (c.deref-in-len2-up.ensures ∙ ends.2) in
    let first = c.in_ok-lead_in-in-len2-up.was in
    let second = c.in_ok-at-in-len2-up.was in
    search rules
