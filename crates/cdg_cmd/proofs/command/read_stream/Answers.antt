use Rattle.std.proofs.Common.{rules, subst}
use Rattle.cdg_cmd.specs.Words.{IsFormOption}
use Rattle.cdg_cmd.proofs.LastWords.{after_two}
use Rattle.cdg_cmd.proofs.command.read_stream.Goals as goal

pub returns-in_err-read_form-in-len2-up-clause-all : goal.returns-in_err-read_form-in-len2-up-clause-all
returns-in_err-read_form-in-len2-up-clause-all c =
    λ lead_in form within spelled. let (rest, named, is) = spelled in
    let again =
    c.read_form.ensures.all form (subst (IsFormOption form) (after_two c.args.words.now _ _ rest is) named) in
    let a = c.in_err-read_form-in-len2-up.was in search rules
