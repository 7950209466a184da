use Rattle.std.proofs.Common.{◌≡◌, ◌+◌, ◌-◌, ◌∙◌, Some, None, Ok, take, sym, ap, inl, inr, refl, rules, arith}
use Rattle.std.proofs.lemmas.Result.{err_from_is_err_and}
use Rattle.std.specs.Option.{option_map}
use Rattle.cdtext_packs.specs.Reading.{first_missing, first_short, kind_packs, last_number, all_texts}
use Rattle.cdtext_packs.specs.declared.kinds.TextFault.TheVariants.{Missing, Malformed}
use Rattle.cdtext_packs.proofs.Steps.{one_missing, none_missing, one_short, no_short, all_read, given_texts, given_reason}
use Rattle.cdtext_packs.proofs.reader.read_numbers.Goals as goal

pub returns-in-Some : goal.returns-in-Some
returns-in-Some c =
    let read =
    one_missing c.args.kept.now c.args.count c.args.first c.args.last c.in-Some.seq (sym c.in-Some.ensures) in
    record { texts = tt; fault = inr read; refused = given_reason _ _ (Missing c.in-Some.seq) read refl }

pub returns-in-Some-first_short : goal.returns-in-Some-first_short
returns-in-Some-first_short c =
    let used = take c.args.count c.args.kept.now in
    let missing : first_missing c.args.kept.now c.args.count ≡ None = search rules in
    let short : option_map (λ kind. last_number (kind_packs (take c.args.count c.args.kept.now) kind))
    (first_short (take c.args.count c.args.kept.now) (c.args.last - c.args.first + 2))
    ≡ Some c.in-Some-first_short.seq =
    search rules in
    let read = none_missing c.args.kept.now c.args.count c.args.first c.args.last missing
    ∙ one_short used c.args.first c.args.last c.in-Some-first_short.seq
    (first_short used (c.args.last - c.args.first + 2)) short in
    record {
      texts = tt;
      fault = inr read;
      refused = given_reason _ _ (Malformed c.in-Some-first_short.seq 15) read refl;
    }

pub returns : goal.returns
returns c =
    let used = take c.args.count c.args.kept.now in
    let missing : first_missing c.args.kept.now c.args.count ≡ None = search rules in
    let short : option_map (λ kind. last_number (kind_packs (take c.args.count c.args.kept.now) kind))
    (first_short (take c.args.count c.args.kept.now) (c.args.last - c.args.first + 2))
    ≡ None =
    search rules in
    let read = none_missing c.args.kept.now c.args.count c.args.first c.args.last missing
    ∙ all_read used c.args.first c.args.last (first_short used (c.args.last - c.args.first + 2))
    (no_short used (first_short used (c.args.last - c.args.first + 2)) short) in
    record {
      texts = read ∙ ap Ok (sym c.in_ok-of_packs.ensures);
      fault = tt;
      refused = given_texts _ _ (all_texts used c.args.first c.args.last) read;
    }

pub returns-in_err-of_packs : goal.returns-in_err-of_packs
returns-in_err-of_packs c =
    let used = take c.args.count c.args.kept.now in
    let missing : first_missing c.args.kept.now c.args.count ≡ None = search rules in
    let short : option_map (λ kind. last_number (kind_packs (take c.args.count c.args.kept.now) kind))
    (first_short (take c.args.count c.args.kept.now) (c.args.last - c.args.first + 2))
    ≡ None =
    search rules in
    let read = none_missing c.args.kept.now c.args.count c.args.first c.args.last missing
    ∙ all_read used c.args.first c.args.last (first_short used (c.args.last - c.args.first + 2))
    (no_short used (first_short used (c.args.last - c.args.first + 2)) short) in
    let failed = err_from_is_err_and c.from_residual.result c.from_residual.ensures.1 in
    rw (failed.1, failed.2) (record {
      texts = tt;
      fault = inl refl;
      refused = given_texts _ _ (all_texts used c.args.first c.args.last) read;
    })

pub first_missing-requires-clause-kept : goal.first_missing-requires-clause-kept
first_missing-requires-clause-kept c = omega arith

pub first_missing-requires-clause-count : goal.first_missing-requires-clause-count
first_missing-requires-clause-count c = omega arith

pub overflow_sub-last : goal.overflow_sub-last
overflow_sub-last c = omega arith

pub overflow_add-from : goal.overflow_add-from
overflow_add-from c = omega arith

pub overflow_sub-result : goal.overflow_sub-result
overflow_sub-result c = omega arith

pub overflow_cast-result : goal.overflow_cast-result
overflow_cast-result c = omega arith

pub of_packs-requires-clause-first : goal.of_packs-requires-clause-first
of_packs-requires-clause-first c = omega arith

pub of_packs-requires-clause-last : goal.of_packs-requires-clause-last
of_packs-requires-clause-last c = omega arith

pub of_packs-requires-clause-limit : goal.of_packs-requires-clause-limit
of_packs-requires-clause-limit c = omega arith
