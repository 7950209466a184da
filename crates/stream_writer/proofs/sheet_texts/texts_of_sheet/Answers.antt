use Rattle.std.proofs.Common.{◌≡◌, ◌∙◌, ◌-◌, length, sym, subst, arith}
use Rattle.std.specs.Result.{IfOk}
use Rattle.std.proofs.lemmas.Result.{IfOk-from_err}
use Rattle.cdtext_packs.specs.Texts.{Texts}
use Rattle.stream_writer.proofs.SheetStrings.{sheet_texts_are}
use Rattle.stream_writer.proofs.sheet_texts.texts_of_sheet.Goals as goal

pub of_strings-requires-clause-first : goal.of_strings-requires-clause-first
of_strings-requires-clause-first c = c.first.ensures.bound.0

pub of_strings-requires-clause-some : goal.of_strings-requires-clause-some
of_strings-requires-clause-some c =
    omega (arith, c.in_ok-titles.ensures.strings.0.count_is, c.in_ok-titles.ensures.sheet.count.0)

pub of_strings-requires-clause-last : goal.of_strings-requires-clause-last
of_strings-requires-clause-last c =
    let sheet = c.args.sheet.now in
    let is = c.in_ok-titles.ensures.sheet in
    let some = is.count.0 in
    let end = is.tracks (length sheet.tracks - 1) (omega (arith, some)) in
    let last = is.next (length sheet.tracks - 1) (omega (arith, some)) in
    omega (
      arith,
      some,
      c.in_ok-titles.ensures.strings.0.count_is,
      c.first.ensures.number,
      last,
      end.number.1,
    )

pub of_strings-requires-clause-performers : goal.of_strings-requires-clause-performers
of_strings-requires-clause-performers c =
    c.in_ok-titles.ensures.strings.1.count_is ∙ sym c.in_ok-titles.ensures.strings.0.count_is

pub of_strings-requires-clause-songwriters : goal.of_strings-requires-clause-songwriters
of_strings-requires-clause-songwriters c =
    c.in_ok-songwriters.ensures.strings.0.count_is ∙ sym c.in_ok-titles.ensures.strings.0.count_is

pub of_strings-requires-clause-codes : goal.of_strings-requires-clause-codes
of_strings-requires-clause-codes c =
    c.in_ok-songwriters.ensures.strings.1.count_is ∙ sym c.in_ok-titles.ensures.strings.0.count_is

pub of_strings-requires-clause-strings : goal.of_strings-requires-clause-strings
of_strings-requires-clause-strings c =
    let one = c.in_ok-titles.ensures.strings in
    let other = c.in_ok-songwriters.ensures.strings in
    (one.0.each, one.1.each, other.0.each, other.1.each)

pub returns : goal.returns
returns c =
    let one = c.in_ok-titles.ensures.strings in
    let other = c.in_ok-songwriters.ensures.strings in
    let whole =
    sheet_texts_are c.args.sheet.now c.first.result c.in_ok-titles.titles c.in_ok-titles.performers
    c.in_ok-songwriters.songwriters c.in_ok-songwriters.codes
    c.in_ok-titles.ensures.sheet c.first.ensures.number one.0.strings_are one.1.strings_are
    other.0.strings_are other.1.strings_are in
    subst (λ (texts : Texts). IfOk c.of_strings.result (λ map. map ≡ texts)) whole c.of_strings.ensures

pub returns-in_err-titles : goal.returns-in_err-titles
returns-in_err-titles c = IfOk-from_err c.from_residual.result _ c.from_residual.ensures.0

pub returns-in_err-songwriters : goal.returns-in_err-songwriters
returns-in_err-songwriters c =
    IfOk-from_err c.from_residual-in_err-songwriters.result _ c.from_residual-in_err-songwriters.ensures.0
