use Rattle.std.proofs.Common.{◌∙◌, ◌<◌, sym, arith, take}
use Rattle.std.proofs.lemmas.List.{length-set}
use Rattle.std.proofs.lemmas.List.Elements.{All-set}
use Rattle.text_lines.specs.Text.{words_in}
use Rattle.picture_script.specs.ScriptGrammar.{numbers_in}
use Rattle.picture_script.proofs.Numbers.{no_word, no_number, one_more, word_too_many, all_read}
use Rattle.picture_script.proofs.grammar.numbers.Goals as goal

pub returns-in_err-word-clause-value : goal.returns-in_err-word-clause-value
returns-in_err-word-clause-value g c =
    c.from_residual.ensures
    ∙ sym (no_word (numbers_in g.row.N (words_in c.args.line.now)) g.row.N c.loop-i.i
    (take c.loop-i.i c.loop-i.numbers) (words_in c.loop-i.rest.now) c.loop-i-test.true
    c.in_err-word.ensures.words c.loop-i.invariant.0)

pub returns-in_err-numbers-clause-value : goal.returns-in_err-numbers-clause-value
returns-in_err-numbers-clause-value g c =
    c.from_residual-in_err-numbers.ensures
    ∙ sym (no_number (numbers_in g.row.N (words_in c.args.line.now)) g.row.N c.loop-i.i
    (take c.loop-i.i c.loop-i.numbers) c.in_ok-word.word.now (words_in c.loop-i.rest.now)
    (words_in c.in_ok-word.after.now) c.loop-i-test.true
    c.in_ok-word.ensures.words (sym c.in_err-numbers.ensures.value) c.loop-i.invariant.0)

pub loop-i-preserved : goal.loop-i-preserved
loop-i-preserved g c = (
  one_more (numbers_in g.row.N (words_in c.args.line.now)) g.row.N c.loop-i.i c.in_ok-numbers.field-0
      c.loop-i.numbers c.in_ok-word.word.now (words_in c.loop-i.rest.now) (words_in c.in_ok-word.after.now)
      c.loop-i-test.true (omega (arith, c.loop-i.invariant.1)) c.in_ok-word.ensures.words
      (sym c.in_ok-numbers.ensures.value) c.loop-i.invariant.0,
  length-set c.loop-i.numbers c.loop-i.i c.in_ok-numbers.field-0 ∙ c.loop-i.invariant.1,
  All-set (λ n. n < 1000) c.loop-i.numbers c.loop-i.i c.in_ok-numbers.field-0 c.in_ok-numbers.ensures.below
      c.loop-i.invariant.2,
)

pub returns-in-Some-clause-value : goal.returns-in-Some-clause-value
returns-in-Some-clause-value g c =
    let e = c.in-Some.ensures.words in
    sym (word_too_many (numbers_in g.row.N (words_in c.args.line.now)) g.row.N c.loop-i.i
    (take c.loop-i.i c.loop-i.numbers) c.in-Some.field-0.0.now (words_in c.loop-i.rest.now)
    (words_in c.in-Some.field-0.1.now) c.loop-i-test.false e c.loop-i.invariant.0)

pub returns-in-None-clause-value : goal.returns-in-None-clause-value
returns-in-None-clause-value g c =
    let e = c.in-None.ensures.words in
    sym (all_read (numbers_in g.row.N (words_in c.args.line.now)) g.row.N c.loop-i.i c.loop-i.numbers
    (words_in c.loop-i.rest.now) c.loop-i-test.false c.loop-i.invariant.1 e c.loop-i.invariant.0)
