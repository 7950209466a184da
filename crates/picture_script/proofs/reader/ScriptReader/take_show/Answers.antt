use Rattle.std.proofs.Common.{sym, ◌∙◌, arith}
use Rattle.text_lines.specs.Text.{words_in}
use Rattle.picture_script.specs.Script.{Show}
use Rattle.picture_script.specs.ScriptGrammar.{show_line}
use Rattle.picture_script.proofs.Refusals.{bad_line, held_short, ready_early, too_many, shown_line}
use Rattle.picture_script.proofs.reader.ScriptReader.take_show.Goals as goal

pub returns-in_default : goal.returns-in_default
returns-in_default c = λ before read.
    bad_line before (show_line (words_in c.args.words.now)) c.in_default.ensures.value

pub returns-then-hold-ready : goal.returns-then-hold-ready
returns-then-hold-ready c = λ before read.
    held_short before (show_line (words_in c.args.words.now)) c.in-Some.ready
    c.in-Some.hold c.in-Some.ensures.value c.if-hold-ready.true

pub returns-then-not-is_after_hold : goal.returns-then-not-is_after_hold
returns-then-not-is_after_hold c = λ before read.
    ready_early before (show_line (words_in c.args.words.now)) c.in-Some.ready
    c.in-Some.hold c.in-Some.ensures.value c.if-hold-ready.false
    (sym (c.is_after_hold.ensures before read) ∙ c.if-not-is_after_hold.true)

pub returns-then-self-ge-MOST_PICTURES : goal.returns-then-self-ge-MOST_PICTURES
returns-then-self-ge-MOST_PICTURES c = λ before read.
    too_many before (show_line (words_in c.args.words.now)) c.in-Some.ready c.in-Some.hold
    c.in-Some.ensures.value c.if-hold-ready.false
    (sym (c.is_after_hold.ensures before read) ∙ c.if-not-is_after_hold.false)
    (omega (arith, read.0.count, c.if-self-ge-MOST_PICTURES.true))

pub take_picture-requires-clause-read : goal.take_picture-requires-clause-read
take_picture-requires-clause-read c = (
  c.requires.0,
  c.requires.1,
  sym (c.is_after_hold.ensures c.requires.0 c.requires.1) ∙ c.if-not-is_after_hold.false,
  omega (arith, c.requires.1.0.count, c.if-self-ge-MOST_PICTURES.false),
)

pub returns : goal.returns
returns c = λ before read. (
  Show c.in-Some.ready c.in-Some.hold,
  shown_line before (show_line (words_in c.args.words.now)) c.in-Some.ready
      c.in-Some.hold c.in-Some.ensures.value c.if-hold-ready.false
      (sym (c.is_after_hold.ensures before read) ∙ c.if-not-is_after_hold.false)
      (omega (arith, read.0.count, c.if-self-ge-MOST_PICTURES.false)),
  c.take_picture.ensures before read,
)
