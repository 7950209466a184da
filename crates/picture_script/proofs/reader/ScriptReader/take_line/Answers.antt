use Rattle.std.proofs.Common.{refl, sym, subst}
use Rattle.text_lines.specs.Text.{words_in}
use Rattle.picture_script.specs.Reader.{Takes}
use Rattle.picture_script.proofs.Refusals.{said_colour, said_border, said_fill, said_rect, said_row, said_show, said_nothing}
use Rattle.picture_script.proofs.reader.ScriptReader.take_line.Goals as goal

pub returns-in-Some : goal.returns-in-Some
returns-in-Some c = λ before read.
    subst (λ judged. Takes before judged c.take_colour.new.self c.take_colour.result)
    (sym (said_colour before (words_in c.args.line.now) (words_in c.in-Some.words.now)
    c.in-Some.ensures.words)) (c.take_colour.ensures before read)

pub returns-in-Some-after_word : goal.returns-in-Some-after_word
returns-in-Some-after_word c = λ before read.
    subst (λ judged. Takes before judged c.take_border.new.self c.take_border.result)
    (sym (said_border before (words_in c.args.line.now) (words_in c.in-Some-after_word.words.now)
    c.in-Some-after_word.ensures.words)) (c.take_border.ensures before read)

pub returns-in-Some-after_word-2 : goal.returns-in-Some-after_word-2
returns-in-Some-after_word-2 c = λ before read.
    subst (λ judged. Takes before judged c.take_fill.new.self c.take_fill.result)
    (sym (said_fill before (words_in c.args.line.now) (words_in c.in-Some-after_word-2.words.now)
    c.in-Some-after_word-2.ensures.words)) (c.take_fill.ensures before read)

pub returns-in-Some-after_word-3 : goal.returns-in-Some-after_word-3
returns-in-Some-after_word-3 c = λ before read.
    subst (λ judged. Takes before judged c.take_rect.new.self c.take_rect.result)
    (sym (said_rect before (words_in c.args.line.now) (words_in c.in-Some-after_word-3.words.now)
    c.in-Some-after_word-3.ensures.words)) (c.take_rect.ensures before read)

pub returns-in-Some-after_word-4 : goal.returns-in-Some-after_word-4
returns-in-Some-after_word-4 c = λ before read.
    subst (λ judged. Takes before judged c.take_row.new.self c.take_row.result)
    (sym (said_row before (words_in c.args.line.now) (words_in c.in-Some-after_word-4.words.now)
    c.in-Some-after_word-4.ensures.words)) (c.take_row.ensures before read)

pub returns-in-Some-after_word-5 : goal.returns-in-Some-after_word-5
returns-in-Some-after_word-5 c = λ before read.
    subst (λ judged. Takes before judged c.take_show.new.self c.take_show.result)
    (sym (said_show before (words_in c.args.line.now) (words_in c.in-Some-after_word-5.words.now)
    c.in-Some-after_word-5.ensures.words)) (c.take_show.ensures before read)

pub returns-in_default-after_word-5 : goal.returns-in_default-after_word-5
returns-in_default-after_word-5 c = λ before read.
    said_nothing before (words_in c.args.line.now)
    (c.in_default.ensures.none refl) (c.in_default-after_word.ensures.none refl)
    (c.in_default-after_word-2.ensures.none refl)
    (c.in_default-after_word-3.ensures.none refl) (c.in_default-after_word-4.ensures.none refl)
    (c.in_default-after_word-5.ensures.none refl)
