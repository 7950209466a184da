use Rattle.std.proofs.Common.{◌++◌, ap, sym, ◌∙◌}
use Rattle.std.specs.Prelude.{codes}
use Rattle.bit_lists.specs.Digits.{digits, hex_digits, hex_of}
use Rattle.disc_time.specs.Time.{time_text}
use Rattle.q_channel.specs.QLine.{frame_text, point_text}
use Rattle.q_channel.specs.declared.frame.QFrame.{QFrame}
use Rattle.q_channel.proofs.LineParts.{behind, named_behind}
use Rattle.q_channel.proofs.lines.add_frame.Goals as goal

pub returns-in-Program-clause-text : goal.returns-in-Program-clause-text
returns-in-Program-clause-text c =
    let f = c.in-Program in
    let text = c.args.text.now in
    let control = hex_digits 1 f.control in
    let track = control ++ codes " track " ++ digits 2 f.track in
    let index = track ++ codes " index " ++ digits 2 f.index in
    let time = index ++ codes " " ++ time_text f.time in
    named_behind text _ _ time (codes " abs ") (time_text f.absolute)
    (named_behind text _ _ index (codes " ") (time_text f.time)
    (named_behind text _ _ track (codes " index ") (digits 2 f.index) (named_behind text _ _ control
    (codes " track ") (digits 2 f.track) c.add_digit.ensures.text c.add_number.ensures.text)
    c.add_number-in-Program.ensures.text)
    c.add_time.ensures.text)
    c.add_time-in-Program.ensures.text
    ∙ ap (λ (f : QFrame). text ++ frame_text f) (sym c.in-Program.is)

pub returns-in-Toc-clause-text : goal.returns-in-Toc-clause-text
returns-in-Toc-clause-text c =
    let f = c.in-Toc in
    let text = c.args.text.now in
    let control = hex_digits 1 f.control in
    let begun = control ++ codes " toc " in
    named_behind text _ _ (begun ++ point_text f.point) (codes " time ") (time_text f.time)
    (behind text _ _ begun (point_text f.point)
    (behind text _ _ control (codes " toc ") c.add_digit-in-Toc.ensures.text c.add.ensures.bytes)
    c.add_point.ensures.text)
    c.add_time-in-Toc.ensures.text
    ∙ ap (λ (f : QFrame). text ++ frame_text f) (sym c.in-Toc.is)

pub returns-in-Catalogue-clause-text : goal.returns-in-Catalogue-clause-text
returns-in-Catalogue-clause-text c =
    let f = c.in-Catalogue in
    let text = c.args.text.now in
    let control = hex_digits 1 f.control in
    let begun = control ++ codes " catalogue " in
    named_behind text _ _ (begun ++ f.digits) (codes " frame ") (digits 2 f.frame)
    (behind text _ _ begun f.digits (behind text _ _ control (codes " catalogue ")
    c.add_digit-in-Catalogue.ensures.text c.add-in-Catalogue.ensures.bytes)
    c.add-in-Catalogue-2.ensures.bytes)
    c.add_number-in-Catalogue.ensures.text
    ∙ ap (λ (f : QFrame). text ++ frame_text f) (sym c.in-Catalogue.is)

pub returns-in-Isrc-clause-text : goal.returns-in-Isrc-clause-text
returns-in-Isrc-clause-text c =
    let f = c.in-Isrc in
    let text = c.args.text.now in
    let control = hex_digits 1 f.control in
    let begun = control ++ codes " isrc " in
    named_behind text _ _ (begun ++ f.code) (codes " frame ") (digits 2 f.frame)
    (behind text _ _ begun f.code
    (behind text _ _ control (codes " isrc ") c.add_digit-in-Isrc.ensures.text c.add-in-Isrc.ensures.bytes)
    c.add-in-Isrc-2.ensures.bytes)
    c.add_number-in-Isrc.ensures.text
    ∙ ap (λ (f : QFrame). text ++ frame_text f) (sym c.in-Isrc.is)

pub returns-in-Other-clause-text : goal.returns-in-Other-clause-text
returns-in-Other-clause-text c =
    let f = c.in-Other in
    let text = c.args.text.now in
    let control = hex_digits 1 f.control in
    let begun = control ++ codes " other " in
    let mode = begun ++ hex_digits 1 f.adr in
    behind text _ _ (mode ++ codes " ") (hex_of f.rest)
    (behind text _ _ mode (codes " ")
    (behind text _ _ begun (hex_digits 1 f.adr)
    (behind text _ _ control (codes " other ") c.add_digit-in-Other.ensures.text c.add-in-Other.ensures.bytes)
    c.add_digit-in-Other-2.ensures.text)
    c.add-in-Other-2.ensures.bytes)
    c.add_hex.ensures.text
    ∙ ap (λ (f : QFrame). text ++ frame_text f) (sym c.in-Other.is)
