use Rattle.std.proofs.Common.{◌++◌, ap, sym, ◌∙◌}
use Rattle.std.specs.Prelude.{codes}
use Rattle.bit_lists.specs.Digits.{digits, hex_digits}
use Rattle.disc_time.specs.Time.{time_text}
use Rattle.q_channel.specs.QLine.{point_text}
use Rattle.q_channel.specs.declared.frame.TocPoint.{TocPoint}
use Rattle.q_channel.proofs.LineParts.{behind, named_behind}
use Rattle.q_channel.proofs.lines.add_point.Goals as goal

pub returns-in-Track-clause-text : goal.returns-in-Track-clause-text
returns-in-Track-clause-text c =
    named_behind c.args.text.now _ _ (codes "track " ++ digits 2 c.in-Track.number) (codes " start ")
    (time_text c.in-Track.start) c.add_number.ensures.text c.add_time.ensures.text
    ∙ ap (λ (p : TocPoint). c.args.text.now ++ point_text p) (sym c.in-Track.is)

pub returns-in-First-clause-text : goal.returns-in-First-clause-text
returns-in-First-clause-text c =
    let track = codes "first " ++ digits 2 c.in-First.track in
    behind c.args.text.now _ _ (track ++ codes " type ") (hex_digits 2 c.in-First.kind)
    (behind c.args.text.now _ _ track (codes " type ") c.add_number-in-First.ensures.text c.add.ensures.bytes)
    c.add_byte.ensures.text
    ∙ ap (λ (p : TocPoint). c.args.text.now ++ point_text p) (sym c.in-First.is)

pub returns-in-Last-clause-text : goal.returns-in-Last-clause-text
returns-in-Last-clause-text c =
    c.add_number-in-Last.ensures.text
    ∙ ap (λ (p : TocPoint). c.args.text.now ++ point_text p) (sym c.in-Last.is)

pub returns-in-LeadOut-clause-text : goal.returns-in-LeadOut-clause-text
returns-in-LeadOut-clause-text c =
    c.add_time-in-LeadOut.ensures.text
    ∙ ap (λ (p : TocPoint). c.args.text.now ++ point_text p) (sym c.in-LeadOut.is)
