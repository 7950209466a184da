use Rattle.subcode_author.proofs.Late.{NeedsAreKnown}
use Rattle.subcode_author.proofs.Stages.{one_reason, not_refused}
use Rattle.subcode_author.proofs.Some.{an_answer}
use Rattle.subcode_author.proofs.laws.each_disc_has_one_answer.Goals as goal

pub returns-clause-some : goal.returns-clause-some
returns-clause-some c sheet script lead_in audio ranges small =
    let p = c.needs_are_fewest.ensures in
    let needs : NeedsAreKnown = record { change = p.change; planned = p.planned; one = p.one } in
    an_answer needs sheet script lead_in audio ranges small

pub returns-clause-not_both : goal.returns-clause-not_both
returns-clause-not_both c sheet script lead_in audio stop is h =
    let p = c.needs_are_fewest.ensures in
    let needs : NeedsAreKnown = record { change = p.change; planned = p.planned; one = p.one } in
    not_refused needs sheet script lead_in audio stop is h

pub returns-clause-one : goal.returns-clause-one
returns-clause-one c sheet script lead_in audio stop other h h' reported reported' =
    let p = c.needs_are_fewest.ensures in
    let needs : NeedsAreKnown = record { change = p.change; planned = p.planned; one = p.one } in
    one_reason needs sheet script lead_in audio stop other h h' reported reported'
