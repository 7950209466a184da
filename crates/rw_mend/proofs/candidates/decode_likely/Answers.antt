use Rattle.std.proofs.Common.{rules, ◌≡◌, ◌≢◌}
use Rattle.rw_mend.specs.declared.candidates.Coverage.TheVariants.{Unread}
use Rattle.rw_mend.proofs.Decoding.{near_is, silent_is}
use Rattle.rw_mend.proofs.candidates.decode_likely.Goals as goal

pub returns-then-eq : goal.returns-then-eq
returns-then-eq c =
    let unread : c.args.reading.now.coverage ≡ Unread = search rules in
    silent_is c.args.reading.now unread

pub returns-in-Some : goal.returns-in-Some
returns-in-Some c =
    let is_read : c.args.reading.now.coverage ≢ Unread = search rules in
    near_is c.args.reading.now c.in-Some.fixed.pack c.distance.result is_read c.in-Some.ensures.word
    c.in-Some.ensures.near.0
    (c.distance.ensures c.args.reading.now.word c.in-Some.ensures.near.1)
