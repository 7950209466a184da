use Rattle.std.proofs.Common.{rules, ◌≡◌, ◌≢◌}
use Rattle.rw_mend.specs.declared.candidates.Coverage.TheVariants.{Unread}
use Rattle.rw_mend.proofs.Decoding.{lost_is, near_is, silent_is}
use Rattle.rw_mend.proofs.candidates.decode.Goals as goal

pub returns-then-eq : goal.returns-then-eq
returns-then-eq c =
    let unread : c.args.reading.now.coverage ≡ Unread = search rules in
    silent_is c.args.reading.now unread

pub returns-in-Some : goal.returns-in-Some
returns-in-Some c =
    let is_read : c.args.reading.now.coverage ≢ Unread = search rules in
    near_is c.args.reading.now c.in-Some.fixed.pack c.distance.result is_read c.in-Some.ensures.word
    c.in-Some.ensures.reads.0
    (c.distance.ensures c.args.reading.now.word c.in-Some.ensures.reads.1)

pub returns-in-None : goal.returns-in-None
returns-in-None c =
    let is_read : c.args.reading.now.coverage ≢ Unread = search rules in
    lost_is c.args.reading.now is_read c.in-None.ensures.word c.in-None.ensures.reads
