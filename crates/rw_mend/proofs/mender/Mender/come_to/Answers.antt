use Rattle.std.proofs.Common.{get_or, arith}
use Rattle.rw_mend.specs.Readings.{programs_in}
use Rattle.rw_mend.proofs.Coming.{at_word, held_words}
use Rattle.rw_mend.proofs.Missing.{few_dropped}
use Rattle.rw_mend.proofs.Reading.{count_is}
use Rattle.rw_mend.proofs.mender.Mender.come_to.Goals as goal

pub decode_all-requires-clause-within : goal.decode_all-requires-clause-within
decode_all-requires-clause-within c =
    held_words c.args.readings.now c.args.self.now.words c.args.n c.requires.decoding.words c.requires.within

pub say_next-requires-clause-held : goal.say_next-requires-clause-held
say_next-requires-clause-held c m lt =
    held_words c.args.readings.now c.args.self.now.words m c.requires.decoding.words lt

pub say_next-requires-clause-few : goal.say_next-requires-clause-few
say_next-requires-clause-few c r lt =
    let readings = c.args.readings.now in
    let mender = c.args.self.now in
    let was = c.requires.decoding in
    let few =
    few_dropped mender.words (programs_in readings) r c.args.n (get_or mender.dropped r 0)
    (was.dropped.each r (omega (arith, lt, count_is readings))) in
    omega (arith, few, c.requires.within, was.few)

pub returns-clause-at : goal.returns-clause-at
returns-clause-at c =
    at_word c.args.readings.now c.args.n c.args.self.now c.decode_all.new.histories c.decode_all.new.same_from
    c.decode_all.new.row c.say_next.new.silences c.say_next.new.calm c.say_next.new.said
    c.say_next.new.dropped
    c.requires.decoding
    c.requires.within c.decode_all.ensures.histories_size c.decode_all.ensures.same_size
    c.decode_all.ensures.histories
    c.decode_all.ensures.same c.decode_all.ensures.row c.say_next.ensures.row_size
    c.say_next.ensures.silences_size
    c.say_next.ensures.said_size c.say_next.ensures.dropped_size c.say_next.ensures.silences
    c.say_next.ensures.calm
    c.say_next.ensures.said c.say_next.ensures.dropped c.say_next.ensures.others
