use Rattle.std.proofs.Common.{◌≡◌, ◌<◌, ◌+◌, ◌∙◌, replicate, subst, sym, refl, arith}
use Rattle.rw_mend.specs.Drops.{AreCandidates}
use Rattle.rw_mend.specs.Readings.{programs_in}
use Rattle.rw_mend.specs.Steps.{AreReported, IsMendedTo}
use Rattle.rw_mend.proofs.Coming.{candidates_are}
use Rattle.rw_mend.proofs.Losing.{few_losses, losses_more, no_losses}
use Rattle.rw_mend.proofs.Running.{mended_next, none_done}
use Rattle.rw_mend.proofs.Reporting.{has_source, tally_few, reported_more}
use Rattle.rw_mend.proofs.many.mend_all.Goals as goal

pub loop-n-init : goal.loop-n-init
loop-n-init c = record {
  decoding = c.new-mender.ensures;
  words = refl;
  done = none_done c.args.readings.now c.new-mender.result.words c.args.packs.now
      (AreReported c.args.sources.now c.new-mender.result.words c.args.sources.now c.new-tallies.result
      (replicate 254 0))
      (record { tallies_are = c.new-tallies.ensures; size = refl; put = λ room. refl }, no_losses);
}

pub add-requires : goal.add-requires
add-requires c =
    let done = c.loop-n.invariant.done in
    let few =
    tally_few c.args.sources.now c.loop-n.mender.words c.loop-n.n c.loop-n.sources c.loop-n.tallies done.said
    done.found done.count done.has_it.0 in
    let within : c.loop-n.n < 4000000 =
    omega (arith, c.loop-n-test.true, c.words-n-end.ensures, c.new-mender.ensures.few) in
    record {
      source = has_source c.candidates-candidates.result.now c.mend-found.result
          (omega (arith, c.candidates-candidates.ensures.count, c.requires.readings.few))
          c.mend-found.ensures;
      agreed = omega (arith, within, few.0);
      none = omega (arith, within, few.1);
      of_reading = λ r lt. omega (arith, within, few.2 r lt);
    }

pub count_lost-requires-clause-few : goal.count_lost-requires-clause-few
count_lost-requires-clause-few c r lt =
    let done = c.loop-n.invariant.done in
    let few =
    few_losses c.loop-n.n c.loop-n.lost done.said done.found r done.said_count done.count done.has_it.1
    (omega (arith, lt, c.candidates-candidates.ensures.count, c.requires.readings.few)) in
    omega (arith, few, c.loop-n-test.true, c.words-n-end.ensures, c.new-mender.ensures.few)

pub loop-n-preserved : goal.loop-n-preserved
loop-n-preserved c =
    let readings = c.args.readings.now in
    let n = c.loop-n.n in
    let all = c.loop-n.mender.words in
    let words : c.come_to.new.self.words ≡ all = c.come_to.ensures.words in
    let within : n < all =
    omega (arith, c.loop-n-test.true, c.words-n-end.ensures, c.loop-n.invariant.words) in
    let candidates = c.candidates-candidates.result.now in
    let found = c.mend-found.result in
    let said : AreCandidates all (programs_in readings) n candidates =
    subst (λ w. AreCandidates w (programs_in readings) n candidates) words
    (candidates_are readings n c.come_to.new.self candidates c.come_to.ensures.at
    c.candidates-candidates.ensures.candidates c.candidates-candidates.ensures.count) in
    let done =
    mended_next readings all n c.args.packs.now c.loop-n.packs c.put.new.packs
    (AreReported c.args.sources.now all c.loop-n.sources c.loop-n.tallies c.loop-n.lost)
    (AreReported c.args.sources.now all c.put_source.new.sources c.add.new.self c.count_lost.new.lost)
    candidates
    found
    c.loop-n.invariant.done said c.mend-found.ensures c.put.ensures.size c.put.ensures.packs
    (λ before before_found said_size found_size was. (
      reported_more c.args.sources.now all n c.loop-n.sources c.put_source.new.sources c.loop-n.tallies
          c.add.new.self candidates found within c.put_source.ensures.size c.put_source.ensures.put
          c.add.ensures before before_found said_size found_size was.0,
      losses_more n c.loop-n.lost c.count_lost.new.lost candidates found c.count_lost.ensures.size
          c.count_lost.ensures.each c.count_lost.ensures.others before before_found said_size found_size
          was.1,
    )) in
    record {
      decoding = c.come_to.ensures.at.decoding;
      words = words ∙ c.loop-n.invariant.words;
      done = subst
          (λ w. IsMendedTo readings w (n + 1) c.args.packs.now c.put.new.packs
          (AreReported c.args.sources.now w c.put_source.new.sources c.add.new.self c.count_lost.new.lost))
          (sym words) done;
    }
