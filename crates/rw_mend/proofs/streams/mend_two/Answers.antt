use Rattle.std.proofs.Common.{◌≡◌, ◌<◌, ◌+◌, ◌∙◌, ◌++◌, ◌∷◌, [], subst, sym, refl, arith}
use Rattle.rw_mend.specs.Drops.{AreCandidates}
use Rattle.rw_mend.specs.Readings.{programs_in}
use Rattle.rw_mend.specs.Steps.{AreCounted, IsMendedTo}
use Rattle.rw_mend.specs.Streams.{AreCounts}
use Rattle.rw_mend.proofs.Coming.{candidates_are}
use Rattle.rw_mend.proofs.Running.{are_few, counted_more, mended_next, none_done}
use Rattle.rw_mend.proofs.streams.mend_two.Goals as goal

pub loop-n-init : goal.loop-n-init
loop-n-init c = record {
  decoding = c.new-mender.ensures;
  words = refl;
  done = none_done c.args.readings.now c.new-mender.result.words c.args.packs.now
      (AreCounted c.zero-counts.result) c.zero-counts.ensures;
}

pub add-requires : goal.add-requires
add-requires c =
    let few =
    are_few c.args.readings.now c.loop-n.mender.words c.loop-n.n c.args.packs.now c.loop-n.packs
    c.loop-n.counts
    c.loop-n.invariant.done in
    let within : c.loop-n.n < 4000000 =
    omega (arith, c.loop-n-test.true, c.words-n-end.ensures, c.new-mender.ensures.few) in
    record {
      both = omega (arith, within, few.both);
      of_first = omega (arith, within, few.of_first);
      of_second = omega (arith, within, few.of_second);
      agreed = omega (arith, within, few.agreed);
      none = omega (arith, within, few.none);
    }

pub loop-n-preserved : goal.loop-n-preserved
loop-n-preserved c =
    let readings = c.args.readings.now in
    let n = c.loop-n.n in
    let words : c.come_to.new.self.words ≡ c.loop-n.mender.words = c.come_to.ensures.words in
    let said : AreCandidates c.loop-n.mender.words (programs_in readings) n
    c.candidates-candidates.result.now =
    subst (λ w. AreCandidates w (programs_in readings) n c.candidates-candidates.result.now) words
    (candidates_are readings n c.come_to.new.self c.candidates-candidates.result.now c.come_to.ensures.at
    c.candidates-candidates.ensures.candidates c.candidates-candidates.ensures.count) in
    let done =
    mended_next readings c.loop-n.mender.words n c.args.packs.now c.loop-n.packs c.put.new.packs
    (AreCounted c.loop-n.counts) (AreCounted c.add.new.self) c.candidates-candidates.result.now
    c.mend-found.result
    c.loop-n.invariant.done said c.mend-found.ensures c.put.ensures.size c.put.ensures.packs
    (counted_more c.loop-n.counts c.add.new.self c.candidates-candidates.result.now c.mend-found.result n
    (λ all are.
    subst (λ f. AreCounts (all ++ f ∷ []) c.add.new.self) c.found_by.ensures (c.add.ensures all are))) in
    record {
      decoding = c.come_to.ensures.at.decoding;
      words = words ∙ c.loop-n.invariant.words;
      done = subst
          (λ w. IsMendedTo readings w (n + 1) c.args.packs.now c.put.new.packs (AreCounted c.add.new.self))
          (sym words) done;
    }
