use Rattle.std.proofs.Common.{◌≡◌}
use Rattle.rw_mend.specs.Mender.{IsDecoding}
use Rattle.rw_mend.specs.Steps.{AreCounted, IsMendedTo}
use Rattle.rw_mend.proofs.streams.mend_two.Given as goal

abbrev pub invariant-loop-n : goal.invariant-loop-n
invariant-loop-n l = record {
  decoding : IsDecoding l.readings l.n l.mender;
  words : l.mender.words ≡ l.initial.mender.words;
  done : IsMendedTo l.readings l.mender.words l.n l.fn.packs l.packs (AreCounted l.counts);
}
