use Rattle.std.proofs.Common.{◌≡◌}
use Rattle.rw_mend.specs.Mender.{IsDecoding}
use Rattle.rw_mend.specs.Steps.{AreReported, IsMendedTo}
use Rattle.rw_mend.proofs.many.mend_all.Given as goal

abbrev pub invariant-loop-n : goal.invariant-loop-n
invariant-loop-n l = record {
  decoding : IsDecoding l.readings l.n l.mender;
  words : l.mender.words ≡ l.initial.mender.words;
  done : IsMendedTo l.readings l.mender.words l.n l.fn.packs l.packs
      (AreReported l.fn.sources l.mender.words l.sources l.tallies l.lost);
}
