use Rattle.std.proofs.Common.{◌≡◌, drop}
use Rattle.cdtext_packs.specs.Reading.{size_pack}
use Rattle.cdtext_packs.proofs.reading.size_pack.Given as goal

abbrev pub invariant-loop-slot : goal.invariant-loop-slot
invariant-loop-slot l = size_pack (drop l.slot-index l.kept) l.d ≡ size_pack l.kept l.d
