use Rattle.std.proofs.Common.{take}
use Rattle.cdtext_packs.proofs.KeptPacks.{SeenPacks}
use Rattle.cdtext_packs.proofs.reading.short_at.Given as goal

abbrev pub invariant-loop-slot : goal.invariant-loop-slot
invariant-loop-slot l = SeenPacks (take l.slot-index l.kept) l.kind l.ends l.slot-index l.last
