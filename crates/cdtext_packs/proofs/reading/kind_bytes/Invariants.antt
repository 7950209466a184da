use Rattle.std.proofs.Common.{◌≡◌, ◌≤◌, ◌*◌, length, take}
use Rattle.cdtext_packs.specs.Reading.{kind_bytes}
use Rattle.cdtext_packs.proofs.reading.kind_bytes.Given as goal

abbrev pub invariant-loop-slot : goal.invariant-loop-slot
invariant-loop-slot l = (l.bytes.items ≡ kind_bytes (take l.slot-index l.kept) l.kind)
    × (length l.bytes.items ≤ 12 * l.slot-index)
