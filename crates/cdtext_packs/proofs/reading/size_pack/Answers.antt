use Rattle.std.proofs.Common.{Some, None, ◌∙◌, sym, arith}
use Rattle.cdtext_packs.proofs.KeptPacks.{slot_is, size_pack_skips, size_pack_passes, size_pack_found, size_pack_ends}
use Rattle.cdtext_packs.proofs.reading.size_pack.Goals as goal
use Rattle.cdtext_packs.proofs.reading.size_pack.Goals.{in-Some+else-is_size_pack, in_default}

pub returns-then-is_size_pack : goal.returns-then-is_size_pack
returns-then-is_size_pack c =
    sym (size_pack_found c.args.kept.now c.args.d c.loop-slot.slot-index c.in-Some.pack c.loop-slot-test.true
    (slot_is c.args.kept.now c.loop-slot.slot-index c.slot-item.result (Some c.in-Some.pack)
    c.loop-slot-test.true c.slot-item.is c.in-Some.is) (sym c.is_size_pack.ensures ∙ c.if-is_size_pack.true))
    ∙ c.loop-slot.invariant

pub loop-slot-preserved : goal.loop-slot-preserved
loop-slot-preserved c = elim c.match-slot.branch [
  | in-Some+else-is_size_pack w ↦
      sym (size_pack_passes c.args.kept.now c.args.d c.loop-slot.slot-index w.in-Some.pack
      c.loop-slot-test.true (slot_is c.args.kept.now c.loop-slot.slot-index c.slot-item.result
      (Some w.in-Some.pack) c.loop-slot-test.true c.slot-item.is w.in-Some.is)
      (sym w.is_size_pack.ensures ∙ w.if-is_size_pack.false))
      ∙ c.loop-slot.invariant
  | in_default w ↦
      sym (size_pack_skips c.args.kept.now c.args.d c.loop-slot.slot-index c.loop-slot-test.true
      (slot_is c.args.kept.now c.loop-slot.slot-index c.slot-item.result None c.loop-slot-test.true
      c.slot-item.is w.in_default.is))
      ∙ c.loop-slot.invariant
]

pub returns : goal.returns
returns c =
    sym (size_pack_ends c.args.kept.now c.args.d c.loop-slot.slot-index (omega arith)) ∙ c.loop-slot.invariant
