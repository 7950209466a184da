use Rattle.std.proofs.Common.{◌*◌, ◌-◌, take, drop, length, refl}
use Rattle.cdg_workload.proofs.Rows.{row_scratched}
use Rattle.cdg_workload.proofs.scratching.ScratchesInPlace.change_row.Goals as goal

pub returns-clause-next : goal.returns-clause-next
returns-clause-next c =
    let bytes = c.args.blocks.now in
    let k = 96 * c.min-kept.result in
    (row_scratched c.args.self.now c.scratch_all.new.self bytes (take (length bytes - k) (drop k bytes))
    c.scratch_all.new.bytes c.args.count c.min-kept.result k c.requires c.min-kept.ensures refl refl
    c.scratch_all.ensures.next c.scratch_all.ensures.gives).0

pub returns-clause-gives : goal.returns-clause-gives
returns-clause-gives c =
    let bytes = c.args.blocks.now in
    let k = 96 * c.min-kept.result in
    (row_scratched c.args.self.now c.scratch_all.new.self bytes (take (length bytes - k) (drop k bytes))
    c.scratch_all.new.bytes c.args.count c.min-kept.result k c.requires c.min-kept.ensures refl refl
    c.scratch_all.ensures.next c.scratch_all.ensures.gives).1
