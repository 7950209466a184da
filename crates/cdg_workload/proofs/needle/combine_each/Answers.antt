use Rattle.std.proofs.Common.{◌-◌, ◌∙◌, refl, length-set, arith}
use Rattle.cdg_workload.proofs.BlockRuns.{combined_none, combined_more}
use Rattle.cdg_workload.proofs.needle.combine_each.Goals as goal

pub loop-i-init : goal.loop-i-init
loop-i-init c = record {
  size = refl;
  begun = omega arith;
  within = c.requires.order;
  changed = combined_none c.args.bytes.now c.args.from (c.args.from - c.args.from) c.args.change
      (omega arith);
  rest = refl;
}

pub loop-i-preserved : goal.loop-i-preserved
loop-i-preserved c =
    let all = c.loop-i.invariant in
    let (changed, rest) =
    combined_more c.args.bytes.now c.loop-i.bytes c.args.from c.loop-i.i c.args.change all.size
    all.begun (omega (arith, c.requires.within)) all.changed all.rest in
    record {
      size = length-set c.loop-i.bytes c.loop-i.i _ ∙ all.size;
      begun = omega (arith, all.begun);
      within = omega arith;
      changed = changed;
      rest = rest;
    }
