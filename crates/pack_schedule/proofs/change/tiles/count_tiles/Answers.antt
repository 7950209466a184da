use Rattle.std.proofs.Common.{◌∙◌, ◌+◌, ◌/◌, ◌%◌, ap, arith}
use Rattle.std.specs.Prelude.{Some, None, slice_index}
use Rattle.picture_script.specs.Script.{picture_tile}
use Rattle.pack_schedule.proofs.Counting.{all_tiles, none_counted, none_kept, one_counted, one_kept, all_zeros}
use Rattle.pack_schedule.proofs.change.tiles.count_tiles.Goals as goal

pub loop-i-init : goal.loop-i-init
loop-i-init c = (
  none_counted _ c.args.script.now c.args.k (λ d. all_zeros 16 d),
  none_kept c.args.script.now c.args.k c.args.weights.now c.requires.weights,
)

pub loop-i-preserved : goal.loop-i-preserved
loop-i-preserved c = (
  one_counted c.args.script.now c.args.k c.loop-i.i c.loop-i.counts.stands c.loop-i.counts.whole
      c.weigh_tile-taken.result c.add.new.self.stands c.add.new.self.whole c.loop-i.counts.single
      c.add.new.self.single c.loop-i.invariant.0
      c.weigh_tile-taken.ensures.taken c.add.ensures.stands
      (c.add.ensures.colours
      (picture_tile c.args.script.now c.args.k (c.loop-i.i / 48 + 1) (c.loop-i.i % 48 + 1))
      c.weigh_tile-taken.ensures.kept)
      c.add.ensures.few_stands c.add.ensures.few_whole c.add.ensures.few_single,
  one_kept c.args.script.now c.args.k c.loop-i.i c.loop-i.weights c.weigh_tile-taken.new.weights
      c.loop-i.invariant.1 c.weigh_tile-taken.ensures.kept c.weigh_tile-taken.ensures.others,
)

pub returns-clause-stands : goal.returns-clause-stands
returns-clause-stands c pos =
    c.loop-i.invariant.0.stands_are pos ∙ all_tiles c.args.script.now c.args.k None c.loop-i.i (omega arith)

pub returns-clause-colours : goal.returns-clause-colours
returns-clause-colours c d d_lt =
    c.loop-i.invariant.0.colours_are d d_lt
    ∙ ap (λ n. slice_index c.loop-i.counts.single d + n)
    (all_tiles c.args.script.now c.args.k (Some d) c.loop-i.i (omega arith))
