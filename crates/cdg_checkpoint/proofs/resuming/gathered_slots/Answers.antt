use Rattle.std.proofs.Common.{◌-◌, ◌+◌, ◌*◌, ap, ◌∙◌, refl, arith}
use Rattle.std.specs.Prelude.{min}
use Rattle.raw_subcode.specs.Channels.{symbols_of}
use Rattle.cdg_checkpoint.specs.Checkpoint.{checkpoint_in}
use Rattle.cdg_checkpoint.proofs.GoneOn.{slots_all, slots_more}
use Rattle.cdg_checkpoint.proofs.resuming.gathered_slots.Goals as goal

pub loop-k-preserved : goal.loop-k-preserved
loop-k-preserved c =
    slots_more (checkpoint_in c.args.file.now).slots _ (7 - c.min-kept.result) c.loop-k.k
    (7 - c.min-kept.result + c.loop-k.k) c.loop-k.gather _ refl c.loop-k.invariant
    (c.new.ensures ∙ ap symbols_of c.slot-slot.ensures) c.push.ensures.next

pub returns : goal.returns
returns c =
    slots_all (checkpoint_in c.args.file.now).slots c.min-kept.result c.loop-k.k
    (min 7 (4 * (checkpoint_in c.args.file.now).program)) c.loop-k.gather
    (omega (arith, c.min-kept.ensures, c.counts-program.ensures.program))
    (omega
    (arith, c.min-kept.ensures, c.counts-program.ensures.program, c.loop-k.auto.k-end, c.loop-k-test.false))
    c.loop-k.invariant
