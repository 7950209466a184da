use Rattle.std.proofs.Common.{◌∙◌, sym, arith}
use Rattle.rw_mend.proofs.Bytes.{same_channels}
use Rattle.rw_mend.proofs.held_readings.have_same_channels.Goals as goal

pub returns : goal.returns
returns c = λ same.
    same_channels c.args.other.now c.args.one.now (c.requires.other ∙ sym c.requires.one)
    (λ i lt. c.loop-k.invariant same i (omega (arith, lt, c.requires.other, c.loop-k-test.false)))
