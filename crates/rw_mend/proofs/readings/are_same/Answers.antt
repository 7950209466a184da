use Rattle.std.proofs.Common.{◌∙◌, sym, arith}
use Rattle.std.proofs.lemmas.List.{ext_get_or}
use Rattle.rw_mend.proofs.readings.are_same.Goals as goal

pub returns : goal.returns
returns c = λ same.
    ext_get_or 0 c.args.other.now c.args.one.now (c.requires.other ∙ sym c.requires.one)
    (λ i lt. c.loop-k.invariant same i (omega (arith, lt, c.requires.other, c.loop-k-test.false)))
