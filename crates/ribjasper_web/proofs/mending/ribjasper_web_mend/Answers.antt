use Rattle.std.proofs.Common.{length, arith}
use Rattle.std.proofs.Math.Nat.{div-add-mod}
use Rattle.ribjasper_web.proofs.mending.ribjasper_web_mend.Goals as goal

pub mend_readings-mended-requires-clause-equal : goal.mend_readings-mended-requires-clause-equal
mend_readings-mended-requires-clause-equal c =
    let long = div-add-mod (length c.args.readings.now) c.args.count in
    omega (arith, long)
