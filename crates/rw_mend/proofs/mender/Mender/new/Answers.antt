use Rattle.std.proofs.Common.{arith, refl}
use Rattle.rw_mend.specs.Readings.{programs_in}
use Rattle.rw_mend.proofs.Coming.{none_followed, none_silent, zero_dropped}
use Rattle.rw_mend.proofs.mender.Mender.new.Goals as goal

pub returns : goal.returns
returns c = record {
  are = c.requires.readings;
  words = c.saturating_sub.ensures;
  few = omega (arith, c.saturating_sub.ensures, c.requires.few);
  histories_kept = refl;
  same_kept = refl;
  silences_kept = refl;
  said_kept = refl;
  dropped_kept = refl;
  histories = λ some. absurd (omega (arith, some));
  same = none_followed c.args.readings.now c.requires.readings;
  silences = none_silent c.saturating_sub.result c.args.readings.now c.new-3.result c.requires.readings
      (λ r. c.new-3.ensures c.saturating_sub.result r (programs_in c.args.readings.now));
  calm = record { none = λ m from to. absurd (omega (arith, to)) };
  dropped = zero_dropped c.args.readings.now c.saturating_sub.result c.requires.readings;
}
