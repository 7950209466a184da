use Rattle.std.proofs.Common.{subst, sym}
use Rattle.q_channel.specs.QReading.{IsReading}
use Rattle.q_channel.proofs.ReadingLaws.{is_reading, only_reading}
use Rattle.q_channel.proofs.laws.readings_are_functions.Goals as goal

pub returns : goal.returns
returns c message what size =
    (only_reading message what size, λ is. subst (IsReading message) (sym is) (is_reading message size))
