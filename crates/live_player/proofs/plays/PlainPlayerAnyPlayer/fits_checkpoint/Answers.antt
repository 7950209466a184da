use Rattle.std.proofs.Common.{inr, refl, rules}
use Rattle.live_player.specs.Plain.{player_of}
use Rattle.live_player.proofs.plays.PlainPlayerAnyPlayer.fits_checkpoint.Goals as goal

pub returns-then-self-eq0-clause-refused : goal.returns-then-self-eq0-clause-refused
returns-then-self-eq0-clause-refused c other =
    inr (c.is_too_long.ensures.refused (search rules) (player_of c.args.self.now) refl refl)
