-- A player that a call only reads.
use Rattle.std.specs.Prelude.{◌≡◌}
use Rattle.ribjasper_c.specs.declared.playing.Playing.{Playing}

-- The player is unchanged, and open or closed as before.
pub record IsUnchanged (before after : Playing) : Type 0 where
  pub stays : after.is_open ≡ before.is_open
  pub same : after.handle.players ≡ before.handle.players
