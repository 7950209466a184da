-- Players of C, and the files of their checkpoints.
use Rattle.std.specs.Prelude.{◌≡◌, ◌≢◌, ℕ, ℤ, negsuc, true, false, List, [], ◌∷◌}
use Rattle.live_player.specs.Saving.{LoadsLive, SavesLive}
use Rattle.live_player.specs.declared.live.LivePlayer.{LivePlayer}
use Rattle.ribjasper_c.specs.Handles.{PlayersGo}
use Rattle.ribjasper_c.specs.Looking.{IsUnchanged}
use Rattle.ribjasper_c.specs.declared.playing.Playing.{Playing}

-- An open player is saved to a file, or the answer says why not. A closed player is refused. The player is unchanged.
pub record SavesPlayer (before after : Playing) (old new : List ℕ) (answer : ℤ) : Type 0 where
  pub saves : before.is_open ≡ true
      → (player : LivePlayer) × (before.handle.players ≡ player ∷ []) × SavesLive player old new answer
  pub closed : before.is_open ≡ false → (answer ≡ negsuc 0) × (new ≡ old)
  pub same : IsUnchanged before after

-- An open player is restored from a file, or the answer says why not. A closed player is refused.
pub record LoadsPlayer (file : List ℕ) (before after : Playing) (old_byte new_byte : ℕ) (answer : ℤ)
    : Type 0 where
  pub loads : before.is_open ≡ true → PlayersGo before.handle.players after.handle.players
      (λ player next. LoadsLive file player next old_byte new_byte answer)
  pub closed : before.is_open ≡ false
      → (answer ≡ negsuc 0) × (after.handle.players ≡ before.handle.players) × (new_byte ≡ old_byte)
  pub stays : after.is_open ≡ before.is_open
