-- Opening a player.
use Rattle.std.specs.Prelude.{◌≡◌, ◌⊎◌, ℤ, pos, negsuc, Bool, true, false, List, []}
use Rattle.raw_subcode.specs.declared.form.Form.TheVariants.{Raw}
use Rattle.live_player.specs.declared.live.LivePlayer.{LivePlayer}
use Rattle.ribjasper_c.specs.Handles.{IsPlaying}

-- A player is opened: it has a raw stream with no lead-in and no input yet. If this is refused, the player was closed
-- and stays closed.
pub record OpensPlayer (was_open is_open : Bool) (players : List LivePlayer) (result : ℤ) : Type 0 where
  pub begun : result ≡ pos 0 → IsPlaying Raw 0 [] players
  pub opened : result ≡ pos 0 → is_open ≡ true
  pub refused : result ≡ negsuc 0 → was_open ≡ false
  pub none : result ≡ negsuc 0 → players ≡ []
  pub closed : result ≡ negsuc 0 → is_open ≡ false
  pub answer : (result ≡ pos 0) ⊎ (result ≡ negsuc 0)
