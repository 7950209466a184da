-- Calls that give a player blocks and packs.
use Rattle.std.specs.Prelude.{◌≡◌, ℕ, ℤ, pos, negsuc, List, ◌++◌}
use Rattle.raw_subcode.specs.declared.form.Form.{Form}
use Rattle.live_player.specs.Lives.{Given}
use Rattle.live_player.specs.declared.live.LivePlayer.{LivePlayer}
use Rattle.ribjasper_c.specs.Handles.{IsPlaying, PlayersGo}

-- The player was given these inputs, the last one first, and `goes` holds for it before and after; or it is unchanged.
pub record GivesPlayer (more : List Given) (goes : LivePlayer → LivePlayer → Type 0)
    (old new : List LivePlayer) (result : ℤ) : Type 0 where
  pub given : result ≡ pos 0 → (form : Form) (lead_in : ℕ) (before : List Given)
      → IsPlaying form lead_in before old → IsPlaying form lead_in (more ++ before) new
  -- whatever the player was given before, also if it was loaded from a file
  pub went : result ≡ pos 0 → PlayersGo old new goes
  pub refused : result ≡ negsuc 0 → new ≡ old
