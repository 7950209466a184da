-- A player and the file of its checkpoint.
use Rattle.std.specs.Prelude.{◌≡◌, ◌≢◌, ◌⊎◌, ◌+◌, ◌-◌, ◌<◌, ◌≤◌, ℕ, ℤ, pos, negsuc, List, [], length, min}
use Rattle.cdg_checkpoint.specs.Checkpoint.{Checkpoint, checkpoint_in, file_of}
use Rattle.cdg_checkpoint.specs.Resumed.{saved_slots}
use Rattle.cdg_checkpoint.specs.Table.{IsBadAt, IsCheckpointFile}
use Rattle.cdg_io.specs.Run.{run_state}
use Rattle.disc_time.specs.Counts.{most_lead_in}
use Rattle.raw_subcode.specs.Sizes.{most_units}
use Rattle.raw_subcode.specs.declared.form.Form.TheVariants.{Raw}
use Rattle.rw_interleave.specs.Gathering.{gather_next, kept_symbols}
use Rattle.live_player.specs.Lives.{Given, HasPlayed, blocks_in, standing_on}
use Rattle.live_player.specs.declared.live.LivePlayer.{LivePlayer}

-- the checkpoint of a player
abbrev pub checkpoint_of : LivePlayer → Checkpoint
checkpoint_of player = record {
  to_come = player.lead_in - player.blocks;
  lead_in = min player.blocks player.lead_in;
  program = player.blocks - player.lead_in;
  bad = player.bad;
  slots = kept_symbols player.words.gather;
  standing = standing_on player;
}

-- The player is at a checkpoint of a raw stream. It shows the picture of the checkpoint, it has the checkpoint's last
-- slots, and its counts are those of the checkpoint.
pub record IsAt (c : Checkpoint) (player : LivePlayer) : Type 0 where
  pub stands : standing_on player ≡ c.standing
  pub words : player.words ≡ record {
    form = Raw;
    lead_in = c.to_come;
    gather = run_state gather_next [] (saved_slots c);
  }
  pub lead_in : player.lead_in ≡ c.to_come + c.lead_in
  pub blocks : player.blocks ≡ c.lead_in + c.program
  pub bad : player.bad ≡ c.bad

-- the file is that of the player's checkpoint, and a valid one
abbrev pub IsSavedAs : List ℕ → LivePlayer → Type 0
IsSavedAs file player = (file ≡ file_of (checkpoint_of player)) × IsCheckpointFile file

-- the player has read more blocks than a checkpoint can count
abbrev pub IsTooLong : LivePlayer → Type 0
IsTooLong player = (most_lead_in < player.lead_in) ⊎ (most_units < player.blocks)

-- the player's stream is not raw, or the file of its checkpoint is not valid
abbrev pub CannotBeSaved : LivePlayer → Type 0
CannotBeSaved player = (player.words.form ≢ Raw) ⊎ (¬ IsCheckpointFile (file_of (checkpoint_of player)))

-- A call saves a player to a file. Its answer is 0 if the file is written, -1 if the player cannot be saved, or 7 if
-- the call is out of memory.
pub record SavesLive (player : LivePlayer) (old new : List ℕ) (answer : ℤ) : Type 0 where
  pub saved : answer ≡ pos 0 → IsSavedAs new player
  pub refused : answer ≡ negsuc 0 → CannotBeSaved player
  -- a player of a raw stream that a checkpoint can count is never refused
  pub can : (lead_in : ℕ) (given : List Given) → HasPlayed Raw lead_in given player
      → lead_in ≤ most_lead_in → length (blocks_in given) ≤ most_units → answer ≢ negsuc 0
  -- a player of packs or sectors is refused, and a player of a longer stream, whatever memory there is
  pub packs : player.words.form ≢ Raw → answer ≡ negsuc 0
  pub long : IsTooLong player → answer ≡ negsuc 0
  pub answers : (answer ≡ pos 0) ⊎ (answer ≡ negsuc 0) ⊎ (answer ≡ pos 7)
  pub untouched : answer ≢ pos 0 → new ≡ old

-- A call restores a player from a file. Its answer is 0 if the player is restored, 3 if the file is not valid, or 7 if
-- the call is out of memory. For an invalid file it writes the number of the first byte of the first invalid field.
pub record LoadsLive (file : List ℕ) (before after : LivePlayer) (old_byte new_byte : ℕ) (answer : ℤ)
    : Type 0 where
  pub loaded : answer ≡ pos 0 → IsCheckpointFile file × IsAt (checkpoint_in file) after
  -- if the file is that of a saved player, the player behaves as if it had been given all that the saved one was given
  pub goes_on : answer ≡ pos 0 → (saved : LivePlayer) (lead_in : ℕ) (given : List Given)
      → IsSavedAs file saved → HasPlayed Raw lead_in given saved
      → lead_in ≤ most_lead_in → length (blocks_in given) ≤ most_units → HasPlayed Raw lead_in given after
  pub bad : answer ≡ pos 3 → IsBadAt file new_byte
  -- the call allocates only for a valid file
  pub memory : answer ≡ pos 7 → IsCheckpointFile file
  pub answers : (answer ≡ pos 0) ⊎ (answer ≡ pos 3) ⊎ (answer ≡ pos 7)
  pub refused : answer ≢ pos 0 → after ≡ before
  pub same : answer ≢ pos 3 → new_byte ≡ old_byte
