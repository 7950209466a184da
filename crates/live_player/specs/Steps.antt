-- The effect of a block or a pack on a player, whatever the player was given before. After loading a file, nothing
-- else may be known about the player.
use Rattle.std.specs.Prelude.{◌≡◌, ◌+◌, ◌-◌, ◌^◌, ℕ, List, [], ◌∷◌, min, Option, Some, None}
use Rattle.arrayvec.specs.ArrayVec.{ArrayVec}
use Rattle.cdg_screen.specs.Standing.{standing_after}
use Rattle.stream_stages.specs.Steps.{words_next, words_give}
use Rattle.live_player.specs.Lives.{bad_counted, drawn_for, instruction_of, standing_on}
use Rattle.live_player.specs.declared.live.LivePlayer.{LivePlayer}

-- the words that end with a block, if any
abbrev pub words_come : Option (ArrayVec (List ℕ)) → List (List ℕ)
words_come (Some words) = words.items
words_come None = []

-- The player reads a block: it gathers its slots, draws the words that end with it on the screen, and counts.
pub record TakesBlock (block : List ℕ) (before after : LivePlayer) : Type 0 where
  pub gathers : after.words ≡ words_next before.words block
  pub draws : standing_on after
      ≡ standing_after (standing_on before) (drawn_for (words_give before.words block))
  pub lead_in : after.lead_in ≡ before.lead_in
  pub counts : after.blocks ≡ min (before.blocks + 1) (2 ^ 32 - 1)
  pub bad : after.bad ≡ bad_counted before.bad (words_give before.words block)

-- The player draws a pack on its screen, and its other fields are unchanged.
pub record DrawsPack (pack : List ℕ) (before after : LivePlayer) : Type 0 where
  pub gathers : after.words ≡ before.words
  pub draws : standing_on after ≡ standing_after (standing_on before) (instruction_of pack ∷ [])
  pub lead_in : after.lead_in ≡ before.lead_in
  pub counts : after.blocks ≡ before.blocks
  pub bad : after.bad ≡ before.bad
