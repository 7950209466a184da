-- A player that reads several blocks or packs in one call, whatever it was given before.
use Rattle.std.specs.Prelude.{◌≡◌, List, [], ◌∷◌, ◌++◌, ℕ, map, reverse}
use Rattle.cdg_instructions.specs.declared.instr.Instr.{Instr}
use Rattle.cdg_screen.specs.Standing.{standing_after}
use Rattle.live_player.specs.Changes.{AreDrawnFor, ReportsChange}
use Rattle.live_player.specs.Lives.{Drawn, Fed, PlaysOn, drawn_for, instruction_of, standing_on}
use Rattle.live_player.specs.Steps.{TakesBlock}
use Rattle.live_player.specs.declared.change.ScreenChange.{ScreenChange}
use Rattle.live_player.specs.declared.live.LivePlayer.{LivePlayer}
use Rattle.stream_stages.specs.Steps.{words_next, words_give}
use Rattle.stream_stages.specs.declared.block_words.BlockWords.{BlockWords}

-- the player reads these blocks in turn
abbrev pub TakesBlocks : List (List ℕ) → LivePlayer → LivePlayer → Type 0
TakesBlocks [] before after = after ≡ before
TakesBlocks (block ∷ rest) before after =
    (next : LivePlayer) × TakesBlock block before next × TakesBlocks rest next after

-- the instructions of the words that end with blocks in turn, after the slots that were gathered before
abbrev pub instructions_from : BlockWords → List (List ℕ) → List Instr
instructions_from gathered [] = []
instructions_from gathered (block ∷ rest) =
    drawn_for (words_give gathered block) ++ instructions_from (words_next gathered block) rest

-- The player draws these packs in turn on its picture, and its other fields are unchanged.
pub record DrawsPacks (packs : List (List ℕ)) (before after : LivePlayer) : Type 0 where
  pub gathers : after.words ≡ before.words
  pub draws : standing_on after ≡ standing_after (standing_on before) (map instruction_of packs)
  pub lead_in : after.lead_in ≡ before.lead_in
  pub counts : after.blocks ≡ before.blocks
  pub bad : after.bad ≡ before.bad

-- A call feeds blocks in turn and reports what may have changed on the screen.
pub record FeedsBlocks (blocks : List (List ℕ)) (change : ScreenChange) (before after : LivePlayer)
    : Type 0 where
  pub takes : TakesBlocks blocks before after
  pub fed : PlaysOn (map Fed (reverse blocks)) before after
  pub drawn : AreDrawnFor blocks before (instructions_from before.words blocks)
  pub reports : ReportsChange change (instructions_from before.words blocks) before after

-- A call draws packs in turn and reports what may have changed on the screen.
pub record DrawsPacksReported (packs : List (List ℕ)) (change : ScreenChange) (before after : LivePlayer)
    : Type 0 where
  pub draws : DrawsPacks packs before after
  pub drawn : PlaysOn (map Drawn (reverse packs)) before after
  pub reports : ReportsChange change (map instruction_of packs) before after
