-- The state before any stream, and the file that saves the state after one.
use Rattle.std.specs.Prelude.{◌≡◌, ℕ, ◌-◌, List, min, []}
use Rattle.cdg_checkpoint.specs.Checkpoint.{Checkpoint, file_of}
use Rattle.cdg_io.specs.declared.stage.Then.{Then}
use Rattle.rw_interleave.specs.Gathering.{kept_symbols}
use Rattle.stream_stages.specs.Stages.{painting_of, words_of}
use Rattle.stream_stages.specs.declared.block_words.BlockWords.{BlockWords}
use Rattle.stream_stages.specs.declared.painting.Painting.{Painting}
use Rattle.cdg_screen.specs.Standing.{blank}
use Rattle.raw_subcode.specs.declared.form.Form.TheVariants.{Raw}
use Rattle.stream_stages.specs.Steps.{fresh_words}
use Rattle.cdg_checkpoint.specs.declared.checkpointer.Checkpointer.{Checkpointer}

-- nothing is read yet: there are no slots, no packs to draw, no bad words and no file, and the screen is all zero
pub record HasReadNothing (c : Checkpointer) : Type 0 where
  pub words : words_of c.words ≡ fresh_words Raw 0
  pub left : (painting_of c.words).left ≡ 0
  pub bad : (painting_of c.words).bad ≡ 0
  pub stands : (painting_of c.words).screen ≡ blank
  pub file : c.file ≡ []

-- This is the file of the checkpoint of this state, after `blocks` blocks. The first `lead_in` of them are the lead-in.
pub record IsKept (blocks lead_in : ℕ) (s : Then BlockWords Painting) (file : List ℕ) : Type 0 where
  pub checkpoint : Checkpoint
  pub to_come_is : checkpoint.to_come ≡ lead_in - blocks
  pub lead_in_is : checkpoint.lead_in ≡ min blocks lead_in
  pub program_is : checkpoint.program ≡ blocks - lead_in
  pub bad_is : checkpoint.bad ≡ (painting_of s).bad
  pub slots_are : checkpoint.slots ≡ kept_symbols (words_of s).gather
  pub stands : checkpoint.standing ≡ (painting_of s).screen
  pub file_is : file ≡ file_of checkpoint
