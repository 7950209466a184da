-- The counts of the blocks of a player.
use Rattle.std.specs.Prelude.{◌≡◌, ◌+◌, ◌-◌, ◌^◌, ℕ, List, [], ◌∷◌, length, min, sum_by, Option, Some, None, Result, Ok, Err}
use Rattle.raw_subcode.specs.declared.form.Form.{Form}
use Rattle.q_channel.specs.declared.frame.QFault.{QFault}
use Rattle.q_channel.specs.declared.frame.QFrame.{QFrame}
use Rattle.block_survey.specs.Plain.{plain_of, plain_kind}
use Rattle.block_survey.specs.declared.plain.PlainFrame.{PlainFrame}
use Rattle.block_survey.specs.Rows.{bad_words, reading_in, wrong_count}
use Rattle.live_player.specs.Lives.{Given, blocks_in, stream_words}
use Rattle.live_player.specs.Lives.Given.{Drawn, Fed}
use Rattle.block_survey.specs.declared.tally.PlayerTally.{PlayerTally}

-- a count, increased; it saturates
abbrev pub tallied_count : ℕ → ℕ → ℕ
tallied_count count more = min (count + more) (2 ^ 64 - 1)

-- the count of read frames after a block with this reading of its Q channel
abbrev pub more_read : ℕ → Option (Result QFrame QFault) → ℕ
more_read count (Some (Ok frame)) = tallied_count count 1
more_read count (Some (Err fault)) = count
more_read count None = count

-- the count of refused frames after such a block
abbrev pub more_refused : ℕ → Option (Result QFrame QFault) → ℕ
more_refused count (Some (Ok frame)) = count
more_refused count (Some (Err fault)) = tallied_count count 1
more_refused count None = count

-- the last frame that was read
abbrev pub frame_after : PlainFrame → Option (Result QFrame QFault) → PlainFrame
frame_after last (Some (Ok frame)) = plain_of frame
frame_after last (Some (Err fault)) = last
frame_after last None = last

-- the number of the block with the last frame that was read; the block with this reading has number `here`
abbrev pub place_after : ℕ → ℕ → Option (Result QFrame QFault) → ℕ
place_after last here (Some (Ok frame)) = here
place_after last here (Some (Err fault)) = last
place_after last here None = last

-- a tally after one more block of a stream of this form, with the words that end with it
abbrev pub tallied : Form → List (List ℕ) → List ℕ → PlayerTally → PlayerTally
tallied form words block t = record {
  blocks = tallied_count t.blocks 1;
  clean = tallied_count t.clean (wrong_count 0 words);
  one = tallied_count t.one (wrong_count 1 words);
  two = tallied_count t.two (wrong_count 2 words);
  bad = tallied_count t.bad (bad_words words);
  frames = more_read t.frames (reading_in form block);
  bad_frames = more_refused t.bad_frames (reading_in form block);
  frame_block = place_after t.frame_block (tallied_count t.blocks 1) (reading_in form block);
  frame = frame_after t.frame (reading_in form block);
}

-- 1 if a frame is read, else 0
abbrev pub read_count : Option (Result QFrame QFault) → ℕ
read_count (Some (Ok frame)) = 1
read_count (Some (Err fault)) = 0
read_count None = 0

-- 1 if a frame is refused, else 0
abbrev pub refused_count : Option (Result QFrame QFault) → ℕ
refused_count (Some (Ok frame)) = 0
refused_count (Some (Err fault)) = 1
refused_count None = 0

-- In the next two definitions, the last block or pack is the first of the list.

-- the last frame that was read from the blocks
abbrev pub last_frame : Form → List Given → PlainFrame
last_frame form [] = plain_kind 0 0
last_frame form (Fed block ∷ before) = frame_after (last_frame form before) (reading_in form block)
last_frame form (Drawn pack ∷ before) = last_frame form before

-- the number of the block of the last frame that was read, from 1
abbrev pub last_place : Form → List Given → ℕ
last_place form [] = 0
last_place form (Fed block ∷ before) =
    place_after (last_place form before) (min (length (blocks_in (Fed block ∷ before))) (2 ^ 64 - 1))
    (reading_in form block)
last_place form (Drawn pack ∷ before) = last_place form before

-- The tally is that of all blocks that a player was fed: their number, their words by the number of wrong symbols, the
-- frames that are read or refused, and the last frame that is read. A count saturates.
pub record IsTallyOf (form : Form) (lead_in : ℕ) (given : List Given) (tally : PlayerTally) : Type 0 where
  pub blocks : tally.blocks ≡ min (length (blocks_in given)) (2 ^ 64 - 1)
  pub clean : tally.clean ≡ min (wrong_count 0 (stream_words form lead_in (blocks_in given))) (2 ^ 64 - 1)
  pub one : tally.one ≡ min (wrong_count 1 (stream_words form lead_in (blocks_in given))) (2 ^ 64 - 1)
  pub two : tally.two ≡ min (wrong_count 2 (stream_words form lead_in (blocks_in given))) (2 ^ 64 - 1)
  pub bad : tally.bad ≡ min (bad_words (stream_words form lead_in (blocks_in given))) (2 ^ 64 - 1)
  pub frames : tally.frames
      ≡ min (sum_by (λ block. read_count (reading_in form block)) (blocks_in given)) (2 ^ 64 - 1)
  pub bad_frames : tally.bad_frames
      ≡ min (sum_by (λ block. refused_count (reading_in form block)) (blocks_in given)) (2 ^ 64 - 1)
  pub frame_block : tally.frame_block ≡ last_place form given
  pub frame : tally.frame ≡ last_frame form given
