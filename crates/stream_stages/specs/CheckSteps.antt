-- The steps of the stages that count words and frames.
use Rattle.std.specs.Prelude.{◌≡◌, ℕ, true, false, ◌+◌, ◌-◌, ◌^◌, Bool, ◌==◌, min, if◌then◌else◌, List, [], ◌∷◌, ◌++◌, Option, None, is_none, is_ok, is_err}
use Rattle.arrayvec.specs.ArrayVec.{ArrayVec}
use Rattle.cdg_io.specs.Run.{then_second, then_gives}
use Rattle.rw_code.specs.Finding.{finding}
use Rattle.raw_subcode.specs.Channels.{q_bits}
use Rattle.raw_subcode.specs.declared.form.Form.{Form}
use Rattle.raw_subcode.specs.declared.form.Form.TheVariants.{Raw, Sector, Cooked}
use Rattle.rw_interleave.specs.Stream.{word_count}
use Rattle.q_channel.specs.ReadingOf.{reading_of}
use Rattle.stream_stages.specs.Steps.{fresh_words, words_next, words_give}
use Rattle.stream_stages.specs.Stages.{counts_of, words_of}
use Rattle.stream_stages.specs.Check.{has_wrong, found_passes, is_idle, is_graphics, is_unknown, is_foreign, stream_lines, wrong_lines, pack_count_lines, frame_count_lines}
use Rattle.stream_stages.specs.declared.counting.NearIdle.{NearIdle}
use Rattle.stream_stages.specs.declared.counting.WordCounts.{WordCounts}
use Rattle.stream_stages.specs.declared.counting.FrameCounts.{FrameCounts}
use Rattle.stream_stages.specs.declared.counting.Counting.{Counting}

-- a count of 32 bits, which saturates
unfoldable pub tick : Bool → ℕ → ℕ
tick hit n = if hit then min (n + 1) (2 ^ 32 - 1) else n

-- the counts after a word with this number of wrong symbols
abbrev pub wrong_counted : WordCounts → ℕ → WordCounts
wrong_counted s wrong = record s {
  clean = tick (wrong == 0) s.clean;
  one = tick (wrong == 1) s.one;
  two = tick (wrong == 2) s.two;
}

-- the counts after a pack of this mode and code
abbrev pub kind_counted : WordCounts → ℕ → ℕ → WordCounts
kind_counted s mode code = record s {
  idle = tick (is_idle mode code) s.idle;
  graphics = tick (is_graphics mode code) s.graphics;
  unknown = tick (is_unknown mode code) s.unknown;
  foreign = tick (is_foreign mode code) s.foreign;
}

-- the counts after one more word that is corrected to the idle pack and has this number of wrong symbols
abbrev pub near_counted : NearIdle → ℕ → NearIdle
near_counted near wrong = record {
  clean = near.clean + (if wrong == 0 then 1 else 0);
  one = near.one + (if wrong == 1 then 1 else 0);
  two = near.two + (if wrong == 2 then 1 else 0);
}

-- the counts after words that are corrected to the idle pack
abbrev pub with_near : WordCounts → NearIdle → WordCounts
with_near s near = record s {
  clean = min (s.clean + near.clean) (2 ^ 32 - 1);
  one = min (s.one + near.one) (2 ^ 32 - 1);
  two = min (s.two + near.two) (2 ^ 32 - 1);
  idle = min (s.idle + (near.clean + near.one + near.two)) (2 ^ 32 - 1);
}

-- the counts after a word and its correction
unfoldable pub count_found : WordCounts → List ℕ → Option (List ℕ) → WordCounts
count_found s word found = record {
  clean = tick (has_wrong 0 (word, found)) s.clean;
  one = tick (has_wrong 1 (word, found)) s.one;
  two = tick (has_wrong 2 (word, found)) s.two;
  bad = tick (is_none found) s.bad;
  idle = tick (found_passes is_idle found) s.idle;
  graphics = tick (found_passes is_graphics found) s.graphics;
  unknown = tick (found_passes is_unknown found) s.unknown;
  foreign = tick (found_passes is_foreign found) s.foreign;
}

-- the counts after a word
abbrev pub count_next : WordCounts → List ℕ → WordCounts
count_next s word = count_found s word (finding word)

-- the counts after some words
unfoldable pub count_after : WordCounts → List (List ℕ) → WordCounts
count_after s [] = s
count_after s (word ∷ words) = count_after (count_next s word) words

-- the counts after the words of a block
unfoldable pub counts_next : WordCounts → ArrayVec (List ℕ) → WordCounts
counts_next s words = count_after s words.items

-- the stage has no output for words
unfoldable pub counts_give : WordCounts → ArrayVec (List ℕ) → Option (List ℕ)
counts_give s words = None

-- the counts after the frame of a block, if frames are read
unfoldable pub frames_next : FrameCounts → List ℕ → FrameCounts
frames_next s block =
    if s.read then record s {
      good = tick (is_ok (reading_of (q_bits block))) s.good;
      bad = tick (is_err (reading_of (q_bits block))) s.bad;
    } else s

-- the counts after a block
unfoldable pub counting_next : Counting → List ℕ → Counting
counting_next s block = record {
  frames = frames_next s.frames block;
  words = record {
    first = words_next s.words.first block;
    second = then_second counts_next s.words.second (words_give s.words.first block);
  };
}

-- the stage has no output for a block
unfoldable pub counting_gives : Counting → List ℕ → Option (List ℕ)
counting_gives s block = then_gives counts_give s.words.second (words_give s.words.first block)

-- the lines of the counts after this number of blocks
unfoldable pub lines_of_counts : Form → ℕ → ℕ → Counting → List ℕ
lines_of_counts form lead_in blocks s =
    let counts : WordCounts = counts_of s.words in
    stream_lines (min lead_in blocks) (blocks - lead_in) (word_count form (blocks - lead_in))
    ++ (wrong_lines counts.clean counts.one counts.two counts.bad
    ++ (pack_count_lines counts.idle counts.graphics counts.unknown counts.foreign
    ++ frame_count_lines s.frames.good s.frames.bad))

-- whether streams of this form have a Q channel
abbrev pub has_frames : Form → Bool
has_frames Raw = true
has_frames Sector = true
has_frames Cooked = false

-- the counts before the first word
abbrev pub nothing_counted : WordCounts
nothing_counted = record {
  clean = 0;
  one = 0;
  two = 0;
  bad = 0;
  idle = 0;
  graphics = 0;
  unknown = 0;
  foreign = 0;
}

-- The counts are those before the first block of a stream. Frames are read unless the form is cooked.
pub record IsFresh (form : Form) (lead_in : ℕ) (s : Counting) : Type 0 where
  pub words : words_of s.words ≡ fresh_words form lead_in
  pub counts : counts_of s.words ≡ nothing_counted
  pub frames : s.frames ≡ record { read = has_frames form; good = 0; bad = 0 }
