-- One row for each block of a stream: its fields, the counts of the words of a block, and the sums of rows.
use Rattle.std.specs.Prelude.{ℕ, suc, ◌-◌, ◌/◌, ◌==◌, if◌then◌else◌, List, [], length, map, count_by, slice_index_or, Option, Some, None, is_none, Result, Ok, Err, ◌+◌, ◌≡◌, Bool, nat_le, ◌++◌, sum_by}
use Rattle.std.specs.List.{list_all, range_with_len}
use Rattle.bit_lists.specs.Counting.{below}
use Rattle.rw_code.specs.Finding.{finding}
use Rattle.raw_subcode.specs.Channels.{unit_size, q_bits, blocks_of, program_symbols}
use Rattle.raw_subcode.specs.declared.form.Form.{Form}
use Rattle.raw_subcode.specs.declared.form.Form.TheVariants.{Raw, Sector, Cooked}
use Rattle.rw_interleave.specs.Stream.{word_count, form_word}
use Rattle.q_channel.specs.ReadingOf.{reading_of}
use Rattle.q_channel.specs.declared.frame.QFrame.{QFrame}
use Rattle.q_channel.specs.declared.frame.QFrame.TheVariants.{Program}
use Rattle.q_channel.specs.declared.frame.QFault.{QFault}
use Rattle.q_channel.specs.declared.frame.QFault.TheVariants.{BadCrc, BadField}
use Rattle.block_survey.specs.Plain.{plain_of, plain_kind}
use Rattle.block_survey.specs.declared.plain.PlainFrame.{PlainFrame}
use Rattle.stream_stages.specs.Check.{has_wrong, wrong_lines, frame_count_lines}
use Rattle.block_survey.specs.declared.surveying.BlockRow.{BlockRow}
use Rattle.arrayvec.specs.ArrayVec.{ArrayVec}
use Rattle.block_survey.specs.declared.counting.WordMarks.{WordMarks}

-- the number of no absolute time: the largest u32
abbrev pub no_time : ℕ
no_time = 4294967295

-- the reading of the Q bits of a block, unless the stream is one of packs
abbrev pub reading_in : Form → List ℕ → Option (Result QFrame QFault)
reading_in Raw block = Some (reading_of (q_bits block))
reading_in Sector block = Some (reading_of (q_bits block))
reading_in Cooked block = None

-- the number of a frame's kind, or why there is none: no frame is read, a field is out of range, or the check is wrong
abbrev pub row_kind : Option (Result QFrame QFault) → ℕ
row_kind (Some (Ok frame)) = (plain_of frame).kind
row_kind None = 253
row_kind (Some (Err (BadField bit))) = 254
row_kind (Some (Err BadCrc)) = 255

-- the absolute time of a frame of the program area
abbrev pub row_time : Option (Result QFrame QFault) → ℕ
row_time (Some (Ok (Program control track index time absolute))) = absolute
row_time _ = no_time

-- the fields of a frame, or zeros if there is no frame
abbrev pub row_fields : Option (Result QFrame QFault) → PlainFrame
row_fields (Some (Ok frame)) = plain_of frame
row_fields _ = plain_kind 0 0

-- the number of these words with n wrong symbols
abbrev pub wrong_count : ℕ → List (List ℕ) → ℕ
wrong_count n words = count_by (λ word. has_wrong n (word, finding word)) words

-- the number of these words with no codeword near
abbrev pub bad_words : List (List ℕ) → ℕ
bad_words words = count_by (λ word. is_none (finding word)) words

-- the row of a block, with the words that end with it
abbrev pub row_with : Form → List (List ℕ) → List ℕ → BlockRow
row_with form words block = record {
  absolute = row_time (reading_in form block);
  clean = wrong_count 0 words;
  one = wrong_count 1 words;
  two = wrong_count 2 words;
  bad = bad_words words;
  q = row_kind (reading_in form block);
  track = (row_fields (reading_in form block)).track;
  index = (row_fields (reading_in form block)).index;
  empty = if list_all (λ byte. byte == 0) block then 1 else 0;
}

-- the words of a stream that end with its block b: the words of the blocks up to b, after the lead-in, without the
-- words of the blocks before b
abbrev pub ended_words : Form → ℕ → List ℕ → ℕ → List (List ℕ)
ended_words form lead_in bytes b =
    let before = word_count form (b - lead_in) in
    map (form_word form (program_symbols form bytes lead_in))
    (range_with_len before (word_count form (suc b - lead_in) - before))

-- the row of block b of a stream
abbrev pub row_of_block : Form → ℕ → List ℕ → ℕ → BlockRow
row_of_block form lead_in bytes b =
    row_with form (ended_words form lead_in bytes b) (slice_index_or (blocks_of form bytes) b [])

-- a row for each whole block of a stream
abbrev pub survey_rows : Form → ℕ → List ℕ → List BlockRow
survey_rows form lead_in bytes = map (row_of_block form lead_in bytes) (below (length bytes / unit_size form))

-- the words of an output, if there is one
abbrev pub words_with_block : Option (ArrayVec (List ℕ)) → List (List ℕ)
words_with_block (Some words) = words.items
words_with_block None = []

-- the counts of some words
abbrev pub marks_of : List (List ℕ) → WordMarks
marks_of words = record {
  clean = wrong_count 0 words;
  one = wrong_count 1 words;
  two = wrong_count 2 words;
  bad = bad_words words;
}

-- the counts after a word with this correction
abbrev pub marked_found : WordMarks → List ℕ → Option (List ℕ) → WordMarks
marked_found s word found = record {
  clean = s.clean + (if has_wrong 0 (word, found) then 1 else 0);
  one = s.one + (if has_wrong 1 (word, found) then 1 else 0);
  two = s.two + (if has_wrong 2 (word, found) then 1 else 0);
  bad = s.bad + (if is_none found then 1 else 0);
}

-- whether a row has a frame
abbrev pub is_frame_row : BlockRow → Bool
is_frame_row row = nat_le row.q 7

-- whether a row has a refused frame
abbrev pub is_refusal_row : BlockRow → Bool
is_refusal_row row = nat_le 254 row.q

-- These are lines of `check`. Their counts of wrong symbols and of frames are the sums of rows. The lines before them count
-- the blocks and words, and the lines between them describe the packs.
pub record AddUpTo (rows : List BlockRow) (text : List ℕ) (bad : ℕ) : Type 0 where
  pub before : List ℕ
  pub between : List ℕ
  pub text_is : text ≡ before
      ++ (wrong_lines (sum_by (λ row. row.clean) rows) (sum_by (λ row. row.one) rows)
      (sum_by (λ row. row.two) rows) (sum_by (λ row. row.bad) rows)
      ++ (between ++ frame_count_lines (count_by is_frame_row rows) (count_by is_refusal_row rows)))
  pub bad_is : bad ≡ sum_by (λ row. row.bad) rows
