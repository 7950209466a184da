-- The stream that is written for a cue sheet and a file of packs.
use Rattle.std.specs.Prelude.{◌≡◌, ℕ, ◌+◌, ◌/◌, ◌%◌, ◌<◌, ◌≤◌, ◌⊎◌, List, [], length, map, slice_index_or}
use Rattle.bit_lists.specs.Counting.{whole_parts}
use Rattle.disc_time.specs.Counts.{pause_blocks}
use Rattle.rw_interleave.specs.Interleave.{whole_packs, Carries}
use Rattle.raw_subcode.specs.Channels.{program_symbols, symbols_of}
use Rattle.raw_subcode.specs.declared.form.Form.TheVariants.{Raw}
use Rattle.cdg_instructions.specs.MadeGood.{IsMadeGood}
use Rattle.cue_sheet.specs.CueSheet.{CueSheet}
use Rattle.toc_model.specs.Places.{layout_of, program_blocks}
use Rattle.stream_writer.specs.Framing.{HasFraming}
use Rattle.rw_code.specs.Packs.{idle_pack}
use Rattle.stream_writer.specs.Needs.{text_packs, lead_in_need}

-- the number of bytes of a pack of a file: one for each symbol
abbrev pub pack_bytes : ℕ
pack_bytes = 24

-- the whole packs of a file, as symbols: the low six bits of its bytes
abbrev pub file_packs : List ℕ → List (List ℕ)
file_packs file = map symbols_of (whole_parts pack_bytes file)

-- pack n of a file
abbrev pub file_pack : List ℕ → ℕ → List ℕ
file_pack file n = slice_index_or (file_packs file) n []

-- the pack of the stream that is the file's first: its last symbol comes with the first slot of the audio
abbrev pub file_begin : ℕ
file_begin = whole_packs pause_blocks

-- the inputs of a press: a cue sheet, a file of packs, and the numbers of blocks of lead-in and of audio
pub record Press : Type 0 where
  pub sheet : CueSheet
  pub file : List ℕ
  pub lead_in : ℕ
  pub audio : ℕ

-- a sheet and a file, and the blocks of lead-in and of audio, as one
abbrev pub press_of : CueSheet → List ℕ → ℕ → ℕ → Press
press_of sheet file lead_in audio = record {
  sheet = sheet;
  file = file;
  lead_in = lead_in;
  audio = audio;
}

-- The stream of a sheet carries the packs of the file, in time with the audio, and other packs are idle.
pub record IsPressed (press : Press) (bytes : List ℕ) (packs : List (List ℕ)) : Type 0 where
  pub whole : length press.file % pack_bytes ≡ 0
  pub of_file : (n : ℕ) → n < length press.file / pack_bytes
      → IsMadeGood (file_pack press.file n) (slice_index_or packs (file_begin + n) [])
  pub others : (n : ℕ) → n < whole_packs (program_blocks press.sheet press.audio)
      → (n < file_begin) ⊎ (file_begin + length press.file / pack_bytes ≤ n)
      → slice_index_or packs n [] ≡ idle_pack
  pub framing : HasFraming (layout_of press.sheet press.audio) (text_packs press.sheet) press.lead_in bytes
  pub carries : Carries (program_blocks press.sheet press.audio)
      (program_symbols Raw bytes press.lead_in) packs
  pub enough : 0 < press.lead_in → lead_in_need press.sheet ≤ press.lead_in

-- Pack n of a program that has `wait` idle packs before the packs of a file, and idle packs after them.
pub record IsPackAfter (wait : ℕ) (file : List ℕ) (n : ℕ) (pack : List ℕ) : Type 0 where
  pub of_file : (k : ℕ) → n ≡ wait + k → k < length file / pack_bytes → IsMadeGood (file_pack file k) pack
  pub idle : (n < wait) ⊎ (wait + length file / pack_bytes ≤ n) → pack ≡ idle_pack
