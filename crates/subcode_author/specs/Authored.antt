-- The stream of a cue sheet and a picture script.
use Rattle.std.specs.Prelude.{ℕ, ◌<◌, ◌≤◌, List}
use Rattle.raw_subcode.specs.Channels.{program_symbols}
use Rattle.raw_subcode.specs.declared.form.Form.TheVariants.{Raw}
use Rattle.rw_interleave.specs.Interleave.{Carries}
use Rattle.cue_sheet.specs.CueSheet.{CueSheet}
use Rattle.toc_model.specs.Places.{layout_of, program_blocks}
use Rattle.picture_script.specs.Script.{Drawing}
use Rattle.pack_schedule.specs.Schedule.{IsSchedule}
use Rattle.pack_schedule.specs.Woven.{ArePacks}
use Rattle.stream_writer.specs.Framing.{HasFraming}
pub use Rattle.stream_writer.specs.Needs.{text_packs, lead_in_need}

-- a disc: its cue sheet, its picture script, and the lengths of its lead-in and of its audio file in blocks
pub record Disc : Type 0 where
  pub sheet : CueSheet
  pub script : List Drawing
  pub lead_in : ℕ
  pub audio : ℕ

-- the disc with these parts
abbrev pub disc_of : CueSheet → List Drawing → ℕ → ℕ → Disc
disc_of sheet script lead_in audio = record {
  sheet = sheet;
  script = script;
  lead_in = lead_in;
  audio = audio;
}

-- The bytes are an authored stream of the disc. The packs of the stream are a schedule of the script. The P bits, Q frames
-- and CD-TEXT of the stream are those of the sheet. If there is a lead-in, it is long enough for the sheet.
pub record IsAuthored (disc : Disc) (bytes : List ℕ) (packs : List (List ℕ)) : Type 0 where
  pub schedule : IsSchedule disc.script (program_blocks disc.sheet disc.audio) packs
  pub framing : HasFraming (layout_of disc.sheet disc.audio) (text_packs disc.sheet) disc.lead_in bytes
  pub carries : Carries (program_blocks disc.sheet disc.audio) (program_symbols Raw bytes disc.lead_in) packs
  pub enough : 0 < disc.lead_in → lead_in_need disc.sheet ≤ disc.lead_in

-- The bytes are the stream that `author` writes: an authored stream whose packs are those of the planned changes.
pub record IsWrittenStream (disc : Disc) (bytes : List ℕ) (packs : List (List ℕ)) : Type 0 where
  pub authored : IsAuthored disc bytes packs
  pub planned : ArePacks disc.script packs
