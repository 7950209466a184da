-- An accepted sheet and script have an authored stream.
use Rattle.std.proofs.Common.{ℕ, ◌<◌, ◌≤◌, List}
use Rattle.rw_interleave.specs.Interleave.{whole_packs}
use Rattle.cue_sheet.specs.CueSheet.{CueSheet, IsSheet}
use Rattle.toc_model.specs.Places.{program_blocks}
use Rattle.picture_script.specs.Script.{Drawing, picture_pixel}
use Rattle.pack_schedule.specs.Shown.{AreTimesInOrder, AreColoursInRange}
use Rattle.subcode_author.proofs.Prompt.{PlannedIsChange, are_prompt}
use Rattle.subcode_author.specs.Authored.{IsWrittenStream, disc_of}
use Rattle.subcode_author.specs.AuthorAnswer.{IsAccepted}
use Rattle.stream_writer.proofs.Carrying.{carrying_stream}
use Rattle.stream_writer.proofs.Whole.{SpreadCarries}
use Rattle.subcode_author.proofs.Schedules.{PacksAreSchedule}
use Rattle.subcode_author.proofs.Ends.{within}
use Rattle.subcode_author.proofs.Written.{ChangesAreWritten, packs_exist, survey_exists}

pub has_stream : SpreadCarries → PlannedIsChange → PacksAreSchedule → ChangesAreWritten
    → (sheet : CueSheet) (script : List Drawing) (lead_in audio : ℕ)
    → IsSheet sheet → AreTimesInOrder script → AreColoursInRange script
    → ((k x y : ℕ) → picture_pixel script k x y < 16) → lead_in ≤ 450000
    → IsAccepted sheet script lead_in audio
    → (bytes : List ℕ)
    × (packs : List (List ℕ))
    × IsWrittenStream (disc_of sheet script lead_in audio) bytes packs
has_stream spread is_change schedule known sheet script lead_in audio is_sheet order colours pixels few
    accepted =
    let blocks : ℕ = program_blocks sheet audio in
    let prompt = are_prompt is_change script colours pixels accepted.ready in
    let (packs, count, written, codewords) =
    packs_exist script order prompt known colours pixels (whole_packs blocks) in
    let (survey, surveyed) = survey_exists script order prompt in
    let (bytes, framed, carries) =
    carrying_stream spread sheet lead_in audio packs is_sheet accepted.disc.0 few count codewords in (
      bytes,
      packs,
      record {
        authored = record {
          schedule =
              schedule script blocks survey packs colours pixels order.held
              (within script blocks order prompt accepted.disc.1) surveyed count written;
          framing = framed;
          carries = carries;
          enough = λ some. (accepted.room some).1;
        };
        planned = written;
      },
    )
