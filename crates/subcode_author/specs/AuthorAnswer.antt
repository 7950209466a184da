-- When a stream is written, and the first refusal otherwise.
use Rattle.std.specs.Prelude.{◌≡◌, ℕ, ◌<◌, ◌≤◌, ⊤, List}
use Rattle.disc_time.specs.Counts.{most_program}
use Rattle.cue_sheet.specs.CueSheet.{CueSheet}
use Rattle.toc_model.specs.Places.{audio_need, program_blocks}
use Rattle.picture_script.specs.Script.{Drawing, pictures}
use Rattle.pack_schedule.specs.Schedule.{CanBeReady, IsLate}
use Rattle.pack_schedule.specs.Survey.{IsPastEnd}
pub use Rattle.stream_writer.specs.Needs.{HasLayout, HasRoom, IsLeadInShort, IsTextTooLong}
use Rattle.subcode_author.specs.declared.stops.AuthorStop.{AuthorStop}
use Rattle.subcode_author.specs.declared.stops.AuthorStop.TheVariants.{LengthShort, DiscTooLong, PastEnd, TextTooLong, LeadInShort, Late, WriteFault, NoMemory}

-- The sheet fits the audio file (`HasLayout`), and no picture is held after the end of the program.
abbrev pub HoldsPictures : CueSheet → List Drawing → ℕ → Type 0
HoldsPictures sheet script audio = HasLayout sheet audio × ¬ IsPastEnd script (program_blocks sheet audio)

-- Every picture can be complete at its ready time.
abbrev pub AreReady : List Drawing → Type 0
AreReady script = (k : ℕ) → k < pictures script → CanBeReady script k

-- This is the reason why a sheet, its audio file and the last picture do not fit on a disc.
abbrev pub IsDiscStop : CueSheet → List Drawing → ℕ → AuthorStop → Type 0
IsDiscStop sheet script audio (LengthShort need) = (need ≡ audio_need sheet) × (audio < audio_need sheet)
IsDiscStop sheet script audio (DiscTooLong blocks) = (audio_need sheet ≤ audio)
    × (blocks ≡ program_blocks sheet audio) × (most_program < blocks)
IsDiscStop sheet script audio (PastEnd blocks) = HasLayout sheet audio × (blocks ≡ program_blocks sheet audio)
    × IsPastEnd script blocks
IsDiscStop sheet script audio _ = ⊥

-- This is the reason why the pictures cannot be complete in time.
abbrev pub IsPictureStop : List Drawing → AuthorStop → Type 0
IsPictureStop script (Late picture need free) = IsLate script picture need free
IsPictureStop script NoMemory = ⊤
IsPictureStop script _ = ⊥

-- `author` does not refuse the sheet and the script, except that a picture may be late.
pub record IsAccepted (sheet : CueSheet) (script : List Drawing) (lead_in audio : ℕ) : Type 0 where
  pub disc : HoldsPictures sheet script audio
  pub room : HasRoom sheet lead_in
  pub ready : AreReady script

-- This is the reason why a stream is not written. Each refusal is returned only if the previous ones do not apply. Pictures
-- are planned in allocated memory, so `NoMemory` is possible if no refusal but `Late` applies.
abbrev pub IsAuthorStop : CueSheet → List Drawing → ℕ → ℕ → AuthorStop → Type 0
IsAuthorStop sheet script lead_in audio (TextTooLong packs) = HoldsPictures sheet script audio
    × IsTextTooLong sheet lead_in packs
IsAuthorStop sheet script lead_in audio (LeadInShort need) = HoldsPictures sheet script audio
    × IsLeadInShort sheet lead_in need
IsAuthorStop sheet script lead_in audio (Late picture need free) = HoldsPictures sheet script audio
    × HasRoom sheet lead_in × IsLate script picture need free
IsAuthorStop sheet script lead_in audio WriteFault = IsAccepted sheet script lead_in audio
IsAuthorStop sheet script lead_in audio NoMemory = HoldsPictures sheet script audio × HasRoom sheet lead_in
IsAuthorStop sheet script lead_in audio stop = IsDiscStop sheet script audio stop

-- This refusal is made before any picture is planned and before anything is allocated.
abbrev pub ComesBeforePlans : AuthorStop → Type 0
ComesBeforePlans (Late picture need free) = ⊥
ComesBeforePlans WriteFault = ⊥
ComesBeforePlans NoMemory = ⊥
ComesBeforePlans stop = ⊤

-- This is the reason why a disc has no plan: a refusal before any picture is planned.
abbrev pub IsDiscRefusal : CueSheet → List Drawing → ℕ → ℕ → AuthorStop → Type 0
IsDiscRefusal sheet script lead_in audio stop =
    IsAuthorStop sheet script lead_in audio stop × ComesBeforePlans stop
