-- The layout of a sheet, or the reason why there is none.
use Rattle.std.specs.Prelude.{◌≡◌, ◌≢◌, ◌≤◌, ◌<◌, ℕ, Result, Ok, Err}
use Rattle.disc_time.specs.Counts.{most_program}
use Rattle.cue_sheet.specs.CueSheet.{CueSheet}
use Rattle.toc_model.specs.Places.{DiscLayout, layout_of, audio_need, program_blocks}
use Rattle.toc_model.specs.declared.layout.LayoutStop.{LayoutStop}
use Rattle.toc_model.specs.declared.layout.LayoutStop.TheVariants.{LengthShort, DiscTooLong, NoMemory}

-- This is the reason why there is no layout. A short audio file is reported before a long disc.
abbrev pub IsLayoutRefusal : CueSheet → ℕ → LayoutStop → Type 0
IsLayoutRefusal sheet audio (LengthShort need) = (need ≡ audio_need sheet) × (audio < audio_need sheet)
IsLayoutRefusal sheet audio (DiscTooLong blocks) = (audio_need sheet ≤ audio)
    × (blocks ≡ program_blocks sheet audio) × (most_program < blocks)
IsLayoutRefusal sheet audio NoMemory = (audio_need sheet ≤ audio)
    × (program_blocks sheet audio ≤ most_program)

-- The result is the number of program blocks of a sheet and an audio file, or the reason why they have no layout. This
-- reason is never `NoMemory`.
abbrev pub IsBlockCount : CueSheet → ℕ → Result ℕ LayoutStop → Type 0
IsBlockCount sheet audio (Ok blocks) = (audio_need sheet ≤ audio)
    × (program_blocks sheet audio ≤ most_program) × (blocks ≡ program_blocks sheet audio)
IsBlockCount sheet audio (Err stop) = IsLayoutRefusal sheet audio stop × (stop ≢ NoMemory)

-- The result is the layout of a sheet and an audio file, or the reason why there is none.
abbrev pub IsLayoutAnswer : CueSheet → ℕ → Result DiscLayout LayoutStop → Type 0
IsLayoutAnswer sheet audio (Ok layout) = (audio_need sheet ≤ audio)
    × (program_blocks sheet audio ≤ most_program) × (layout ≡ layout_of sheet audio)
IsLayoutAnswer sheet audio (Err stop) = IsLayoutRefusal sheet audio stop
