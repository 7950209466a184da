-- When a file is pressed, and otherwise the first refusal that holds.
use Rattle.std.specs.Prelude.{◌≡◌, ◌≢◌, ℕ, ◌+◌, ◌*◌, ◌/◌, ◌%◌, ◌<◌, ◌≤◌, List, length, Result, Ok, Err}
use Rattle.disc_time.specs.Counts.{most_program}
use Rattle.raw_subcode.specs.Sizes.{slots_a_block}
use Rattle.text_lines.specs.Text.{most_text_bytes}
use Rattle.cue_sheet.specs.CueSheet.{CueSheet, CueTrack, track_of}
use Rattle.toc_model.specs.Places.{audio_need, program_blocks}
use Rattle.stream_writer.specs.Needs.{HasLayout, HasRoom, IsLeadInShort, IsTextTooLong}
use Rattle.cdg_press.specs.Pressed.{pack_bytes}
use Rattle.cdg_press.specs.declared.stops.PressStop.{PressStop}
use Rattle.cdg_press.specs.declared.stops.PressStop.TheVariants.{PackTorn, LengthShort, DiscTooLong, Gap, CdgTooLong, TextTooLong, LeadInShort, WriteFault, NoMemory}

-- a file that is pressed has at most 64 MiB
abbrev pub IsShort : List ℕ → Type 0
IsShort file = length file ≤ most_text_bytes

-- the file is whole packs
abbrev pub IsWhole : List ℕ → Type 0
IsWhole file = length file % pack_bytes ≡ 0

-- the sum of both gaps of a track
abbrev pub gaps_of : CueTrack → ℕ
gaps_of track = track.pregap + track.postgap

-- no track has a gap
abbrev pub HasNoGap : CueSheet → Type 0
HasNoGap sheet = (k : ℕ) → k < length sheet.tracks → gaps_of (track_of sheet k) ≡ 0

-- the first track with a gap has this number
abbrev pub IsFirstGap : CueSheet → ℕ → Type 0
IsFirstGap sheet number = (k : ℕ) × (k < length sheet.tracks) × (0 < gaps_of (track_of sheet k))
    × (number ≡ (track_of sheet k).number)
    × ((j : ℕ) → j < k → gaps_of (track_of sheet j) ≡ 0)

-- The file is whole packs, and the sheet has a layout with this audio.
abbrev pub HasDisc : CueSheet → List ℕ → ℕ → Type 0
HasDisc sheet file audio = IsWhole file × HasLayout sheet audio

-- The file runs in time with the audio: no track has a gap, and the audio has room for its packs, four a block.
abbrev pub RunsInTime : CueSheet → List ℕ → ℕ → Type 0
RunsInTime sheet file audio = HasDisc sheet file audio × HasNoGap sheet
    × (length file / pack_bytes ≤ slots_a_block * audio)

-- No refusal applies.
pub record IsPressable (sheet : CueSheet) (file : List ℕ) (lead_in audio : ℕ) : Type 0 where
  pub in_time : RunsInTime sheet file audio
  pub room : HasRoom sheet lead_in

-- This is why a stream is not pressed. A refusal requires that no earlier refusal applies. A failed write and a failed
-- allocation require that no refusal applies.
abbrev pub IsPressStop : CueSheet → List ℕ → ℕ → ℕ → PressStop → Type 0
IsPressStop sheet file lead_in audio (PackTorn pack) = (length file % pack_bytes ≢ 0)
    × (pack ≡ length file / pack_bytes)
IsPressStop sheet file lead_in audio (LengthShort need) = IsWhole file × (need ≡ audio_need sheet)
    × (audio < audio_need sheet)
IsPressStop sheet file lead_in audio (DiscTooLong blocks) = IsWhole file × (audio_need sheet ≤ audio)
    × (blocks ≡ program_blocks sheet audio) × (most_program < blocks)
IsPressStop sheet file lead_in audio (Gap track) = HasDisc sheet file audio × IsFirstGap sheet track
IsPressStop sheet file lead_in audio (CdgTooLong packs room) = HasDisc sheet file audio × HasNoGap sheet
    × (packs ≡ length file / pack_bytes) × (room ≡ slots_a_block * audio) × (room < packs)
IsPressStop sheet file lead_in audio (TextTooLong packs) = RunsInTime sheet file audio
    × IsTextTooLong sheet lead_in packs
IsPressStop sheet file lead_in audio (LeadInShort need) = RunsInTime sheet file audio
    × IsLeadInShort sheet lead_in need
IsPressStop sheet file lead_in audio WriteFault = IsPressable sheet file lead_in audio
IsPressStop sheet file lead_in audio NoMemory = IsPressable sheet file lead_in audio

-- This is the number of packs of a file, or the stop if the file ends within a pack.
abbrev pub IsCounted : List ℕ → Result ℕ PressStop → Type 0
IsCounted file (Ok packs) = IsWhole file × (packs ≡ length file / pack_bytes)
IsCounted file (Err stop) = (length file % pack_bytes ≢ 0) × (stop ≡ PackTorn (length file / pack_bytes))
