-- Sheets whose texts are bytes.
use Rattle.std.specs.Prelude.{ℕ, ◌<◌, ◌≤◌, length, All}
use Rattle.cue_sheet.specs.CueSheet.{CueSheet, text_at}
use Rattle.cue_sheet.specs.declared.fault.CueText.{CueText}

-- The texts of the album and of each track consist of bytes.
abbrev pub HasByteTexts : CueSheet → Type 0
HasByteTexts sheet = (kind : CueText) (place : ℕ) → place ≤ length sheet.tracks
    → All (λ byte. byte < 256) (text_at kind sheet place)
