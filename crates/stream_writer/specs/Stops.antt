-- The reasons why a lead-in is too short.
use Rattle.std.specs.Prelude.{ℕ}
use Rattle.cue_sheet.specs.CueSheet.{CueSheet}
use Rattle.stream_writer.specs.Needs.{IsLeadInShort, IsTextTooLong}
use Rattle.stream_writer.specs.declared.sheet_texts.LeadInStop.{LeadInStop}
use Rattle.stream_writer.specs.declared.sheet_texts.LeadInStop.TheVariants.{TextTooLong, LeadInShort}

-- This is the reason why a lead-in is too short.
abbrev pub IsLeadInRefusal : CueSheet → ℕ → LeadInStop → Type 0
IsLeadInRefusal sheet lead_in (TextTooLong packs) = IsTextTooLong sheet lead_in packs
IsLeadInRefusal sheet lead_in (LeadInShort need) = IsLeadInShort sheet lead_in need
