-- The space that a sheet needs on a disc and in its lead-in.
use Rattle.std.specs.Prelude.{◌≡◌, ℕ, ◌+◌, ◌*◌, ◌/◌, ◌<◌, ◌≤◌, List, length, max}
use Rattle.disc_time.specs.Counts.{most_program}
use Rattle.cue_sheet.specs.CueSheet.{CueSheet}
use Rattle.toc_model.specs.Places.{audio_need, program_blocks}
use Rattle.stream_writer.specs.SheetTexts.{texts_of_sheet}
use Rattle.cdtext_packs.specs.Packs.{most_text_packs}
use Rattle.cdtext_packs.specs.Writing.{packs_of}

-- The audio file is long enough for the sheet, and the program is not longer than a disc allows.
abbrev pub HasLayout : CueSheet → ℕ → Type 0
HasLayout sheet audio = (audio_need sheet ≤ audio) × (program_blocks sheet audio ≤ most_program)

-- the text packs of a sheet
abbrev pub text_packs : CueSheet → List (List ℕ)
text_packs sheet = packs_of (texts_of_sheet sheet)

-- the least number of lead-in blocks, if there is a lead-in: each entry of the table of contents three times, and each
-- text pack once
abbrev pub lead_in_need : CueSheet → ℕ
lead_in_need sheet = max (3 * (length sheet.tracks + 3)) ((length (text_packs sheet) + 3) / 4)

-- If there is a lead-in, it has room for the texts and the table of contents, and there are at most `most_text_packs` text
-- packs.
abbrev pub HasRoom : CueSheet → ℕ → Type 0
HasRoom sheet lead_in = 0 < lead_in
    → (length (text_packs sheet) ≤ most_text_packs) × (lead_in_need sheet ≤ lead_in)

-- There is a lead-in, and its texts need `packs` packs, which are more than 256.
abbrev pub IsTextTooLong : CueSheet → ℕ → ℕ → Type 0
IsTextTooLong sheet lead_in packs =
    (0 < lead_in) × (most_text_packs < packs) × (packs ≡ length (text_packs sheet))

-- There is a lead-in, its texts have at most 256 packs, and the lead-in is too short for the texts or the table of
-- contents.
abbrev pub IsLeadInShort : CueSheet → ℕ → ℕ → Type 0
IsLeadInShort sheet lead_in need =
    (0 < lead_in) × (length (text_packs sheet) ≤ most_text_packs) × (lead_in < need)
    × (need ≡ lead_in_need sheet)
