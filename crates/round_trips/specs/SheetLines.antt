-- The lines of the texts of a sheet.
use Rattle.std.specs.Prelude.{◌≡◌, ℕ, ◌≤◌, ◌<◌, false, List, ◌++◌, length, flat_map, All}
use Rattle.cue_sheet.specs.CueSheet.{CueSheet, IsSheet}
use Rattle.stream_writer.specs.SheetTexts.{sheet_texts, texts_of_sheet}
use Rattle.cdtext_packs.specs.Texts.{kinds, strings_of, has_no_text}
use Rattle.cdtext_packs.specs.declared.kinds.TextKind.{TextKind}
use Rattle.cdtext_packs.specs.TextLines.{kind_lines, offers_line}
use Rattle.subcode_author.specs.Authored.{text_packs}

-- Some string of the sheet is not empty.
abbrev pub HasText : CueSheet → Type 0
HasText sheet = has_no_text (sheet_texts sheet) ≡ false

-- The texts of a sheet can be packed: its strings are bytes and fill at most 256 packs.
pub record HasTextPacks (sheet : CueSheet) : Type 0 where
  pub is_sheet : IsSheet sheet
  pub bytes : (kind : TextKind)
      → All (λ (string : List ℕ). All (λ byte. byte < 256) string) (strings_of kind (sheet_texts sheet))
  pub few : length (text_packs sheet) ≤ 256

-- the lines of the strings of a sheet that are not empty, and the line with the counts of good and bad packs
abbrev pub sheet_lines : CueSheet → ℕ → ℕ → List ℕ
sheet_lines sheet good bad = flat_map (kind_lines (texts_of_sheet sheet)) kinds ++ offers_line good bad 0
