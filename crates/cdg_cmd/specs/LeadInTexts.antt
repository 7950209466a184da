-- Streams with the text packs of an authored stream in their lead-in, and the lists of their texts.
use Rattle.std.specs.Prelude.{◌≡◌, ◌⊎◌, ℕ, ◌*◌, Bool, true, List}
use Rattle.raw_subcode.specs.Sizes.{slots_a_block}
use Rattle.raw_subcode.specs.declared.form.Form.{Form}
use Rattle.raw_subcode.specs.declared.form.Form.TheVariants.{Raw}
use Rattle.stream_writer.specs.SheetTexts.{sheet_texts}
use Rattle.cdtext_packs.specs.Texts.{has_no_text}
use Rattle.cdtext_packs.specs.TextLines.{offers_line}
use Rattle.subcode_author.specs.Authored.{Disc, text_packs}
use Rattle.stream_stages.specs.TextListing.{IsWholeInput, packs_in}
use Rattle.round_trips.specs.Damage.{HasHurtSlots, count_hurt, count_whole}
use Rattle.round_trips.specs.SheetLines.{HasText, HasTextPacks, sheet_lines}

-- These are whole units of a form, whose lead-in slots have the packs of a raw stream.
pub record HasTextsOf (form : Form) (lead_in : ℕ) (stream bytes : List ℕ) : Type 0 where
  pub input : IsWholeInput form bytes
  pub slots : packs_in form lead_in bytes ≡ packs_in Raw lead_in stream

-- The bytes have the text packs of an authored stream of a disc. Slots may be damaged, but some slot has each text pack
-- undamaged. The lines are those of the strings of the sheet.
pub record HasStrings (disc : Disc) (form : Form) (stream bytes lines : List ℕ) : Type 0 where
  pub whole : List Bool
  pub packs : HasTextPacks disc.sheet
  pub some : HasText disc.sheet
  pub input : IsWholeInput form bytes
  pub slots : HasHurtSlots (text_packs disc.sheet) whole (packs_in Raw disc.lead_in stream)
      (packs_in form disc.lead_in bytes)
  pub lines_are : lines ≡ sheet_lines disc.sheet (count_whole whole) (count_hurt whole)

-- The bytes have the packs of an authored stream of a disc without text. The only line counts the packs, which are all bad.
pub record HasNoStrings (disc : Disc) (form : Form) (stream bytes lines : List ℕ) : Type 0 where
  pub none : has_no_text (sheet_texts disc.sheet) ≡ true
  pub copy : HasTextsOf form disc.lead_in stream bytes
  pub lines_are : lines ≡ offers_line 0 (slots_a_block * disc.lead_in) 0

-- The lines are the list of the texts of a disc in a stream.
abbrev pub AreLinesOf : Disc → Form → List ℕ → List ℕ → List ℕ → Type 0
AreLinesOf disc form stream bytes lines =
    HasStrings disc form stream bytes lines ⊎ HasNoStrings disc form stream bytes lines
