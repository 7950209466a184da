-- The texts of a stream's lead-in.
use Rattle.std.specs.Prelude.{◌≡◌, ℕ, ◌*◌, ◌%◌, ◌≤◌, List, length, take, Result, Ok, Err, IsOk}
use Rattle.cdg_io.specs.Change.{Passed}
use Rattle.cdg_io.specs.Streams.{WritesAtEnd}
use Rattle.raw_subcode.specs.Channels.{unit_size, blocks_of}
use Rattle.raw_subcode.specs.declared.form.Form.{Form}
use Rattle.cdtext_packs.specs.Kept.{kept_among}
use Rattle.cdtext_packs.specs.LeadIn.{lead_in_packs}
use Rattle.cdtext_packs.specs.Reading.{read_texts}
use Rattle.cdtext_packs.specs.Texts.{Texts}
use Rattle.cdtext_packs.specs.declared.kinds.TextFault.{TextFault}
use Rattle.cdtext_packs.specs.declared.kinds.TextFault.TheVariants.{NoMemory}
use Rattle.cdtext_packs.specs.TextLines.{text_lines}
use Rattle.raw_subcode.specs.Sizes.{most_units}
use Rattle.stream_stages.specs.Calls.{IsAnsweredBy, at_end}
use Rattle.stream_stages.specs.declared.played.Played.{Played}
use Rattle.stream_stages.specs.declared.played.PlayStop.{PlayStop}
use Rattle.stream_stages.specs.declared.played.PlayStop.TheVariants.{Text}

-- the text packs in the lead-in of a stream
abbrev pub packs_in : Form → ℕ → List ℕ → List (List ℕ)
packs_in form lead_in bytes = lead_in_packs (take lead_in (blocks_of form bytes))

-- the texts that these packs hold, or the fault
abbrev pub texts_of_lead_in : Form → ℕ → List ℕ → Result Texts TextFault
texts_of_lead_in form lead_in bytes = read_texts (kept_among (packs_in form lead_in bytes))

-- The text has the lines of the texts in the lead-in. No word is read, so none is bad.
pub record IsTextListed (form : Form) (lead_in : ℕ) (bytes text : List ℕ) (bad : ℕ) : Type 0 where
  pub texts : Texts
  pub read : texts_of_lead_in form lead_in bytes ≡ Ok texts
  pub text_is : text ≡ text_lines texts (packs_in form lead_in bytes)
  pub none_bad : bad ≡ 0

-- The fault is `NoMemory` only if the packs hold texts. Any other fault is the fault of the packs.
abbrev pub IsTextFault : TextFault → Result Texts TextFault → Type 0
IsTextFault NoMemory texts = IsOk texts
IsTextFault fault texts = texts ≡ Err fault

-- A call that lists the texts consumed these bytes. It writes at the end, if the packs hold texts.
pub record ListsTexts (form : Form) (lead_in : ℕ) (passed : Passed) (result : Result Played PlayStop)
    (taken : List ℕ) : Type 0 where
  pub plays : WritesAtEnd (at_end (IsTextListed form lead_in) form lead_in) passed result taken
  pub refused : (fault : TextFault) → result ≡ Err (Text fault)
      → (length taken % unit_size form ≡ 0) × IsTextFault fault (texts_of_lead_in form lead_in taken)

-- The input has whole units, and not too many.
abbrev pub IsWholeInput : Form → List ℕ → Type 0
IsWholeInput form all = (length all ≤ most_units * unit_size form) × (length all % unit_size form ≡ 0)

-- The input has whole units, not too many, and its lead-in holds texts.
abbrev pub GivesTexts : Form → ℕ → List ℕ → Type 0
GivesTexts form lead_in all = IsWholeInput form all × IsOk (texts_of_lead_in form lead_in all)

-- This is the result for an input if no read and no write fails.
abbrev pub IsListedBy : Result Played PlayStop → Form → ℕ → List ℕ → Type 0
IsListedBy (Ok played) form lead_in all = GivesTexts form lead_in all
IsListedBy (Err (Text fault)) form lead_in all = IsWholeInput form all
    × IsTextFault fault (texts_of_lead_in form lead_in all)
IsListedBy (Err stop) form lead_in all = IsAnsweredBy (Err stop) (unit_size form) (length all)
