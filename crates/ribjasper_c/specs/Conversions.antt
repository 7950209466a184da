-- Converting a stream in memory to packs.
use Rattle.std.specs.Prelude.{◌≡◌, ◌≢◌, ◌⊎◌, ◌==◌, ◌<◌, ◌-◌, ◌*◌, ◌/◌, ◌%◌, if◌then◌else◌, ℕ, List, length}
use Rattle.raw_subcode.specs.Channels.{unit_size}
use Rattle.raw_subcode.specs.Sizes.{most_units, symbols_a_slot}
use Rattle.raw_subcode.specs.declared.form.Form.{Form}
use Rattle.raw_subcode.specs.declared.form.Form.TheVariants.{Sector}
use Rattle.rw_interleave.specs.Stream.{word_count}
use Rattle.stream_stages.specs.Convert.{IsConverted}
use Rattle.ribjasper_c.specs.Handles.{form_of}
use Rattle.ribjasper_c.specs.declared.converting.Converted.{Converted}

-- the form with a number: 0 a raw stream, 1 a stream of packs, 2 a stream of sectors
abbrev pub stream_form : ℕ → Form
stream_form n = if n == 2 then Sector else form_of n

-- These bytes are not whole units, or they are too many.
abbrev pub IsNoStream : Form → List ℕ → Type 0
IsNoStream form stream = (length stream % unit_size form ≢ 0) ⊎ (most_units * unit_size form < length stream)

-- the size of the packs of a stream: 24 bytes each
abbrev pub text_size : Form → ℕ → List ℕ → ℕ
text_size form lead_in stream = symbols_a_slot * word_count form (length stream / unit_size form - lead_in)

-- The text has the packs of a stream. The report has its size, the number of program blocks, and that of packs with no
-- codeword near.
pub record IsConversionReport (form : Form) (lead_in : ℕ) (stream text : List ℕ) (counts : Converted)
    : Type 0 where
  pub converted : IsConverted form lead_in stream text counts.bad
  pub bytes : counts.bytes ≡ length text
  pub size : length text ≡ text_size form lead_in stream
  pub blocks : counts.blocks ≡ length stream / unit_size form - lead_in
