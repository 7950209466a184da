-- The output of a conversion.
use Rattle.std.specs.Prelude.{◌≡◌, ℕ, ◌*◌, ◌%◌, ◌≤◌, ⊤, List, length, Option, Result, Ok, Err}
use Rattle.std.specs.Io.KnownBytes.{Appends}
use Rattle.cdg_io.specs.Change.{Passed}
use Rattle.cdg_io.specs.Streams.{Streams}
use Rattle.rw_interleave.specs.Interleave.{Carries}
use Rattle.raw_subcode.specs.Channels.{unit_size, program_symbols}
use Rattle.rw_interleave.specs.Stream.{IsRecovered, IsDamaged, bad_count}
use Rattle.rw_interleave.specs.Texts.{cdg_bytes}
use Rattle.raw_subcode.specs.Sizes.{most_units}
use Rattle.stream_stages.specs.Calls.{in_turn}
use Rattle.raw_subcode.specs.declared.form.Form.{Form}
use Rattle.stream_stages.specs.declared.played.Played.{Played}
use Rattle.stream_stages.specs.declared.played.PlayStop.{PlayStop}
use Rattle.stream_stages.specs.declared.played.PlayStop.TheVariants.{ReadFault, WriteFault}

-- The text has the packs of these bytes, and `bad` of them are bad.
pub record IsConverted (form : Form) (lead_in : ℕ) (bytes text : List ℕ) (bad : ℕ) : Type 0 where
  pub found : List (Option (List ℕ))
  pub recovered : IsRecovered form (program_symbols form bytes lead_in) found
  pub text_is : text ≡ cdg_bytes found
  pub bad_is : bad ≡ bad_count found

-- A conversion consumed these bytes and wrote their packs.
abbrev pub Converts : Form → ℕ → Passed → Result Played PlayStop → List ℕ → Type 0
Converts form lead_in passed result taken =
    Streams (in_turn (IsConverted form lead_in) form lead_in) passed result taken

-- Whole units whose program symbols are those of `blocks` blocks with these packs, with damage: at most two symbols of
-- each word differ.
pub record IsDamagedStream (form : Form) (lead_in blocks : ℕ) (packs : List (List ℕ))
    (bytes : List ℕ) : Type 0 where
  pub few : length bytes ≤ most_units * unit_size form
  pub whole : length bytes % unit_size form ≡ 0
  pub symbols : List ℕ
  pub carries : Carries blocks symbols packs
  pub damaged : IsDamaged symbols form (program_symbols form bytes lead_in)

-- If no read and no write failed, no word was bad, and this text was written.
abbrev pub Restores : Result Played PlayStop → Option (List ℕ) → Option (List ℕ) → List ℕ → Type 0
Restores (Ok played) held held' text = (played.bad ≡ 0) × Appends held held' text
Restores (Err ReadFault) held held' text = ⊤
Restores (Err WriteFault) held held' text = ⊤
Restores (Err stop) held held' text = ⊥
