-- The lines of the Q channel of a stream.
use Rattle.std.specs.Prelude.{◌≡◌, ℕ, List, [], ◌∷◌, flat_map, count_by, Result, is_err}
use Rattle.std.specs.List.{enumerate_from}
use Rattle.raw_subcode.specs.Channels.{q_bits, blocks_of}
use Rattle.q_channel.specs.QReading.{IsReading}
use Rattle.q_channel.specs.QLine.{q_line}
use Rattle.raw_subcode.specs.declared.form.Form.{Form}
use Rattle.raw_subcode.specs.declared.form.Form.TheVariants.{Raw, Sector, Cooked}
use Rattle.q_channel.specs.declared.frame.QFrame.{QFrame}
use Rattle.q_channel.specs.declared.frame.QFault.{QFault}

-- the blocks whose Q channel is read: all blocks, but none of a cooked stream
abbrev pub q_blocks : Form → List ℕ → List (List ℕ)
q_blocks Raw bytes = blocks_of Raw bytes
q_blocks Sector bytes = blocks_of Sector bytes
q_blocks Cooked bytes = []

-- The readings are those of the Q bits of the blocks.
abbrev pub AreQReadings : List (List ℕ) → List (Result QFrame QFault) → Type 0
AreQReadings [] readings = readings ≡ []
AreQReadings (block ∷ rest) [] = ⊥
AreQReadings (block ∷ rest) (reading ∷ readings) = IsReading (q_bits block) reading
    × AreQReadings rest readings

-- the lines of blocks with these readings, numbered from `first` on
abbrev pub q_lines : ℕ → List (Result QFrame QFault) → List ℕ
q_lines first readings = flat_map (λ b. q_line b.0 b.1) (enumerate_from first readings)

-- The text has the lines of all blocks, and `bad` is the number of refused frames.
pub record IsQListed (form : Form) (bytes text : List ℕ) (bad : ℕ) : Type 0 where
  pub readings : List (Result QFrame QFault)
  pub read : AreQReadings (q_blocks form bytes) readings
  pub text_is : text ≡ q_lines 0 readings
  pub bad_is : bad ≡ count_by is_err readings
