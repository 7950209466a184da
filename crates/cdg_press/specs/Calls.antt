-- The input, the output and the result of a call that writes the thin form.
use Rattle.std.specs.Prelude.{◌≡◌, ℕ, ◌*◌, ◌/◌, List, length, Result, IfOk}
use Rattle.std.specs.Io.KnownBytes.{Appends}
use Rattle.bit_lists.specs.Counting.{whole_parts}
use Rattle.cdg_io.specs.Change.{Bytes, Change, Passed}
use Rattle.cdg_io.specs.Streams.{Reading, Streams, as_pumped}
use Rattle.raw_subcode.specs.Sizes.{most_units, slots_a_block, symbols_a_slot}
use Rattle.cdg_press.specs.Thin.{IsThinText, StandAlike}
use Rattle.cdg_io.specs.declared.pumping.Pumped.{Pumped}
use Rattle.cdg_io.specs.declared.pumping.PumpStop.{PumpStop}

-- the maximum number of packs that are read: those of the maximum number of blocks
abbrev pub most_file_packs : ℕ
most_file_packs = slots_a_block * most_units

-- The result counts the whole packs of some bytes, and this text is written for them.
pub record IsThinnedBy (bytes : List ℕ) (pumped : Pumped) (text : List ℕ) : Type 0 where
  pub units : pumped.units ≡ length bytes / symbols_a_slot
  pub written : IsThinText bytes text

-- the reading of a call that writes the thin form of packs
abbrev pub thinning : Reading Pumped PumpStop
thinning = as_pumped (record { size = symbols_a_slot; limit = most_file_packs }) IsThinnedBy

-- The call consumed these bytes, and wrote the thin form of their packs while it read them.
abbrev pub Thins : Passed → Result Pumped PumpStop → List ℕ → Type 0
Thins passed result taken = Streams thinning passed result taken

-- The text shows the same screen as these bytes after each number of packs, and it is its own thin form.
pub record ShowsAll (bytes text : List ℕ) : Type 0 where
  pub thin : IsThinText bytes text
  pub alike : (m : ℕ) → StandAlike m (whole_parts symbols_a_slot bytes) (whole_parts symbols_a_slot text)
  pub again : IsThinText text text

-- A text that `ShowsAll` describes was written for the whole input.
abbrev pub ThinsAll : List ℕ → Change Bytes → Result Pumped PumpStop → Type 0
ThinsAll all out result =
    IfOk result (λ pumped. (text : List ℕ) × ShowsAll all text × Appends out.before out.after text)
