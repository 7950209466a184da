-- Scratches of a stream: bursts of neighbouring symbols that are changed alike.
use Rattle.std.specs.Prelude.{◌≡◌, ℕ, zero, suc, ◌+◌, ◌*◌, ◌/◌, ◌%◌, Bool, List, [], ◌∷◌, ◌++◌, length, map, nat_le, nat_lt, ◌&&◌, if◌then◌else◌, bit_xor, take, drop}
use Rattle.std.specs.List.{enumerate_from}
use Rattle.rand_pcg.specs.Lcg.{Lcg}
use Rattle.rand_pcg.specs.Pcg.{pcg32}
use Rattle.raw_subcode.specs.Sizes.{block_bytes, most_units}
use Rattle.cdg_io.specs.Streams.{Reading, as_pumped}
use Rattle.cdg_io.specs.declared.pumping.Pumped.{Pumped}
use Rattle.cdg_io.specs.declared.pumping.PumpStop.{PumpStop}
use Rattle.rw_interleave.specs.Stream.{least_gap, most_burst}
use Rattle.cdg_workload.specs.Generator.{generator, high_half}

-- a burst: its first place, the number of its symbols, and the number with which they are combined
pub record Burst : Type 0 where
  pub first : ℕ
  pub size : ℕ
  pub change : ℕ

-- the number of possible sizes of the gap before a burst, from the minimum on
abbrev pub gap_count : ℕ
gap_count = 64

-- the number of possible changes of a burst, each of which changes every symbol
abbrev pub change_count : ℕ
change_count = 63

-- the number of symbols between the burst before and the burst that a word makes
abbrev pub gap_of : ℕ → ℕ
gap_of word = least_gap + word % gap_count

-- the number of symbols in the burst that a word makes
abbrev pub size_of : ℕ → ℕ
size_of word = 1 + word / 256 % most_burst

-- the number with which the symbols of the burst that a word makes are combined
abbrev pub change_of : ℕ → ℕ
change_of word = 1 + high_half word % change_count

-- the first bursts that a generator makes from a place on, as many as the first argument says
unfoldable pub bursts : ℕ → ℕ → Lcg → List Burst
bursts zero place words = []
bursts (suc n) place words =
    let word = (pcg32 words).0 in
    let first = place + gap_of word in
    record {
      first = first;
      size = size_of word;
      change = change_of word;
    } ∷ bursts n (first + size_of word) (pcg32 words).1

-- whether a burst has the symbol at a place
abbrev pub holds_place : ℕ → Burst → Bool
holds_place place burst = nat_le burst.first place && nat_lt place (burst.first + burst.size)

-- the number with which the symbol at a place is combined
unfoldable pub change_at : List Burst → ℕ → ℕ
change_at [] place = 0
change_at (burst ∷ rest) place = if holds_place place burst then burst.change else change_at rest place

-- a byte whose symbol is changed as at a place; its P and Q bits are unchanged
abbrev pub scratched_byte : List Burst → ℕ × ℕ → ℕ
scratched_byte those (place, byte) = 64 * (byte / 64) + bit_xor (byte % 64) (change_at those place)

-- The bytes of a raw stream with the scratches of a seed. The lead-in blocks are unchanged, and places count from the first
-- symbol after them. There are enough bursts for all places, since each ends at least 193 places after the one before.
unfoldable pub scratched : ℕ → ℕ → List ℕ → List ℕ
scratched lead_in seed bytes =
    let program = drop (block_bytes * lead_in) bytes in
    take (block_bytes * lead_in) bytes
    ++ map (scratched_byte (bursts (length program / least_gap + 1) 0 (generator seed)))
    (enumerate_from 0 program)

-- The result counts the whole blocks of some bytes, and the text has these blocks with the scratches.
pub record IsScratched (lead_in seed : ℕ) (bytes : List ℕ) (pumped : Pumped) (text : List ℕ) : Type 0 where
  pub blocks : pumped.units ≡ length bytes / block_bytes
  pub text_is : text ≡ scratched lead_in seed (take (length bytes / block_bytes * block_bytes) bytes)

-- the reading of a call that scratches raw blocks
abbrev pub scratching : ℕ → ℕ → Reading Pumped PumpStop
scratching lead_in seed =
    as_pumped (record { size = block_bytes; limit = most_units }) (IsScratched lead_in seed)
