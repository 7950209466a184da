-- The table of a checkpoint's file: its parts, the numbers in them, and their ranges.
use Rattle.std.specs.Prelude.{◌≡◌, ℕ, zero, suc, ◌+◌, ◌-◌, ◌*◌, ◌^◌, ◌<◌, ◌≤◌, List, [], ◌∷◌, ◌++◌, length, take, slice_index, min, codes}
use Rattle.std.specs.List.{AllByRecursion}
use Rattle.bit_lists.specs.Check.{check_of}
use Rattle.disc_time.specs.Counts.{most_lead_in}
use Rattle.raw_subcode.specs.Sizes.{most_units, slots_a_block, symbols_a_slot}
use Rattle.rw_interleave.specs.Interleave.{packs_kept_back, whole_packs}
use Rattle.cdg_instructions.specs.Sizes.{colour_values, screen_pixels}

-- the parts of the file, each of fields of the same size
pub data Part : Type 0 where
  Mark : Part
  ToCome : Part
  LeadIn : Part
  Program : Part
  Bad : Part
  Slots : Part
  Memory : Part
  Border : Part
  Across : Part
  Down : Part
  Colours : Part
  Levels : Part
  Check : Part

-- the symbols of the last seven slots
abbrev pub slots_bytes : ℕ
slots_bytes = 168

-- the size of the bytes that the check covers: all but its own two
abbrev pub body_size : ℕ
body_size = 65043

-- the number of bytes in the file
abbrev pub file_size : ℕ
file_size = 65045

-- the first byte of a part, the number of its fields, and the number of bytes in each field
pub record TableRow : Type 0 where
  pub first : ℕ
  pub count : ℕ
  pub size : ℕ

-- the row of a part in the table of the file
abbrev pub row : Part → TableRow
row Mark = record { first = 0; count = 1; size = 8 }
row ToCome = record { first = 8; count = 1; size = 4 }
row LeadIn = record { first = 12; count = 1; size = 4 }
row Program = record { first = 16; count = 1; size = 4 }
row Bad = record { first = 20; count = 1; size = 4 }
row Slots = record { first = 24; count = slots_bytes; size = 1 }
row Memory = record { first = 192; count = screen_pixels; size = 1 }
row Border = record { first = 64992; count = 1; size = 1 }
row Across = record { first = 64993; count = 1; size = 1 }
row Down = record { first = 64994; count = 1; size = 1 }
row Colours = record { first = 64995; count = 16; size = 2 }
row Levels = record { first = 65027; count = 16; size = 1 }
row Check = record { first = body_size; count = 1; size = 2 }

-- the parts that the check covers, in the order of their bytes
abbrev pub body_parts : List Part
body_parts = Mark ∷ ToCome ∷ LeadIn ∷ Program ∷ Bad ∷ Slots ∷ Memory ∷ Border ∷ Across ∷ Down ∷ Colours ∷
    Levels ∷ []

-- all parts in the order of their bytes
abbrev pub all_parts : List Part
all_parts = body_parts ++ Check ∷ []

-- the byte at which field k of a part begins
abbrev pub byte_of : Part → ℕ → ℕ
byte_of part k = (row part).first + (row part).size * k

-- the number in `size` bytes from a byte on, the highest first
abbrev pub number_at : List ℕ → ℕ → ℕ → ℕ
number_at file zero at = 0
number_at file (suc size) at = 256 ^ size * slice_index file at + number_at file size (at + 1)

-- the number in field k of a part of the file
abbrev pub number : List ℕ → Part → ℕ → ℕ
number file part k = number_at file (row part).size (byte_of part k)

-- the eight bytes at the front, as one number
abbrev pub mark : ℕ
mark = number_at (codes "CDGSAVE1") 8 0

-- the number of symbols of the last seven slots that belong to no slot, after this number of program blocks
abbrev pub empty_symbols : ℕ → ℕ
empty_symbols program = symbols_a_slot * (packs_kept_back - min packs_kept_back (slots_a_block * program))

-- the number in field k of a part is in its range
abbrev pub IsFieldInRange : List ℕ → Part → ℕ → Type 0
IsFieldInRange file Mark k = number file Mark 0 ≡ mark
IsFieldInRange file ToCome k = number file ToCome 0 ≤ most_lead_in
IsFieldInRange file LeadIn k = number file ToCome 0 + number file LeadIn 0 ≤ most_lead_in
IsFieldInRange file Program k = (number file LeadIn 0 + number file Program 0 ≤ most_units)
    × (0 < number file ToCome 0 → number file Program 0 ≡ 0)
IsFieldInRange file Bad k = number file Bad 0 ≤ whole_packs (number file Program 0)
IsFieldInRange file Slots k = (number file Slots k < 64)
    × (k < empty_symbols (number file Program 0) → number file Slots k ≡ 0)
IsFieldInRange file Memory k = number file Memory k < 16
IsFieldInRange file Border k = number file Border k < 16
IsFieldInRange file Across k = number file Across k ≤ 5
IsFieldInRange file Down k = number file Down k ≤ 11
IsFieldInRange file Colours k = number file Colours k < colour_values
IsFieldInRange file Levels k = number file Levels k < 64
IsFieldInRange file Check k = number file Check 0 ≡ check_of (take body_size file)

-- all fields of a part are in their ranges
abbrev pub IsPartInRange : List ℕ → Part → Type 0
IsPartInRange file part = (k : ℕ) → k < (row part).count → IsFieldInRange file part k

-- the first field of this part that is not in its range begins at the byte
pub record IsOutOfPart (file : List ℕ) (part : Part) (byte : ℕ) : Type 0 where
  pub k : ℕ
  pub field : k < (row part).count
  pub byte_is : byte ≡ byte_of part k
  pub out : ¬ IsFieldInRange file part k
  pub earlier : (j : ℕ) → j < k → IsFieldInRange file part j

-- the first field of the file that is not in its range begins at the byte
pub record IsFirstOut (file : List ℕ) (byte : ℕ) : Type 0 where
  pub early : List Part
  pub part : Part
  pub late : List Part
  pub order : all_parts ≡ early ++ part ∷ late
  pub earlier : AllByRecursion (IsPartInRange file) early
  pub here : IsOutOfPart file part byte

-- the bytes are the valid file of a checkpoint
pub record IsCheckpointFile (file : List ℕ) : Type 0 where
  pub size : length file ≡ file_size
  pub ranges : AllByRecursion (IsPartInRange file) all_parts

-- The bytes are not valid, and this is the first invalid byte: their length if they are too few, the first byte past
-- the file if they are too many, and else the first byte of the first field that is not in its range.
pub record IsBadAt (file : List ℕ) (byte : ℕ) : Type 0 where
  pub short : length file < file_size → byte ≡ length file
  pub long : file_size < length file → byte ≡ file_size
  pub field : length file ≡ file_size → IsFirstOut file byte

-- This byte is the first of `count` bytes, from byte `first` on, that is not below a bound.
pub record IsFirstAbove (file : List ℕ) (first count bound byte : ℕ) : Type 0 where
  pub k : ℕ
  pub within : k < count
  pub byte_is : byte ≡ first + k
  pub above : bound ≤ slice_index file (first + k)
  pub earlier : (j : ℕ) → j < k → slice_index file (first + j) < bound
