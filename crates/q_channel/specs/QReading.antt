-- The reading of 96 bits of the Q channel: a frame, or the reason why they are not a frame.
use Rattle.std.specs.Prelude.{◌≡◌, ◌≢◌, ℕ, ◌+◌, ◌*◌, Bool, ◌||◌, List, [], ◌∷◌, ◌++◌, map, take, drop, Option, Some, None, Result, Ok, Err, ◌==◌, nat_le, if◌then◌else◌}
use Rattle.std.specs.Char.{is_ascii_uppercase}
use Rattle.bit_lists.specs.Counting.{below}
use Rattle.bit_lists.specs.Check.{check_bits}
use Rattle.disc_time.specs.Fields.{catalogue_digits}
use Rattle.q_channel.specs.Sizes.{field_bits}
use Rattle.q_channel.specs.QFrame.{field_value, is_bcd_within, is_other, IsFrame}
use Rattle.q_channel.specs.declared.frame.QFrame.{QFrame}
use Rattle.q_channel.specs.declared.frame.QFault.{QFault}
use Rattle.q_channel.specs.declared.frame.QFault.TheVariants.{BadCrc, BadField}

-- a field: its first bit, its width, and the numbers that it may have
pub record FieldRange : Type 0 where
  pub first : ℕ
  pub width : ℕ
  pub allows : ℕ → Bool

-- the field with this first bit and this width that may have these numbers
abbrev pub range : ℕ → ℕ → (ℕ → Bool) → FieldRange
range first width allows = record { first = first; width = width; allows = allows }

-- a field of `width` bits that are zero
abbrev pub zeros_at : ℕ → ℕ → FieldRange
zeros_at first width = range first width (λ n. n == 0)

-- a byte of two decimal digits whose number is in a range
abbrev pub bcd_at : ℕ → ℕ → ℕ → FieldRange
bcd_at first low high = range first 8 (is_bcd_within low high)

-- the three bytes of a time, each in its range
abbrev pub time_at : ℕ → List FieldRange
time_at first = bcd_at first 0 99 ∷ bcd_at (first + 8) 0 59 ∷ bcd_at (first + 16) 0 74 ∷ []

-- decimal digits of four bits each
abbrev pub digits_at : ℕ → ℕ → List FieldRange
digits_at first count = map (λ k. range (first + 4 * k) 4 (λ n. nat_le n 9)) (below count)

-- whether a number is the code of a capital letter: its ASCII code minus the code of the digit 0
abbrev pub is_letter : ℕ → Bool
is_letter n = is_ascii_uppercase (n + 48)

-- whether a number is the code of a capital letter or of a digit
abbrev pub is_letter_or_digit : ℕ → Bool
is_letter_or_digit n = is_letter n || nat_le n 9

-- characters of six bits each
abbrev pub characters_at : ℕ → ℕ → (ℕ → Bool) → List FieldRange
characters_at first count allows = map (λ k. range (first + 6 * k) 6 allows) (below count)

-- the program area: a track, an index, a time, a zero byte and the absolute time
abbrev pub program_ranges : List FieldRange
program_ranges = bcd_at 8 1 99 ∷ bcd_at 16 0 99 ∷ (time_at 24 ++ zeros_at 48 8 ∷ time_at 56)

-- an entry of the table of contents: a time, a zero byte, and three bytes that depend on its point. These are the first
-- track, any byte and a zero byte; or the last track and two zero bytes; or a time.
abbrev pub toc_ranges : ℕ → List FieldRange
toc_ranges point = time_at 24 ++ zeros_at 48 8 ∷ (
    if point == 0xa0 then bcd_at 56 1 99 ∷ zeros_at 72 8 ∷ []
    else (if point == 0xa1 then bcd_at 56 1 99 ∷ zeros_at 64 8 ∷ zeros_at 72 8 ∷ []
    else time_at 56))

-- a catalogue number: thirteen digits, twelve zero bits, and a frame
abbrev pub catalogue_ranges : List FieldRange
catalogue_ranges = digits_at 8 catalogue_digits ++ zeros_at 60 12 ∷ bcd_at 72 0 74 ∷ []

-- a recording code: two letters, three letters or digits, two zero bits, seven digits, four zero bits, and a frame
abbrev pub isrc_ranges : List FieldRange
isrc_ranges =
    characters_at 8 2 is_letter ++ characters_at 20 3 is_letter_or_digit ++ zeros_at 38 2
    ∷ (digits_at 40 7 ++ zeros_at 68 4 ∷ bcd_at 72 0 74 ∷ [])

-- the fields of these bits, which depend on their mode, in ascending order
unfoldable pub ranges_of : List Bool → List FieldRange
ranges_of message =
    if is_other (field_value message 4 4) (field_value message 8 8) (field_value message 16 8) then []
    else (if field_value message 4 4 == 2 then catalogue_ranges
    else (if field_value message 4 4 == 3 then isrc_ranges
    else (if field_value message 8 8 == 0 then toc_ranges (field_value message 16 8)
    else program_ranges)))

-- the first bit of the first of some fields that is out of its range
unfoldable pub first_outside : List Bool → List FieldRange → Option ℕ
first_outside message [] = None
first_outside message (r ∷ rest) = if r.allows (field_value message r.first r.width)
    then first_outside message rest else Some r.first

-- the first bit of the first field of these bits that is out of its range
unfoldable pub first_bad_field : List Bool → Option ℕ
first_bad_field message = first_outside message (ranges_of message)

-- The reading of the 96 bits is this frame or this fault.
abbrev pub IsReading : List Bool → Result QFrame QFault → Type 0
IsReading message (Ok frame) = IsFrame frame message
IsReading message (Err BadCrc) = drop field_bits message ≢ check_bits (take field_bits message)
IsReading message (Err (BadField bit)) = (drop field_bits message ≡ check_bits (take field_bits message))
    × (first_bad_field message ≡ Some bit)
