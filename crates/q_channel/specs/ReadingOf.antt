-- The reading of 96 bits, as a function. There is no other reading of these bits.
use Rattle.std.specs.Prelude.{ℕ, Bool, true, false, List, take, drop, Option, Some, None, Result, Ok, Err, ◌==◌}
use Rattle.bit_lists.specs.Bits.{number_of}
use Rattle.bit_lists.specs.Check.{check_bits}
use Rattle.q_channel.specs.Sizes.{field_bits}
use Rattle.q_channel.specs.QReading.{first_bad_field}
use Rattle.q_channel.specs.Kinds.{frame_at, kind_of}
use Rattle.q_channel.specs.declared.frame.QFrame.{QFrame}
use Rattle.q_channel.specs.declared.frame.QFault.{QFault}
use Rattle.q_channel.specs.declared.frame.QFault.TheVariants.{BadCrc, BadField}

-- the reading from three values: whether the check matches, the first bit of the first field out of its range, and the
-- frame
abbrev pub reading_by : Bool → Option ℕ → QFrame → Result QFrame QFault
reading_by false bad frame = Err BadCrc
reading_by true (Some bit) frame = Err (BadField bit)
reading_by true None frame = Ok frame

-- whether the last sixteen bits are the check of the first eighty
abbrev pub q_check_matches : List Bool → Bool
q_check_matches message =
    number_of (drop field_bits message) == number_of (check_bits (take field_bits message))

-- the reading of 96 bits
unfoldable pub reading_of : List Bool → Result QFrame QFault
reading_of message = reading_by (q_check_matches message) (first_bad_field message)
    (frame_at (kind_of message) message)
