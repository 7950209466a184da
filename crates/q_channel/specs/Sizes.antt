-- The sizes of a frame. Code calls them by the names of src/frame.rt.
use Rattle.std.specs.Prelude.{ℕ}

-- the number of bits in a frame (IEC 60908): its fields, and their check
abbrev pub frame_bits : ℕ
frame_bits = 96

-- the number of bits in the fields of a frame
abbrev pub field_bits : ℕ
field_bits = 80

-- the number of bytes after the byte with the control bits and the mode, without the check
abbrev pub rest_bytes : ℕ
rest_bytes = 9

-- the number of values of the mode, which has four bits
abbrev pub mode_values : ℕ
mode_values = 16
