-- The numbers of characters and values in some fields of a cue sheet and of the Q channel. Code calls them by the names of
-- src/counts.rt.
use Rattle.std.specs.Prelude.{ℕ}

-- the number of digits in a catalogue number, which is a bar code (EAN-13)
abbrev pub catalogue_digits : ℕ
catalogue_digits = 13

-- the number of characters in an ISRC, the recording code of a track (ISO 3901)
abbrev pub isrc_characters : ℕ
isrc_characters = 12

-- the number of values of a control field, which has four bits
abbrev pub control_values : ℕ
control_values = 16
