-- The symbols of a word, and their values. Code calls them by the names of src/word.rt.
use Rattle.std.specs.Prelude.{ℕ}

-- the number of symbols in a word (IEC 60908)
abbrev pub word_symbols : ℕ
word_symbols = 24

-- the last position of a word, counted from 0
abbrev pub last_position : ℕ
last_position = 23

-- the number of values of a symbol, which has six bits
abbrev pub symbol_values : ℕ
symbol_values = 64
