-- The bytes of a piece.
use Rattle.std.specs.Prelude.{ℕ, List, None, Some, replicate}
use Rattle.std.specs.declared.option.Option.{Option}

-- this number of zeros, or these bytes
abbrev pub piece_bytes : Option ℕ → List ℕ → List ℕ
piece_bytes None bytes = bytes
piece_bytes (Some count) bytes = replicate count 0
