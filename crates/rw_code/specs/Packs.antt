-- The pack that draws nothing.
use Rattle.std.specs.Prelude.{ℕ, List, replicate}
use Rattle.rw_code.specs.Sizes.{word_symbols}

-- the idle pack: 24 zeros, which draw nothing
abbrev pub idle_pack : List ℕ
idle_pack = replicate word_symbols 0
