use Rattle.std.proofs.Common.{◌≡◌, ℕ, ◌<◌, length, get_or}
use Rattle.std.specs.Prelude.{All}
use Rattle.cdg_instructions.specs.Instruction.{table_colour}
use Rattle.cdg_instructions.proofs.reading.colours.Given as goal

abbrev pub invariant-loop-k : goal.invariant-loop-k
invariant-loop-k l = (length l.colours ≡ 8)
    × All (λ colour. colour < 4096) l.colours
    × ((j : ℕ) → j < l.k → get_or l.colours j 0 ≡ table_colour l.symbols j)
