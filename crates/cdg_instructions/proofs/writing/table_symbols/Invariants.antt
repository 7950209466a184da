use Rattle.std.proofs.Common.{◌≡◌, ℕ, ◌+◌, ◌*◌, ◌<◌, ◌/◌, ◌%◌, length, get_or}
use Rattle.cdg_instructions.proofs.writing.table_symbols.Given as goal

abbrev pub invariant-loop-k : goal.invariant-loop-k
invariant-loop-k l = (length l.symbols ≡ 16)
    × ((j : ℕ) → j < l.k
    → (get_or l.symbols (2 * j) 0 ≡ get_or l.colours j 0 / 64)
    × (get_or l.symbols (2 * j + 1) 0 ≡ get_or l.colours j 0 % 64))
