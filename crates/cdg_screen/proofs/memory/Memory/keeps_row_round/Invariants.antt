use Rattle.std.specs.Prelude.{◌≡◌, ◌<◌, ◌%◌, ℕ}
use Rattle.cdg_screen.specs.Standing.{source_x}
use Rattle.cdg_screen.specs.Memory.{at}
use Rattle.cdg_screen.proofs.memory.Memory.keeps_row_round.Given as goal

abbrev pub invariant-loop-x : goal.invariant-loop-x
invariant-loop-x l = (x : ℕ) → x < l.x → at l.self x l.y ≡ at l.self (source_x l.across x % 300) l.from
