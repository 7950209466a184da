use Rattle.std.specs.Prelude.{◌≡◌, ◌<◌, ◌%◌, ℕ}
use Rattle.cdg_screen.specs.Standing.{source_x, source_y}
use Rattle.cdg_screen.specs.Memory.{at}
use Rattle.cdg_screen.proofs.memory.Memory.keeps_scrolled_round.Given as goal

abbrev pub invariant-loop-y : goal.invariant-loop-y
invariant-loop-y l = (x y : ℕ) → x < 300 → y < l.y
    → at l.self x y ≡ at l.self (source_x l.across x % 300) (source_y l.down y % 216)
