use Rattle.std.specs.Prelude.{◌≡◌, ◌<◌, ℕ, Some}
use Rattle.cdg_screen.specs.Memory.{at, moved_in}
use Rattle.cdg_screen.proofs.memory.Memory.keeps_row_in.Given as goal

abbrev pub invariant-loop-x : goal.invariant-loop-x
invariant-loop-x l = (x : ℕ) → x < l.x
    → at l.self x l.y ≡ moved_in (Some l.colour) l.across l.down (at l.self) x l.y
