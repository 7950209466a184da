use Rattle.std.specs.Prelude.{◌≡◌, ◌<◌, ℕ, Some}
use Rattle.cdg_screen.specs.Memory.{at, moved_in}
use Rattle.cdg_screen.proofs.memory.Memory.keeps_scrolled_in.Given as goal

abbrev pub invariant-loop-y : goal.invariant-loop-y
invariant-loop-y l = (x y : ℕ) → x < 300 → y < l.y
    → at l.self x y ≡ moved_in (Some l.colour) l.across l.down (at l.self) x y
