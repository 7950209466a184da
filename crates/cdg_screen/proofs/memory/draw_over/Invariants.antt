use Rattle.std.proofs.Common.{◌≡◌, ℕ, ◌<◌, ◌≤◌, length}
use Rattle.std.specs.Prelude.{All, slice_index}
use Rattle.cdg_screen.specs.Memory.{drawn_over}
use Rattle.cdg_screen.proofs.memory.draw_over.Given as goal

abbrev pub invariant-loop-i : goal.invariant-loop-i
invariant-loop-i l =
    (length l.others ≡ 6) × All (λ pixel. pixel < 16) l.others
    × ((k : ℕ) → k < l.i
    → slice_index l.others k ≡ drawn_over l.exclusive (slice_index l.pixels k) (slice_index l.fn.others k))
    × ((k : ℕ) → l.i ≤ k → slice_index l.others k ≡ slice_index l.fn.others k)
