use Rattle.std.proofs.Common.{◌≡◌, ℕ, ◌+◌, ◌<◌, length, get_or}
use Rattle.pack_schedule.proofs.change.colours.Given as goal

abbrev pub invariant-loop-n : goal.invariant-loop-n
invariant-loop-n l = (length l.colours ≡ 8)
    × ((m : ℕ) → m < l.n → get_or l.colours m 0 ≡ get_or l.canvas.colours (l.from + m) 0)
