use Rattle.std.proofs.Common.{◌≡◌, ◌<◌, ◌+◌, ℕ, length, get_or}
use Rattle.rw_code.proofs.pack.with_body.Given as goal

abbrev pub invariant-loop-i : goal.invariant-loop-i
invariant-loop-i l =
    (length l.word ≡ 24)
    × ((k : ℕ) → k < 4 → get_or l.word k 0 ≡ get_or l.fn.word k 0)
    × ((k : ℕ) → k < l.i → get_or l.word (4 + k) 0 ≡ get_or l.body k 0)
