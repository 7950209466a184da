use Rattle.std.proofs.Common.{◌≡◌, ◌<◌, ◌%◌, ℕ, length, get_or}
use Rattle.rw_code.proofs.word.Word.new.Given as goal

abbrev pub invariant-loop-i : goal.invariant-loop-i
invariant-loop-i l = (length l.low ≡ 24) × ((k : ℕ) → k < l.i → get_or l.low k 0 ≡ get_or l.bytes k 0 % 64)
