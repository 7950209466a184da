use Rattle.std.proofs.Common.{◌≡◌, ◌<◌, ℕ, false, is_none}
use Rattle.cdtext_packs.specs.Kept.{with_number}
use Rattle.cdtext_packs.proofs.reading.first_missing.Given as goal

abbrev pub invariant-loop-number : goal.invariant-loop-number
invariant-loop-number l = (k : ℕ) → k < l.number → is_none (with_number l.kept k) ≡ false
