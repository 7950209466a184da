use Rattle.std.proofs.Common.{◌≡◌, length}
use Rattle.rw_interleave.specs.Spreading.{spread_symbol}
use Rattle.rw_interleave.proofs.Eighths.{HasEighths}
use Rattle.rw_interleave.proofs.spread.spread_over.Given as goal

abbrev pub invariant-loop-back : goal.invariant-loop-back
invariant-loop-back l = record {
  size : length l.bytes ≡ 24;
  done : HasEighths (λ p. p) (spread_symbol l.packs.items) l.bytes l.back;
}
