use Rattle.std.proofs.Common.{◌≡◌, ◌+◌, ℕ, List, length}
use Rattle.std.specs.Io.KnownBytes.{Consumes}
use Rattle.cdg_io.proofs.whole.read_on.Given as goal

abbrev pub invariant-loop-count : goal.invariant-loop-count
invariant-loop-count g l = record {
  size : length l.chunk ≡ 4096;
  taken : (xs : List ℕ) × (length xs + l.room ≡ l.most)
      × Consumes (g.S.Source.left l.initial.source) (g.S.Source.left l.source) xs;
  reported : g.S.Source.ends l.source ≡ g.S.Source.ends l.initial.source;
  same : g.S.Source.faults l.source ≡ g.S.Source.faults l.initial.source;
}

abbrev pub decreases-loop-count : goal.decreases-loop-count
decreases-loop-count g l = l.room
