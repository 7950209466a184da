use Rattle.std.proofs.Common.{◌≡◌, ◌≤◌, ◌-◌, length}
use Rattle.std.specs.Io.KnownBytes.{Consumes}
use Rattle.cdg_checkpoint.proofs.plain_file.PlainFile.read.Given as goal

abbrev pub invariant-loop-self : goal.invariant-loop-self
invariant-loop-self g l = record {
  room : length l.chunk ≡ 4096;
  within : length l.self ≤ 65046;
  taken : Consumes (g.S.Source.left l.initial.source) (g.S.Source.left l.source) l.self;
  reported : g.S.Source.ends l.source ≡ g.S.Source.ends l.initial.source;
  same : g.S.Source.faults l.source ≡ g.S.Source.faults l.initial.source;
}

abbrev pub decreases-loop-self : goal.decreases-loop-self
decreases-loop-self g l = 65046 - length l.self
