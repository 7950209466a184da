use Rattle.std.proofs.Common.{◌≡◌, ◌*◌}
use Rattle.std.specs.Io.KnownBytes.{Appends}
use Rattle.cdg_workload.specs.Generator.{generator}
use Rattle.cdg_workload.specs.Script.{generated_script}
use Rattle.cdg_workload.proofs.GeneratorLemmas.{after}
use Rattle.cdg_workload.proofs.script.write_script.Given as goal

abbrev pub invariant-loop-k : goal.invariant-loop-k
invariant-loop-k g l = record {
  put : Appends (g.K.Sink.held l.fn.out) (g.K.Sink.held l.out) (generated_script l.seed l.k);
  same : g.K.Sink.faults l.out ≡ g.K.Sink.faults l.fn.out;
  words : l.words ≡ after (6 * l.k) (generator l.seed);
}
