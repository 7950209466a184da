use Rattle.std.proofs.Common.{◌≡◌, ◌*◌}
use Rattle.stream_writer.specs.Given.{AreQuiet, ComesLater}
use Rattle.stream_writer.proofs.Programs.{AreDone}
use Rattle.stream_writer.proofs.stream.put_program.Given as goal

abbrev pub invariant-loop-b : goal.invariant-loop-b
invariant-loop-b g l = record {
  done : AreDone l.layout (g.P.PackSource.comes l.fn.source) l.b (g.K.Sink.held l.fn.out)
      (g.K.Sink.held l.out) l.spread;
  quiet : AreQuiet l.spread l.quiet;
  later : ComesLater (g.P.PackSource.comes l.fn.source) (4 * l.b) (g.P.PackSource.comes l.source);
  same : g.K.Sink.faults l.out ≡ g.K.Sink.faults l.fn.out;
}
