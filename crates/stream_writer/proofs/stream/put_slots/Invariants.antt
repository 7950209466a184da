use Rattle.stream_writer.specs.Given.{AreQuiet, ComesLater}
use Rattle.stream_writer.proofs.Slots.{AreWritten}
use Rattle.stream_writer.proofs.stream.put_slots.Given as goal

abbrev pub invariant-loop-k : goal.invariant-loop-k
invariant-loop-k g l = record {
  written : AreWritten (g.P.PackSource.comes l.fn.source) l.fn.spread l.spread l.k l.symbols;
  quiet : AreQuiet l.spread l.quiet;
  later : ComesLater (g.P.PackSource.comes l.fn.source) l.k (g.P.PackSource.comes l.source);
}
