use Rattle.std.specs.Prelude.{◌≡◌, ◌+◌, ◌-◌, flat_map, take}
use Rattle.std.specs.Io.KnownBytes.{Appends}
use Rattle.cdtext_packs.specs.TextLines.{text_line, tracks_of}
use Rattle.cdtext_packs.proofs.text.write_kind.Given as goal

abbrev pub invariant-loop-track : goal.invariant-loop-track
invariant-loop-track g l = record {
  put : Appends (g.K.Sink.held l.fn.out) (g.K.Sink.held l.out)
      (flat_map (text_line l.map l.kind) (take (l.track - l.map.first + 1) (tracks_of l.map)));
  same : g.K.Sink.faults l.out ≡ g.K.Sink.faults l.fn.out;
}
