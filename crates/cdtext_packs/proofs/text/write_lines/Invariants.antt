use Rattle.std.specs.Prelude.{◌≡◌, flat_map, take}
use Rattle.std.specs.Io.KnownBytes.{Appends}
use Rattle.cdtext_packs.specs.Texts.{kinds}
use Rattle.cdtext_packs.specs.TextLines.{kind_lines}
use Rattle.cdtext_packs.proofs.text.write_lines.Given as goal

abbrev pub invariant-loop-kind : goal.invariant-loop-kind
invariant-loop-kind g l =
    Appends (g.K.Sink.held l.fn.out) (g.K.Sink.held l.out)
    (flat_map (kind_lines l.map) (take l.kind-index kinds))
    × (g.K.Sink.faults l.out ≡ g.K.Sink.faults l.fn.out)
