use Rattle.std.specs.Prelude.{◌≡◌, flat_map, take}
use Rattle.std.specs.Io.KnownBytes.{Appends}
use Rattle.cdtext_packs.specs.TextLines.{printed}
use Rattle.cdtext_packs.proofs.text.write_bytes.Given as goal

abbrev pub invariant-loop-byte : goal.invariant-loop-byte
invariant-loop-byte g l =
    Appends (g.K.Sink.held l.fn.out) (g.K.Sink.held l.out) (flat_map printed (take l.byte-index l.bytes))
    × (g.K.Sink.faults l.out ≡ g.K.Sink.faults l.fn.out)
