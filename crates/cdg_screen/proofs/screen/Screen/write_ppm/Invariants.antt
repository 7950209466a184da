use Rattle.std.specs.Prelude.{◌≡◌, ◌++◌, flat_map}
use Rattle.std.specs.Io.KnownBytes.{Appends}
use Rattle.bit_lists.specs.Counting.{below}
use Rattle.cdg_screen.specs.Texts.{pixmap_header, pixmap_row}
use Rattle.cdg_screen.proofs.screen.Screen.write_ppm.Given as goal

abbrev pub invariant-loop-y : goal.invariant-loop-y
invariant-loop-y g l =
    Appends (g.K.Sink.held l.fn.out) (g.K.Sink.held l.out)
    (pixmap_header ++ flat_map (pixmap_row l.self) (below l.y))
    × (g.K.Sink.faults l.out ≡ g.K.Sink.faults l.fn.out)
