use Rattle.std.specs.Prelude.{◌≡◌, ◌++◌, flat_map}
use Rattle.std.specs.Io.KnownBytes.{Appends}
use Rattle.bit_lists.specs.Counting.{below}
use Rattle.cdg_screen.specs.Texts.{state_head, state_row}
use Rattle.cdg_screen.proofs.screen.Screen.write_state.Given as goal

abbrev pub invariant-loop-k : goal.invariant-loop-k
invariant-loop-k g l =
    Appends (g.K.Sink.held l.fn.out) (g.K.Sink.held l.out)
    ((state_head l.self) ++ flat_map (state_row l.self) (below l.k))
    × (g.K.Sink.faults l.out ≡ g.K.Sink.faults l.fn.out)
