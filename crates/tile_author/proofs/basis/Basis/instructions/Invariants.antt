use Rattle.std.proofs.Common.{◌≡◌, map}
use Rattle.bit_lists.specs.Counting.{below}
use Rattle.tile_author.specs.Plan.{planned}
use Rattle.tile_author.proofs.basis.Basis.instructions.Given as goal

abbrev pub invariant-loop-j : goal.invariant-loop-j
invariant-loop-j l = l.instrs.items ≡ map (planned l.draws l.row l.column l.pixels) (below l.j)
