use Rattle.std.proofs.Common.{◌≡◌, ◌+◌, ◌*◌}
use Rattle.tile_author.proofs.SameLines.{basis_of}
use Rattle.tile_author.proofs.basis.Basis.offer_line.Given as goal

abbrev pub invariant-loop-i : goal.invariant-loop-i
invariant-loop-i l = l.self ≡ basis_of l.pixels (6 * l.line + l.i)
