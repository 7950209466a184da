use Rattle.std.proofs.Common.{◌≡◌}
use Rattle.bit_lists.specs.Bits.{number_of}
use Rattle.tile_author.proofs.Reading.{read_bits}
use Rattle.tile_author.proofs.basis.Basis.line.Given as goal

abbrev pub invariant-loop-i : goal.invariant-loop-i
invariant-loop-i l = l.bits ≡ number_of (read_bits l.pixels l.j l.line l.i)
