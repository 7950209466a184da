use Rattle.std.proofs.Common.{ap, ◌∙◌}
use Rattle.bit_lists.specs.Bits.{numbers_of}
use Rattle.bit_lists.proofs.Groups.{bytes_from_bits}
use Rattle.raw_subcode.proofs.laws.q_bits_are_read.Goals as goal

pub returns : goal.returns
returns c block frame small same = ap (numbers_of 8) same ∙ bytes_from_bits frame small
