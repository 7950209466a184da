use Rattle.std.proofs.Common.{ap, ◌∙◌}
use Rattle.bit_lists.specs.Bits.{numbers_of}
use Rattle.bit_lists.proofs.Groups.{bytes_from_bits, symbols_have_bits}
use Rattle.raw_subcode.specs.Channels.{symbol_bits}
use Rattle.raw_subcode.proofs.laws.carried_packs_are_read.Goals as goal

pub returns : goal.returns
returns c block pack k size small carried =
    ap (numbers_of 8) (ap symbol_bits carried ∙ symbols_have_bits pack size)
    ∙ bytes_from_bits pack small
