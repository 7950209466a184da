use Rattle.std.proofs.Common.{rules, arith}
use Rattle.bit_lists.proofs.BitsLemmas.{length-bits_of}
use Rattle.q_channel.proofs.Bytes.{twelve_bytes}
use Rattle.q_channel.proofs.message.Message.of_frame.Goals as goal

pub returns-clause-bits : goal.returns-clause-bits
returns-clause-bits c =
    twelve_bytes c.args.bytes.now _ (search rules) (λ k. c.fits-bytes k) (omega
    (arith, c.from.ensures, c.from-2.ensures, c.from_be_bytes-high.ensures, c.from_be_bytes-low.ensures))

pub returns-clause-size : goal.returns-clause-size
returns-clause-size c = length-bits_of 96 _
