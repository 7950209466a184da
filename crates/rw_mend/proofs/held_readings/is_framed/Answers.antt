use Rattle.std.proofs.Common.{◌≡◌, ap, ◌∙◌}
use Rattle.std.specs.Prelude.{is_ok}
use Rattle.bit_lists.specs.Bits.{bits_of_bytes}
use Rattle.raw_subcode.specs.Channels.{q_bits}
use Rattle.q_channel.specs.ReadingOf.{reading_of}
use Rattle.rw_mend.specs.Chosen.{is_framed_block}
use Rattle.rw_mend.proofs.held_readings.is_framed.Goals as goal

pub returns : goal.returns
unfolding is_framed_block
returns c =
    let block = c.args.block.now in
    let same : c.from_bytes.result ≡ block = cc in
    let bits : bits_of_bytes c.q_frame.result ≡ q_bits block = c.q_frame.ensures.bits ∙ ap q_bits same in
    c.is_frame.ensures ∙ ap (λ l. is_ok (reading_of l)) bits
