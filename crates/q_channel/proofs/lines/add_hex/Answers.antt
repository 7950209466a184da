use Rattle.std.proofs.Common.{◌++◌, ap, ◌∙◌}
use Rattle.q_channel.proofs.HexTexts.{lower_is_hex, on_ok}
use Rattle.q_channel.proofs.lines.add_hex.Goals as goal

pub returns-clause-text : goal.returns-clause-text
returns-clause-text c =
    c.add.ensures.bytes
    ∙ ap (λ l. c.args.text.now ++ l) (on_ok _ _ _ c.unwrap.ensures c.encode_to_slice.ensures.written
    ∙ lower_is_hex c.args.bytes.now (λ k. c.fits-bytes k))
