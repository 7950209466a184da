use Rattle.std.proofs.Common.{ap, ◌∙◌, arith}
use Rattle.hex.specs.Hex.{encode_lower}
use Rattle.cdg_screen.proofs.HexTexts.{two_bytes, on_ok}
use Rattle.cdg_screen.proofs.texts.four_digits.Goals as goal

pub returns : goal.returns
returns c =
    on_ok _ _ _ c.unwrap.ensures c.encode_to_slice.ensures.written
    ∙ ap encode_lower c.to_be_bytes.ensures
    ∙ two_bytes _ _ c.args.colour (omega arith) (omega arith) (omega (arith, c.ranges))
