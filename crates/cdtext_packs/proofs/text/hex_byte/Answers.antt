use Rattle.std.proofs.Common.{IsOk, ◌∙◌, arith, rules}
use Rattle.cdtext_packs.proofs.Hex.{encode_byte, on_ok}
use Rattle.cdtext_packs.proofs.text.hex_byte.Goals as goal

pub returns : goal.returns
returns c =
    let fits : IsOk c.encode_to_slice.result = c.encode_to_slice.ensures.fits.1 (search rules) in
    on_ok c.encode_to_slice.result _ fits c.encode_to_slice.ensures.written
    ∙ encode_byte c.args.byte (omega arith)
