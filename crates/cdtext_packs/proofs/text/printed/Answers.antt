use Rattle.std.proofs.Common.{◌≡◌, ◌∷◌, inl, inr, sym, ◌∙◌, arith, rules}
use Rattle.bit_lists.specs.Digits.{hex_digits}
use Rattle.cdtext_packs.specs.TextLines.{printed}
use Rattle.cdtext_packs.proofs.TextLines.{not_printable}
use Rattle.cdtext_packs.proofs.text.printed.Goals as goal
use Rattle.cdtext_packs.proofs.text.printed.Goals.{else-byte-ge32-via-then-byte-ge32+then-byte-le126+else-byte-ne92, else-byte-ge32-via-then-byte-ge32+else-byte-le126, else-byte-ge32-via-else-byte-ge32}

pub returns-else-byte-ge32 : goal.returns-else-byte-ge32
returns-else-byte-ge32 c =
    let other : printed c.args.byte ≡ 92 ∷ hex_digits 2 c.args.byte =
    not_printable c.args.byte (elim c.else-byte-ge32.branch [
      | else-byte-ge32-via-then-byte-ge32+then-byte-le126+else-byte-ne92 w ↦ inl w.if-byte-ne92.false
      | else-byte-ge32-via-then-byte-ge32+else-byte-le126 w ↦ inr (inl (omega (arith, w.if-byte-le126.false)))
      | else-byte-ge32-via-else-byte-ge32 w ↦ inr (inr (omega (arith, w.if-byte-ge32.false)))
    ]) in
    let hex : c.add-else-byte-ge32-2.new.self ≡ 92 ∷ hex_digits 2 c.args.byte = search rules in
    hex ∙ sym other
