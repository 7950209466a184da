use Rattle.std.proofs.Common.{rules, ◌≡◌, sym, ap, ◌∙◌, arith}
use Rattle.std.specs.Prelude.{is_ok, Err}
use Rattle.bit_lists.specs.Bits.{bits_of_bytes}
use Rattle.bit_lists.proofs.BitsLemmas.{length-bits_of_bytes}
use Rattle.q_channel.specs.QFrame.{field_value}
use Rattle.q_channel.specs.declared.frame.QFault.TheVariants.{BadCrc}
use Rattle.q_channel.proofs.Layouts.{check_agrees, check_differs}
use Rattle.q_channel.proofs.ReadingLaws.{only_reading}
use Rattle.q_channel.proofs.WholeFrames.{is_whole, turned_round}
use Rattle.q_channel.proofs.decoding.is_frame.Goals as goal

pub returns-then-field-check : goal.returns-then-field-check
returns-then-field-check c =
    let bits = bits_of_bytes c.args.bytes.now in
    let m : c.of_frame-message.result ≡ bits = c.of_frame-message.ensures.bits in
    ap is_ok (only_reading bits (Err BadCrc) (length-bits_of_bytes c.args.bytes.now ∙ omega arith)
    (λ same. c.if-field-check.true (c.field.ensures.value
    ∙ ap (λ x. field_value x 80 16) m
    ∙ check_differs c.args.bytes.now (search rules) same
    ∙ sym c.crc16-check.ensures)))

pub returns : goal.returns
returns c =
    let bits = bits_of_bytes c.args.bytes.now in
    let m : c.of_frame-message.result ≡ bits = c.of_frame-message.ensures.bits in
    let check : field_value bits 80 16 ≡ c.field.result =
    ap (λ x. field_value x 80 16) (sym m) ∙ sym c.field.ensures.value in
    turned_round c.is_none.result _ c.is_none.ensures
    ∙ is_whole c.args.bytes.now c.of_frame-message.result c.of-kind.result c.field-2.result c.byte.result
    c.byte-2.result c.first_bad_of_kind.result m
    (length-bits_of_bytes c.args.bytes.now ∙ omega arith) c.of-kind.ensures c.field-2.ensures.value
    c.byte.ensures c.byte-2.ensures
    (sym c.first_bad_of_kind.ensures)
    (check_agrees c.args.bytes.now (search rules) (check ∙ c.if-field-check.false ∙ c.crc16-check.ensures))
