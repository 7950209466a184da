use Rattle.std.proofs.Common.{rules, ◌≡◌, sym, ap, ◌∙◌}
use Rattle.bit_lists.specs.Bits.{bits_of_bytes}
use Rattle.q_channel.specs.QFrame.{field_value}
use Rattle.q_channel.specs.QReading.{first_bad_field}
use Rattle.q_channel.specs.Kinds.{frame_at}
use Rattle.q_channel.proofs.Layouts.{check_agrees, check_differs}
use Rattle.q_channel.proofs.Frames.{good_at, bad_at, is_frame}
use Rattle.q_channel.proofs.decoding.read.Goals as goal

pub returns-then-field-crc16 : goal.returns-then-field-crc16
returns-then-field-crc16 c = λ same.
    let m : c.of_frame-message.result ≡ bits_of_bytes c.args.bytes.now = c.of_frame-message.ensures.bits in
    c.if-field-crc16.true (c.field.ensures.value
    ∙ ap (λ x. field_value x 80 16) m
    ∙ check_differs c.args.bytes.now (search rules) same
    ∙ sym c.crc16.ensures)

pub frame-requires-clause-valid : goal.frame-requires-clause-valid
frame-requires-clause-valid c =
    (good_at c.of_frame-message.result c.of-kind.result c.field-2.result c.byte.result c.byte-2.result
    (search rules) c.of-kind.ensures c.field-2.ensures.value c.byte.ensures c.byte-2.ensures
    (sym c.first_bad_of_kind.ensures ∙ c.in-None.is)).valid

pub returns-in-Some : goal.returns-in-Some
returns-in-Some c =
    let m : c.of_frame-message.result ≡ bits_of_bytes c.args.bytes.now = c.of_frame-message.ensures.bits in
    let check : field_value (bits_of_bytes c.args.bytes.now) 80 16 ≡ c.field.result =
    ap (λ x. field_value x 80 16) (sym m) ∙ sym c.field.ensures.value in
    let bad =
    bad_at c.of_frame-message.result c.of-kind.result c.field-2.result c.byte.result c.byte-2.result
    c.in-Some.bit
    c.of-kind.ensures c.field-2.ensures.value c.byte.ensures c.byte-2.ensures
    (sym c.first_bad_of_kind.ensures ∙ c.in-Some.is) in (
      check_agrees c.args.bytes.now (search rules) (check ∙ c.if-field-crc16.false ∙ c.crc16.ensures),
      ap first_bad_field (sym m) ∙ bad,
    )

pub returns-in-None : goal.returns-in-None
returns-in-None c =
    let m : c.of_frame-message.result ≡ bits_of_bytes c.args.bytes.now = c.of_frame-message.ensures.bits in
    let check : field_value (bits_of_bytes c.args.bytes.now) 80 16 ≡ c.field.result =
    ap (λ x. field_value x 80 16) (sym m) ∙ sym c.field.ensures.value in
    let good =
    good_at c.of_frame-message.result c.of-kind.result c.field-2.result c.byte.result c.byte-2.result
    (search rules) c.of-kind.ensures c.field-2.ensures.value c.byte.ensures c.byte-2.ensures
    (sym c.first_bad_of_kind.ensures ∙ c.in-None.is) in
    is_frame c.args.bytes.now c.of_frame-message.result c.frame.result
    (frame_at c.of-kind.result c.of_frame-message.result) m c.frame.ensures
    good (check_agrees c.args.bytes.now (search rules) (check ∙ c.if-field-crc16.false ∙ c.crc16.ensures))
