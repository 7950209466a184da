use Rattle.std.proofs.Common.{rules, ◌≡◌, sym, ap, ◌∙◌, arith}
use Rattle.bit_lists.specs.Bits.{bits_of_bytes}
use Rattle.bit_lists.proofs.BitsLemmas.{length-bits_of_bytes}
use Rattle.q_channel.specs.QFrame.{field_value}
use Rattle.q_channel.proofs.Layouts.{check_agrees}
use Rattle.q_channel.proofs.ProgramFrames.{program_reading}
use Rattle.q_channel.proofs.program.is_program_frame.Goals as goal

pub returns-in-ProgramFrame-clause-reading : goal.returns-in-ProgramFrame-clause-reading
returns-in-ProgramFrame-clause-reading c = λ yes.
    let m : c.of_frame-message.result ≡ bits_of_bytes c.args.bytes.now = c.of_frame-message.ensures.bits in
    let check : field_value (bits_of_bytes c.args.bytes.now) 80 16 ≡ c.field.result =
    ap (λ x. field_value x 80 16) (sym m) ∙ sym c.field.ensures.value in
    program_reading c.args.bytes.now c.of_frame-message.result c.of-kind.result c.field-2.result c.byte.result
    c.byte-2.result m
    (length-bits_of_bytes c.args.bytes.now ∙ omega arith) c.of-kind.ensures c.in-ProgramFrame.is
    c.field-2.ensures.value c.byte.ensures c.byte-2.ensures (c.has_program_fields.ensures yes)
    (check_agrees c.args.bytes.now (search rules) (check ∙ c.if-field-crc16.false ∙ c.crc16.ensures))
