use Rattle.std.proofs.Common.{◌≡◌, ◌<◌, ◌^◌, [], ◌∷◌, length, None, ap, sym, ◌∙◌, arith}
use Rattle.std.specs.Prelude.{Ok}
use Rattle.std.specs.Char.{digit_char}
use Rattle.bit_lists.specs.Bits.{bits_of_bytes}
use Rattle.q_channel.specs.QFrame.{field_value}
use Rattle.q_channel.specs.QLine.{q_line}
use Rattle.q_channel.specs.QReading.{first_outside, program_ranges}
use Rattle.q_channel.specs.Kinds.{frame_at}
use Rattle.q_channel.specs.declared.kinds.Kind.TheVariants.{ProgramFrame}
use Rattle.q_channel.proofs.ProgramFrames.{control_is, filled, filled_by_steps, pair, program_text}
use Rattle.q_channel.proofs.program.program_line.Goals as goal

pub returns : goal.returns
returns c =
    let m = c.of_frame-message.result in
    let same : m ≡ bits_of_bytes c.args.bytes.now = c.of_frame-message.ensures.bits in
    let within : first_outside m program_ranges ≡ None =
    ap (λ x. first_outside x program_ranges) same ∙ c.requires.ranges in
    let small : field_value m 0 4 < 2 ^ 4 = omega (arith, c.field.ensures.value, c.field.ensures.bound) in
    let control = control_is c.digit.result (field_value m 0 4) small (c.digit.ensures
    ∙ ap digit_char (c.field.ensures.value)) in
    let track = c.digits_of.ensures ∙ ap pair c.byte_of_frame.ensures in
    let index = c.digits_of-2.ensures ∙ ap pair c.byte_of_frame-2.ensures in
    let minute = c.digits_of-3.ensures ∙ ap pair c.byte_of_frame-3.ensures in
    let second = c.digits_of-4.ensures ∙ ap pair c.byte_of_frame-4.ensures in
    let part = c.digits_of-5.ensures ∙ ap pair c.byte_of_frame-5.ensures in
    let minute2 = c.digits_of-6.ensures ∙ ap pair c.byte_of_frame-6.ensures in
    let second2 = c.digits_of-7.ensures ∙ ap pair c.byte_of_frame-7.ensures in
    let part2 = c.digits_of-8.ensures ∙ ap pair c.byte_of_frame-8.ensures in
    filled_by_steps c.six_digits.result (c.digit.result ∷ []) c.digits_of.result c.digits_of-2.result
    c.digits_of-3.result
    c.digits_of-4.result c.digits_of-5.result c.digits_of-6.result c.digits_of-7.result c.digits_of-8.result
    c.put.new.text c.put-2.new.text c.put-3.new.text c.put-4.new.text c.put-5.new.text c.put-6.new.text
    c.put-7.new.text c.put-8.new.text c.put-9.new.text c.put-10.new.text c.put.ensures c.put-2.ensures
    c.put-3.ensures c.put-4.ensures
    c.put-5.ensures c.put-6.ensures c.put-7.ensures c.put-8.ensures c.put-9.ensures c.put-10.ensures
    ∙ (λ i. filled (c.six_digits.ensures i) (control i) (track i) (index i) (minute i) (second i) (part i)
    (minute2 i) (second2 i) (part2 i))
    ∙ program_text m c.args.block within
    ∙ ap (λ x. q_line c.args.block (Ok (frame_at ProgramFrame x))) same

pub slice_bounds-put-end : goal.slice_bounds-put-end
slice_bounds-put-end c = sym (ap length c.six_digits.ensures)

pub slice_bounds-put-end-3 : goal.slice_bounds-put-end-3
slice_bounds-put-end-3 c = sym (ap length c.digits_of.ensures)

pub slice_bounds-put-end-4 : goal.slice_bounds-put-end-4
slice_bounds-put-end-4 c = sym (ap length c.digits_of-2.ensures)

pub slice_bounds-put-end-5 : goal.slice_bounds-put-end-5
slice_bounds-put-end-5 c = sym (ap length c.digits_of-3.ensures)

pub slice_bounds-put-end-6 : goal.slice_bounds-put-end-6
slice_bounds-put-end-6 c = sym (ap length c.digits_of-4.ensures)

pub slice_bounds-put-end-7 : goal.slice_bounds-put-end-7
slice_bounds-put-end-7 c = sym (ap length c.digits_of-5.ensures)

pub slice_bounds-put-end-8 : goal.slice_bounds-put-end-8
slice_bounds-put-end-8 c = sym (ap length c.digits_of-6.ensures)

pub slice_bounds-put-end-9 : goal.slice_bounds-put-end-9
slice_bounds-put-end-9 c = sym (ap length c.digits_of-7.ensures)

pub slice_bounds-put-end-10 : goal.slice_bounds-put-end-10
slice_bounds-put-end-10 c = sym (ap length c.digits_of-8.ensures)

pub byte_of_frame-requires : goal.byte_of_frame-requires
byte_of_frame-requires c = record { size = c.of_frame-message.ensures.size; within = omega arith }

pub byte_of_frame-requires-2 : goal.byte_of_frame-requires-2
byte_of_frame-requires-2 c = record { size = c.of_frame-message.ensures.size; within = omega arith }

pub byte_of_frame-requires-3 : goal.byte_of_frame-requires-3
byte_of_frame-requires-3 c = record { size = c.of_frame-message.ensures.size; within = omega arith }

pub byte_of_frame-requires-4 : goal.byte_of_frame-requires-4
byte_of_frame-requires-4 c = record { size = c.of_frame-message.ensures.size; within = omega arith }

pub byte_of_frame-requires-5 : goal.byte_of_frame-requires-5
byte_of_frame-requires-5 c = record { size = c.of_frame-message.ensures.size; within = omega arith }

pub byte_of_frame-requires-6 : goal.byte_of_frame-requires-6
byte_of_frame-requires-6 c = record { size = c.of_frame-message.ensures.size; within = omega arith }

pub byte_of_frame-requires-7 : goal.byte_of_frame-requires-7
byte_of_frame-requires-7 c = record { size = c.of_frame-message.ensures.size; within = omega arith }

pub byte_of_frame-requires-8 : goal.byte_of_frame-requires-8
byte_of_frame-requires-8 c = record { size = c.of_frame-message.ensures.size; within = omega arith }
