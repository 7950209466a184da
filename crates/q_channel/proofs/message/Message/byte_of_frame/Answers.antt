use Rattle.std.proofs.Common.{◌≡◌, ◌+◌, ◌-◌, ◌/◌, ◌%◌, ◌^◌, length, sym, ap, ◌∙◌, arith}
use Rattle.bit_lists.proofs.BitsLemmas.{length-bits_of}
use Rattle.q_channel.specs.QFrame.{field_value}
use Rattle.q_channel.proofs.Fields.{field_value-bits_of}
use Rattle.q_channel.proofs.message.Message.byte_of_frame.Goals as goal

pub returns : goal.returns
returns c =
    let n = c.self.inside.number in
    let width : c.self.inside.width ≡ 96 =
    sym (length-bits_of c.self.inside.width n) ∙ ap length c.self.view_is ∙ c.requires.size in
    let first = c.args.first in
    let sum : first + (8 + (88 - first)) ≡ c.self.inside.width = omega (arith, c.requires.within) in
    ap (λ k. n / 2 ^ (88 - k) % 256) c.from.ensures
    ∙ sym (field_value-bits_of c.self.inside.width n first 8 (88 - first) sum)
    ∙ ap (λ bs. field_value bs first 8) c.self.view_is
