use Rattle.std.proofs.Common.{◌≡◌, ◌++◌, length, sym, ap, ◌∙◌, rules}
use Rattle.bit_lists.specs.Bits.{bits_of_bytes}
use Rattle.bit_lists.specs.Check.{check_bits}
use Rattle.q_channel.specs.QFrame.{spelled, fields_of}
use Rattle.q_channel.proofs.Bytes.{framed_bits}
use Rattle.q_channel.proofs.Spelled.{program_from}
use Rattle.q_channel.proofs.encoding.encode.Goals as goal
use Rattle.q_channel.proofs.encoding.encode.Goals.{in-Program, in_default}

pub returns : goal.returns
returns c =
    let size : length c.match-frame.fields ≡ 10 = search rules in
    let fields : bits_of_bytes c.match-frame.fields ≡ spelled (fields_of c.args.frame.now) =
    elim c.match-frame.branch [
      | in-Program w ↦
          ap bits_of_bytes w.fields-is
          ∙ program_from w.in-Program.control w.in-Program.track w.in-Program.index w.in-Program.time
          w.in-Program.absolute _ _ _ _ w.to_bcd.ensures w.to_bcd-in-Program.ensures w.bcd.ensures
          w.mode_one-fields.ensures
          ∙ ap (λ f. spelled (fields_of f)) (sym w.in-Program.is)
      | in_default w ↦ ap bits_of_bytes w.fields-is ∙ w.rare_fields-fields.ensures
    ] in
    record {
      valid = c.requires;
      spelling =
          framed_bits c.match-frame.fields _ _ c.crc16.result size c.copy_from_slice.ensures.after
          c.crc16.ensures c.crc16.type_inv (c.copy_from_slice-2.ensures.after ∙ c.to_be_bytes.ensures)
          ∙ ap (λ bs. bs ++ check_bits bs) fields;
    }
