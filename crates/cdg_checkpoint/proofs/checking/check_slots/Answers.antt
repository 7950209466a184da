use Rattle.std.proofs.Common.{ap, ◌∙◌}
use Rattle.cdg_checkpoint.specs.Table.{empty_symbols}
use Rattle.cdg_checkpoint.proofs.SlotRanges.{slots_checked}
use Rattle.cdg_checkpoint.proofs.checking.check_slots.Goals as goal

pub returns : goal.returns
returns c =
    slots_checked c.args.bytes.now c.empty_symbols-empty.result
    (c.empty_symbols-empty.ensures.value ∙ ap empty_symbols c.counts_in.ensures.program)
    c.empty_symbols-empty.ensures.most
    (c.in_ok-check_bytes.ensures)
    c.check_bytes-2.result c.check_bytes-2.ensures
