use Rattle.std.proofs.Common.{◌≡◌, ◌/◌, length, take}
use Rattle.cdg_io.specs.Run.{run_state}
use Rattle.raw_subcode.specs.Channels.{unit_size, blocks_of}
use Rattle.cdtext_packs.specs.TextSteps.{fresh_texts, text_next}
use Rattle.ribjasper_c.proofs.lead_in.read_lead_in.Given as goal

abbrev pub invariant-loop-b : goal.invariant-loop-b
invariant-loop-b l = record {
  blocks : l.blocks ≡ length l.fn.stream / unit_size l.fn.form;
  texts : l.texts
      ≡ run_state text_next (fresh_texts l.fn.lead_in) (take l.b (blocks_of l.fn.form l.fn.stream));
}
