use Rattle.std.proofs.Common.{ℕ, ◌≡◌, ◌<◌, flat_map, false}
use Rattle.std.specs.Io.KnownBytes.{Appends}
use Rattle.bit_lists.specs.Counting.{below}
use Rattle.toc_model.specs.Layout.{toc_frame}
use Rattle.cdtext_packs.specs.LeadIn.{lead_in_symbols}
use Rattle.stream_writer.specs.Blocks.{lead_in_block, IsBuilt}
use Rattle.stream_writer.proofs.stream.put_lead_in.Given as goal

abbrev pub invariant-loop-l : goal.invariant-loop-l
invariant-loop-l g l = record {
  put : Appends (g.K.Sink.held l.fn.out) (g.K.Sink.held l.out)
      (flat_map (lead_in_block l.layout l.texts l.lead_in) (below l.l));
  built : (n : ℕ) → n < l.l
      → IsBuilt (lead_in_block l.layout l.texts l.lead_in n) false (toc_frame l.layout l.lead_in n)
      (lead_in_symbols l.texts n);
  same : g.K.Sink.faults l.out ≡ g.K.Sink.faults l.fn.out;
}
