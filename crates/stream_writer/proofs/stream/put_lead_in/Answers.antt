use Rattle.std.proofs.Common.{ℕ, List, [], false, ◌∙◌, subst, arith, below_more}
use Rattle.std.specs.Io.KnownBytes.{Appends}
use Rattle.cdg_io.specs.Moves.{AppendsPrefix}
use Rattle.toc_model.specs.Layout.{toc_frame}
use Rattle.cdtext_packs.specs.LeadIn.{lead_in_symbols}
use Rattle.stream_writer.specs.Blocks.{lead_in_block, IsBuilt}
use Rattle.stream_writer.proofs.MadeBlocks.{lead_in_made}
use Rattle.stream_writer.proofs.Pieces.{one_piece_more, prefix_of_pieces, on_err}
use Rattle.stream_writer.proofs.stream.put_lead_in.Goals as goal

pub returns-in_err-put_all-clause-part : goal.returns-in_err-put_all-clause-part
returns-in_err-put_all-clause-part g c =
    let f : ℕ → List ℕ = lead_in_block c.args.layout.now c.args.texts.now c.args.lead_in in
    let made =
    lead_in_made c.args.layout.now c.args.texts.now c.args.lead_in c.loop-l.l c.toc_frame-frame.result
    c.lead_in_symbols.result c.built-block.result c.toc_frame-frame.ensures.frame
    c.lead_in_symbols.ensures.symbols c.built-block.ensures.bytes c.built-block.ensures.built in
    on_err c.from_residual.result _
    (prefix_of_pieces _ _ _ [] f c.args.lead_in c.loop-l.l (omega arith) c.loop-l.invariant.put
    (subst (AppendsPrefix _ _) made.bytes c.in_err-put_all.ensures.part))

pub loop-l-preserved : goal.loop-l-preserved
loop-l-preserved g c =
    let f : ℕ → List ℕ = lead_in_block c.args.layout.now c.args.texts.now c.args.lead_in in
    let made =
    lead_in_made c.args.layout.now c.args.texts.now c.args.lead_in c.loop-l.l c.toc_frame-frame.result
    c.lead_in_symbols.result c.built-block.result c.toc_frame-frame.ensures.frame
    c.lead_in_symbols.ensures.symbols c.built-block.ensures.bytes c.built-block.ensures.built in
    record {
      put =
          one_piece_more _ _ _ [] f c.loop-l.l c.loop-l.invariant.put
          (subst (Appends _ _) made.bytes c.in_ok-put_all.ensures.ok);
      built = below_more _ _ c.loop-l.invariant.built
          (subst (λ block. IsBuilt block false (toc_frame c.args.layout.now c.args.lead_in c.loop-l.l)
          (lead_in_symbols c.args.texts.now c.loop-l.l))
          made.bytes made.built);
      same = c.in_ok-put_all.ensures.cause.same ∙ c.loop-l.invariant.same;
    }
