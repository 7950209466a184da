use Rattle.std.proofs.Common.{◌≡◌, ◌∙◌, ◌*◌, ◌+◌, ℕ, List, refl, take, drop, append_assoc, arith, ap}
use Rattle.cdtext_packs.specs.LeadIn.{pack_at}
use Rattle.ribjasper_c.proofs.LeadInBlocks.{pack_more}
use Rattle.ribjasper_c.proofs.lead_in.ribjasper_block_text_packs.Goals as goal

pub loop-k-preserved : goal.loop-k-preserved
loop-k-preserved c =
    let k : ℕ = c.loop-k.k in
    let old : List ℕ = c.loop-k.packs in
    let rest : List ℕ = drop (18 * k + 18) old in
    let pack : c.text_pack.result ≡ pack_at c.args.block.now k =
    c.text_pack.ensures.pack ∙ ap (λ block. pack_at block k) c.from_bytes-block.ensures in
    record {
      block = refl;
      size = c.put_pack.array_long;
      done =
          pack_more c.args.block.now old c.put_pack.new.packs c.text_pack.result rest k (omega arith)
          c.loop-k.invariant.size c.put_pack.ensures.size
          (c.put_pack.ensures.put ∙ append_assoc (take (18 * k) old) c.text_pack.result rest) pack
          c.loop-k.invariant.done;
    }
