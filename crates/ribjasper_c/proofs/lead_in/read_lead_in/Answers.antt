use Rattle.std.proofs.Common.{◌≡◌, ◌∙◌, ◌/◌, ℕ, List, min, length, take, ap, subst, sym, arith}
use Rattle.cdg_io.specs.Run.{run_state}
use Rattle.raw_subcode.specs.Channels.{blocks_of}
use Rattle.cdtext_packs.specs.LeadIn.{lead_in_packs}
use Rattle.cdtext_packs.specs.TextSteps.{fresh_texts, text_next, HasRead}
use Rattle.cdtext_packs.specs.declared.lead_in_texts.LeadInTexts.{LeadInTexts}
use Rattle.ribjasper_c.proofs.LeadInBlocks.{lead_in_blocks}
use Rattle.ribjasper_c.proofs.lead_in.read_lead_in.Goals as goal

pub returns : goal.returns
returns c =
    let lead_in = c.args.lead_in in
    let blocks : List (List ℕ) = blocks_of c.args.form c.args.stream.now in
    let n = length c.args.stream.now / c.unit_bytes.result in
    let end : c.loop-b.b ≡ min n lead_in =
    omega (arith, c.loop-b-test.false, c.loop-b.auto.b-end, c.min-b-end.ensures) in
    let texts : c.loop-b.texts ≡ run_state text_next (fresh_texts lead_in) (take (min n lead_in) blocks) =
    c.loop-b.invariant.texts
    ∙ ap (λ (k : ℕ). run_state text_next (fresh_texts lead_in) (take k blocks)) end in
    subst (λ (s : LeadInTexts). HasRead (lead_in_packs (take lead_in blocks)) s) (sym texts)
    (subst (λ (bs : List (List ℕ)).
    HasRead (lead_in_packs bs) (run_state text_next (fresh_texts lead_in) (take (min n lead_in) blocks)))
    (lead_in_blocks c.args.form lead_in c.args.stream.now n c.loop-b.invariant.blocks)
    (c.lead_in_packs_are_read.ensures lead_in (take (min n lead_in) blocks) c.requires))
