use Rattle.std.proofs.Common.{◌∙◌, ◌-◌, sym, arith, eqb}
use Rattle.cdtext_packs.specs.LeadIn.{pack_at}
use Rattle.cdtext_packs.specs.TextSteps.{offered, text_next}
use Rattle.cdtext_packs.specs.declared.lead_in_texts.LeadInTexts.{LeadInTexts}
use Rattle.cdtext_packs.proofs.EmptyBlocks.{empty_offered}
use Rattle.cdtext_packs.proofs.lead_in_texts.LeadInTextsStage.feed.Goals as goal
use Rattle.std.proofs.lemmas.Bool.{cond-false, ne_eqb}

pub returns-then-is_idle-clause-next : goal.returns-then-is_idle-clause-next
unfolding text_next
returns-then-is_idle-clause-next c =
    let s : LeadInTexts = c.args.self.now in
    let block = c.args.block.now in
    let begun : LeadInTexts = record s { left = s.left - 1 } in
    c.count_idle.ensures
    ∙ empty_offered begun block (c.is_idle.ensures c.if-is_idle.true)
    ∙ sym (cond-false (eqb s.left 0) s
    (offered (offered (offered (offered begun (pack_at block 0)) (pack_at block 1)) (pack_at block 2))
    (pack_at block 3))
    (ne_eqb s.left 0 (λ none. absurd (omega (arith, none, c.if-self-gt0.true)))))
