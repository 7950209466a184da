use Rattle.std.proofs.Common.{codes, ◌++◌, ap, sym, refl, ◌∙◌}
use Rattle.cdg_cmd.specs.Line.{refusal_words, words_and_count}
use Rattle.cdg_cmd.specs.declared.status.Refusal.{Refusal}
use Rattle.cdg_cmd.proofs.LineWords.{counted_is, with_number}
use Rattle.cdg_cmd.proofs.status.push_refusal.Goals as goal

pub returns-in-TextMissing-clause-text : goal.returns-in-TextMissing-clause-text
returns-in-TextMissing-clause-text c =
    counted_is c.args.text.now.bytes _ (codes "text-missing") c.in-TextMissing.seq _ c.from.ensures
    c.push_counted-in-TextMissing.ensures.text
    ∙ ap (λ (r : Refusal). c.args.text.now.bytes ++ refusal_words r) (sym c.in-TextMissing.is)

pub returns-in-TextNoSize-clause-text : goal.returns-in-TextNoSize-clause-text
returns-in-TextNoSize-clause-text c =
    c.push_str-in-TextNoSize.ensures.bytes
    ∙ ap (λ (r : Refusal). c.args.text.now.bytes ++ refusal_words r) (sym c.in-TextNoSize.is)

pub returns-in-TextMalformed-clause-text : goal.returns-in-TextMalformed-clause-text
returns-in-TextMalformed-clause-text c =
    with_number c.args.text.now.bytes _ _ (words_and_count (codes "text-malformed") c.in-TextMalformed.seq)
    c.in-TextMalformed.byte _
    (counted_is c.args.text.now.bytes _ (codes "text-malformed") c.in-TextMalformed.seq _
    c.from-in-TextMalformed.ensures c.push_counted-in-TextMalformed.ensures.text)
    c.from-in-TextMalformed-2.ensures c.push_number.ensures.text
    ∙ ap (λ (r : Refusal). c.args.text.now.bytes ++ refusal_words r) (sym c.in-TextMalformed.is)

pub returns-in-Gap-clause-text : goal.returns-in-Gap-clause-text
returns-in-Gap-clause-text c =
    counted_is c.args.text.now.bytes _ (codes "gap") c.in-Gap.track _ c.from-in-Gap.ensures
    c.push_counted-in-Gap.ensures.text
    ∙ ap (λ (r : Refusal). c.args.text.now.bytes ++ refusal_words r) (sym c.in-Gap.is)

pub returns-in-CdgTooLong-clause-text : goal.returns-in-CdgTooLong-clause-text
returns-in-CdgTooLong-clause-text c =
    with_number c.args.text.now.bytes _ _ (words_and_count (codes "cdg-too-long") c.in-CdgTooLong.packs)
    c.in-CdgTooLong.room _
    c.push_counted-in-CdgTooLong.ensures.text refl c.push_number-in-CdgTooLong.ensures.text
    ∙ ap (λ (r : Refusal). c.args.text.now.bytes ++ refusal_words r) (sym c.in-CdgTooLong.is)
