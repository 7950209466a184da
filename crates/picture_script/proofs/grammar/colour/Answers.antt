use Rattle.std.proofs.Common.{◌≡◌, ◌<◌, ◌∙◌, Some, None, ap, subst, sym, ℕ}
use Rattle.picture_script.specs.ScriptGrammar.{colour_in}
use Rattle.picture_script.proofs.HexWords.{IsColour, colour_read, decoded, not_decoded, pair_is}
use Rattle.picture_script.proofs.grammar.colour.Goals as goal

pub returns-in-Ok-clause-value : goal.returns-in-Ok-clause-value
returns-in-Ok-clause-value c =
    let is =
    decoded _ c.decode_to_slice.new.out _ tt (IsColour c.args.word.now) (None ≡ colour_in c.args.word.now)
    c.in-Ok.ensures.value (colour_read c.args.word.now c.if-word-ne4.false c.if-word-ne48.false) in
    ap Some (c.from_be_bytes.ensures ∙ pair_is c.decode_to_slice.new.out) ∙ is.0

pub returns-in-Ok-clause-below : goal.returns-in-Ok-clause-below
returns-in-Ok-clause-below c =
    let is =
    decoded _ c.decode_to_slice.new.out _ tt (IsColour c.args.word.now) (None ≡ colour_in c.args.word.now)
    c.in-Ok.ensures.value (colour_read c.args.word.now c.if-word-ne4.false c.if-word-ne48.false) in
    subst (λ (n : ℕ). n < 4096) (sym (c.from_be_bytes.ensures ∙ pair_is c.decode_to_slice.new.out)) is.1

pub returns-in-Err-clause-value : goal.returns-in-Err-clause-value
returns-in-Err-clause-value c =
    not_decoded _ c.decode_to_slice.new.out _ tt (IsColour c.args.word.now) (None ≡ colour_in c.args.word.now)
    c.in-Err.ensures.value (colour_read c.args.word.now c.if-word-ne4.false c.if-word-ne48.false)
