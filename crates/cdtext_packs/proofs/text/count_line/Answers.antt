use Rattle.std.proofs.Common.{◌++◌, List, ℕ, ap, ◌∙◌}
use Rattle.std.specs.Prelude.{codes, decimal}
use Rattle.bit_lists.specs.Digits.{line_feed}
use Rattle.cdtext_packs.specs.TextLines.{offers_line}
use Rattle.cdtext_packs.proofs.text.count_line.Goals as goal

pub returns : goal.returns
unfolding offers_line
returns c =
    let one =
    c.add_count.ensures.text
    ∙ ap (λ (xs : List ℕ). (xs ++ codes "packs good ") ++ decimal c.args.good) c.new-piece.ensures in
    let two =
    c.add_count-2.ensures.text ∙ ap (λ (xs : List ℕ). (xs ++ codes " bad ") ++ decimal c.args.bad) one in
    let three =
    c.add_count-3.ensures.text ∙ ap (λ (xs : List ℕ). (xs ++ codes " other ") ++ decimal c.args.other) two in
    c.add.ensures.bytes ∙ ap (λ (xs : List ℕ). xs ++ line_feed) three
