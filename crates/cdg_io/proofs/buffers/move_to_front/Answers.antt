use Rattle.std.proofs.Common.{◌≡◌, ◌+◌, ◌-◌, take, drop, sym, ap, ◌∙◌, arith, length-drop}
use lib.Seq.{paste}
use Rattle.std.proofs.lemmas.List.{drop-take}
use Rattle.std.proofs.lemmas.List.Edits.{take-paste}
use Rattle.cdg_io.proofs.buffers.move_to_front.Goals as goal

pub returns : goal.returns
returns c =
    let all = c.args.bytes.now in
    let from = c.args.from in
    let left = c.args.end - from in
    let same : left ≡ 0 + left = omega arith in
    let whole : from + left ≡ c.args.end = omega (arith, c.requires.0) in
    ap (take left) c.copy_within.ensures.after ∙ ap (λ k. take k (paste all 0 (drop from all) left)) same
    ∙ take-paste all 0 (drop from all) left (omega arith)
    (omega (arith, c.requires.0, c.requires.1, length-drop from all))
    ∙ sym (drop-take from left all)
    ∙ ap (λ k. drop from (take k all)) whole
