use Rattle.std.proofs.Common.{◌++◌, ◌∷◌, [], List, ℕ, length, map, ap, ◌∙◌, arith}
use Rattle.std.proofs.lemmas.List.{length-map, take_all}
use Rattle.cdtext_packs.specs.Writing.{joined}
use Rattle.cdtext_packs.proofs.Joined.{joined_more, string_at}
use Rattle.std.proofs.lemmas.Result.{IfOk-from_err}
use Rattle.cdtext_packs.proofs.map.Strings.joined.Goals as goal

pub loop-string-preserved : goal.loop-string-preserved
loop-string-preserved c =
    let i = c.loop-string.string-index in
    let at =
    string_at c.deref-string-items.result.now c.args.self.now i c.string-item.result
    (ap (map (λ v. v.items)) c.deref-string-items.ensures.value ∙ c.self.view_is) c.loop-string-test.true
    c.string-item.is in
    let string =
    c.in_ok-extend_from_slice.ensures.items
    ∙ ap (λ (s : List ℕ). c.loop-string.bytes.items ++ s) (c.deref.ensures.value ∙ at.string_is) in
    joined_more c.args.self.now i _ _ at.inside c.loop-string.invariant
    (c.in_ok-push.ensures.items ∙ ap (λ (s : List ℕ). s ++ 0 ∷ []) string)

pub returns : goal.returns
returns c =
    let size = length-map c.self.inside.items.items (λ v. v.items) in
    let same = ap length c.self.view_is in
    c.loop-string.invariant
    ∙ ap joined (take_all c.loop-string.string-index c.args.self.now
    (omega (arith, size, same, c.loop-string-test.false, ap length c.deref-string-items.ensures.value)))

pub returns-in_err-extend_from_slice : goal.returns-in_err-extend_from_slice
returns-in_err-extend_from_slice c = IfOk-from_err c.from_residual.result _ c.from_residual.ensures.0

pub returns-in_err-push : goal.returns-in_err-push
returns-in_err-push c =
    IfOk-from_err c.from_residual-in_err-push.result _ c.from_residual-in_err-push.ensures.0
