use Rattle.std.proofs.Common.{◌≡◌, ◌++◌, [], Some, take, drop, arith, ap, ◌∙◌, take_all, append-nil}
use Rattle.std.proofs.lemmas.List.{drop_all}
use Rattle.cdg_press.specs.Steps.{thin_next, thin_gives}
use Rattle.cdg_press.proofs.thinner.ThinnerInPlace.change.Goals as goal

pub returns-clause-next : goal.returns-clause-next
returns-clause-next c =
    let bytes = c.args.bytes.now in
    let whole : take 24 bytes ≡ bytes = take_all 24 bytes (omega (arith, c.requires)) in
    c.thin.ensures.next ∙ ap (thin_next c.args.self.now) (c.in-Some.ensures.cases.same ∙ whole)

pub returns-clause-gives : goal.returns-clause-gives
returns-clause-gives c =
    let bytes = c.args.bytes.now in
    let whole : take 24 bytes ≡ bytes = take_all 24 bytes (omega (arith, c.requires)) in
    let none : drop 24 bytes ≡ [] = drop_all 24 bytes (omega (arith, c.requires)) in
    ap Some (ap (λ l. c.thin.new.pack ++ l) none ∙ append-nil c.thin.new.pack) ∙ c.thin.ensures.gives
    ∙ ap (thin_gives c.args.self.now) (c.in-Some.ensures.cases.same ∙ whole)
