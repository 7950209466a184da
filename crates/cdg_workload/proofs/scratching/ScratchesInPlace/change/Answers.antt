use Rattle.std.proofs.Common.{◌≡◌, ◌++◌, [], Some, take, drop, arith, ap, ◌∙◌, take_all, append-nil}
use Rattle.std.proofs.lemmas.List.{drop_all}
use Rattle.cdg_workload.specs.Steps.{block_next, block_gives}
use Rattle.cdg_workload.proofs.scratching.ScratchesInPlace.change.Goals as goal

pub returns-clause-next : goal.returns-clause-next
returns-clause-next c =
    let bytes = c.args.bytes.now in
    let whole : take 96 bytes ≡ bytes = take_all 96 bytes (omega (arith, c.requires)) in
    c.scratch.ensures.next ∙ ap (block_next c.args.self.now) (c.in-Some.ensures.cases.same ∙ whole)

pub returns-clause-gives : goal.returns-clause-gives
returns-clause-gives c =
    let bytes = c.args.bytes.now in
    let whole : take 96 bytes ≡ bytes = take_all 96 bytes (omega (arith, c.requires)) in
    let none : drop 96 bytes ≡ [] = drop_all 96 bytes (omega (arith, c.requires)) in
    ap Some (ap (λ l. c.scratch.new.block ++ l) none ∙ append-nil c.scratch.new.block)
    ∙ c.scratch.ensures.gives
    ∙ ap (block_gives c.args.self.now) (c.in-Some.ensures.cases.same ∙ whole)
