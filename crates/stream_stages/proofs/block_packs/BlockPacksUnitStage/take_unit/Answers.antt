use Rattle.std.proofs.Common.{◌≡◌, ◌++◌, ℕ, List, Some, ap, ◌∙◌, drop, length, sym, take, take_all, arith}
use Rattle.std.specs.Prelude.{replicate}
use Rattle.stream_stages.specs.Steps.{packs_next, packs_give}
use Rattle.stream_stages.proofs.IdleBlocks.{idle_stays, idle_gives}
use Rattle.stream_stages.proofs.Packing.{block_gives, block_next, taken_at_front}
use Rattle.stream_stages.proofs.block_packs.BlockPacksUnitStage.take_unit.Goals as goal

pub returns-then-stays_idle-clause-next : goal.returns-then-stays_idle-clause-next
returns-then-stays_idle-clause-next c =
    let unit = c.args.unit.now in
    let whole : take 96 unit ≡ unit = take_all 96 unit (omega (arith, c.requires)) in
    sym (idle_stays c.args.self.now c.block_of-block.result.now c.idle_is_codeword.ensures
    (c.stays_idle.ensures c.if-stays_idle.true))
    ∙ ap (packs_next c.args.self.now) (c.block_of-block.ensures ∙ whole)

pub returns-then-stays_idle-clause-gives : goal.returns-then-stays_idle-clause-gives
returns-then-stays_idle-clause-gives c =
    let unit = c.args.unit.now in
    let whole : take 96 unit ≡ unit = take_all 96 unit (omega (arith, c.requires)) in
    ap (λ (l : List ℕ). Some l) c.set_zeros.ensures
    ∙ sym (idle_gives c.args.self.now c.block_of-block.result.now c.idle_is_codeword.ensures
    (c.stays_idle.ensures c.if-stays_idle.true))
    ∙ ap (packs_give c.args.self.now) (c.block_of-block.ensures ∙ whole)

pub returns-clause-next : goal.returns-clause-next
returns-clause-next c =
    let unit = c.args.unit.now in
    let whole : take 96 unit ≡ unit = take_all 96 unit (omega (arith, c.requires)) in
    let gathered = c.gathered-words.ensures in
    let packed = c.put_packs-count.ensures in
    block_next c.args.self.now c.block_of-block.result.now _ _ _ (packed.words ∙ gathered.next) gathered.gives
    packed.bad
    ∙ ap (packs_next c.args.self.now) (c.block_of-block.ensures ∙ whole)

pub returns-clause-gives : goal.returns-clause-gives
returns-clause-gives c =
    let unit = c.args.unit.now in
    let whole : take 96 unit ≡ unit = take_all 96 unit (omega (arith, c.requires)) in
    let packed = c.put_packs-count.ensures in
    let gives = block_gives c.args.self.now c.block_of-block.result.now _ c.gathered-words.ensures.gives in
    ap (λ (l : List ℕ). Some l) c.set.ensures
    ∙ taken_at_front c.args.self.now c.block_of-block.result.now c.put_packs-count.new.place _
    c.put_packs-count.result
    (packed.count ∙ ap length gives)
    (packed.put ∙ ap (λ (l : List ℕ). l ++ drop c.put_packs-count.result (replicate 96 0)) gives)
    ∙ ap (packs_give c.args.self.now) (c.block_of-block.ensures ∙ whole)
