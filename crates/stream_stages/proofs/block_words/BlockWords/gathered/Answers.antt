use Rattle.std.proofs.Common.{◌∙◌, ap, arith}
use Rattle.stream_stages.specs.Steps.{words_or_none}
use Rattle.stream_stages.proofs.Blocks.{raw_state, raw_gives, cooked_state, cooked_gives, taken_next, taken_gives}
use Rattle.stream_stages.proofs.block_words.BlockWords.gathered.Goals as goal

pub returns-in-Raw-clause-next : goal.returns-in-Raw-clause-next
returns-in-Raw-clause-next c =
    let s = c.args.self.now in
    taken_next s c.args.block.now _ (omega arith)
    (c.gather_block.ensures.next ∙ raw_state s.form s.gather c.args.block.now c.in-Raw.is c.told-block)

pub returns-in-Raw-clause-gives : goal.returns-in-Raw-clause-gives
returns-in-Raw-clause-gives c =
    let s = c.args.self.now in
    ap words_or_none (taken_gives s c.args.block.now _ (omega arith)
    (c.gather_block.ensures.gives ∙ raw_gives s.form s.gather c.args.block.now c.in-Raw.is c.told-block))

pub returns-in-Cooked-clause-next : goal.returns-in-Cooked-clause-next
returns-in-Cooked-clause-next c =
    let s = c.args.self.now in
    taken_next s c.args.block.now _ (omega arith)
    (cooked_state s.form s.gather c.args.block.now c.in-Cooked.is)

pub returns-in-Cooked-clause-gives : goal.returns-in-Cooked-clause-gives
returns-in-Cooked-clause-gives c =
    let s = c.args.self.now in
    ap words_or_none (taken_gives s c.args.block.now _ (omega arith)
    (c.slots.ensures ∙ cooked_gives s.form s.gather c.args.block.now c.in-Cooked.is))
