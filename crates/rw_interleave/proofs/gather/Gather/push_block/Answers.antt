use Rattle.std.proofs.Common.{◌∙◌}
use Rattle.rw_interleave.proofs.gather.Gather.push_block.Goals as goal

pub returns-then-stays_idle-clause-next : goal.returns-then-stays_idle-clause-next
returns-then-stays_idle-clause-next c = c.stays_idle.ensures.next c.if-stays_idle.true

pub returns-then-stays_idle-clause-gives : goal.returns-then-stays_idle-clause-gives
returns-then-stays_idle-clause-gives c =
    c.idle_words.ensures ∙ c.stays_idle.ensures.gives c.if-stays_idle.true
