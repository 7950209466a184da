use Rattle.std.proofs.Common.{◌++◌, ◌≡◌, ◌∙◌, ◌-◌, arith, sym, ap}
use Rattle.cdg_io.specs.Run.{run_state, run_gives}
use Rattle.rw_interleave.specs.Gathering.{gather_next, gather_gives}
use Rattle.rw_interleave.specs.Windows.{slots_in}
use Rattle.rw_interleave.proofs.Windows.{quiet_block}
use Rattle.rw_interleave.proofs.gather.Gather.stays_idle.Goals as goal

pub returns-then-are_idle-clause-next : goal.returns-then-are_idle-clause-next
returns-then-are_idle-clause-next c = λ _.
    let window = c.self.invariant in
    let full : c.self.inside.count ≡ 7 = window.full c.if-self.true in
    let seven : slots_in (c.self.inside.early ++ c.self.inside.late) 0 7 ≡ c.args.self.now =
    sym (ap (λ n. slots_in (c.self.inside.early ++ c.self.inside.late) (7 - n) n) full) ∙ c.self.view_is in
    let quiet =
    quiet_block (c.self.inside.early ++ c.self.inside.late) c.args.block.now (window.zeros c.if-self.true)
    (λ n lt. c.are_idle.ensures c.if-are_idle.true n (omega arith)) in
    sym seven ∙ quiet.0 ∙ ap (λ w. run_state gather_next w (slots_in c.args.block.now 0 4)) seven

pub returns-then-are_idle-clause-gives : goal.returns-then-are_idle-clause-gives
returns-then-are_idle-clause-gives c = λ _.
    let window = c.self.invariant in
    let full : c.self.inside.count ≡ 7 = window.full c.if-self.true in
    let seven : slots_in (c.self.inside.early ++ c.self.inside.late) 0 7 ≡ c.args.self.now =
    sym (ap (λ n. slots_in (c.self.inside.early ++ c.self.inside.late) (7 - n) n) full) ∙ c.self.view_is in
    let quiet =
    quiet_block (c.self.inside.early ++ c.self.inside.late) c.args.block.now (window.zeros c.if-self.true)
    (λ n lt. c.are_idle.ensures c.if-are_idle.true n (omega arith)) in
    quiet.1 ∙ ap (λ w. run_gives gather_next gather_gives w (slots_in c.args.block.now 0 4)) seven
