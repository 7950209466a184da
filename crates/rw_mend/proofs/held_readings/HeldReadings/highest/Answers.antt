use Rattle.std.proofs.Common.{◌+◌, sym, ◌∙◌, subst, arith}
use Rattle.rw_mend.specs.HeldReadings.{held_blocks, rule_of}
use Rattle.rw_mend.proofs.HeldBlocks.{held_count}
use Rattle.rw_mend.proofs.Ranks.{IsLeading, leading_chosen, leading_kept, leading_new, leading_one}
use Rattle.rw_mend.proofs.held_readings.HeldReadings.highest.Goals as goal
use Rattle.rw_mend.proofs.held_readings.HeldReadings.highest.Goals.{then-leads, else-leads}

pub loop-r-init : goal.loop-r-init
loop-r-init c =
    let blocks = held_blocks c.args.self.now c.args.b in
    record {
      within = c.requires.held.some;
      leads = leading_one (rule_of c.args.part.now blocks) blocks;
    }

pub loop-r-preserved : goal.loop-r-preserved
loop-r-preserved c =
    let blocks = held_blocks c.args.self.now c.args.b in
    let rule = rule_of c.args.part.now blocks in
    let r = c.loop-r.r in
    elim c.if-leads.branch [
      | then-leads w ↦ record {
        within = omega (arith, w.highest-is, c.loop-r-test.true);
        leads =
            subst (IsLeading rule blocks (r + 1)) (sym w.highest-is)
            (leading_new rule blocks r c.loop-r.highest (sym c.leads.ensures ∙ w.if-leads.true)
            c.loop-r.invariant.leads);
      }
      | else-leads w ↦ record {
        within = omega (arith, w.highest-is, c.loop-r.invariant.within);
        leads =
            subst (IsLeading rule blocks (r + 1)) (sym w.highest-is)
            (leading_kept rule blocks r c.loop-r.highest (sym c.leads.ensures ∙ w.if-leads.false)
            c.loop-r.invariant.leads);
      }
    ]

pub returns-clause-chosen : goal.returns-clause-chosen
returns-clause-chosen c =
    let blocks = held_blocks c.args.self.now c.args.b in
    leading_chosen (rule_of c.args.part.now blocks) blocks c.loop-r.r c.loop-r.highest
    (omega (arith, held_count c.args.self.now c.args.b, c.loop-r-test.false))
    (omega (arith, held_count c.args.self.now c.args.b, c.loop-r.invariant.within)) c.requires.some
    c.loop-r.invariant.leads
