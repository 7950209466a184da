use Rattle.std.proofs.Common.{◌≡◌, true, false, sym, ◌∙◌, arith}
use Rattle.std.specs.List.{list_any}
use Rattle.std.proofs.lemmas.List.{get_or-replicate}
use Rattle.rw_mend.specs.Chosen.{is_read_block}
use Rattle.rw_mend.specs.HeldReadings.{held_blocks}
use Rattle.rw_mend.proofs.HeldBlocks.{held_count}
use Rattle.rw_mend.proofs.Marks.{all_eligible, read_eligible, whole_any}
use Rattle.rw_mend.proofs.held_readings.HeldReadings.eligible_symbols.Goals as goal

pub returns-then-is_any : goal.returns-then-is_any
returns-then-is_any c r lt =
    let held = c.args.self.now in
    let blocks = held_blocks held c.args.b in
    let any : list_any is_read_block blocks ≡ true =
    whole_any is_read_block blocks c.loop-r.r true c.loop-r.is_any
    (omega (arith, held_count held c.args.b, c.loop-r-test.false)) c.loop-r.invariant.any c.if-is_any.true in
    c.loop-r.invariant.each r (omega (arith, lt, held_count held c.args.b, c.loop-r-test.false))
    ∙ sym (read_eligible blocks _ any)

pub returns-else-is_any : goal.returns-else-is_any
returns-else-is_any c r lt =
    let held = c.args.self.now in
    let blocks = held_blocks held c.args.b in
    let any : list_any is_read_block blocks ≡ false =
    whole_any is_read_block blocks c.loop-r.r false c.loop-r.is_any
    (omega (arith, held_count held c.args.b, c.loop-r-test.false)) c.loop-r.invariant.any c.if-is_any.false in
    get_or-replicate 254 r true false (omega (arith, lt, held_count held c.args.b, c.requires.held.few))
    ∙ sym (all_eligible blocks _ any)
