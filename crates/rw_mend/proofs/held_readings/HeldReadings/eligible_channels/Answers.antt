use Rattle.std.proofs.Common.{◌≡◌, true, false, sym, ◌∙◌, arith}
use Rattle.std.specs.List.{list_any}
use Rattle.rw_mend.specs.Chosen.{is_framed_block}
use Rattle.rw_mend.specs.HeldReadings.{held_blocks}
use Rattle.rw_mend.proofs.HeldBlocks.{held_count}
use Rattle.rw_mend.proofs.Marks.{framed_eligible, read_framed, whole_any}
use Rattle.rw_mend.proofs.held_readings.HeldReadings.eligible_channels.Goals as goal

pub returns-then-is_any : goal.returns-then-is_any
returns-then-is_any c r lt =
    let held = c.args.self.now in
    let blocks = held_blocks held c.args.b in
    let any : list_any is_framed_block blocks ≡ true =
    whole_any is_framed_block blocks c.loop-r.r true c.loop-r.is_any
    (omega (arith, held_count held c.args.b, c.loop-r-test.false)) c.loop-r.invariant.any c.if-is_any.true in
    c.loop-r.invariant.each r (omega (arith, lt, held_count held c.args.b, c.loop-r-test.false))
    ∙ sym (framed_eligible blocks _ any)

pub returns-else-is_any : goal.returns-else-is_any
returns-else-is_any c r lt =
    let held = c.args.self.now in
    let blocks = held_blocks held c.args.b in
    let any : list_any is_framed_block blocks ≡ false =
    whole_any is_framed_block blocks c.loop-r.r false c.loop-r.is_any
    (omega (arith, held_count held c.args.b, c.loop-r-test.false)) c.loop-r.invariant.any c.if-is_any.false in
    c.eligible_symbols.ensures r lt ∙ sym (read_framed blocks _ any)
