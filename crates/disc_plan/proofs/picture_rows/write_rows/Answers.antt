use Rattle.std.proofs.Common.{ℕ, true, false, ◌+◌, ◌<◌, List, ◌∷◌, ap, sym, subst, ◌∙◌, arith}
use Rattle.std.specs.Prelude.{slice_set}
use Rattle.picture_script.specs.Script.{Drawing, pictures}
use Rattle.picture_script.specs.ShowLines.{show_lines}
use Rattle.pack_schedule.specs.Plans.{IsPlanRow}
use Rattle.disc_plan.specs.declared.picture_rows.PlannedRow.{PlannedRow}
use Rattle.disc_plan.proofs.RowLaws.{IsWriting, given_next, no_line_left, one_written}
use Rattle.disc_plan.proofs.picture_rows.write_rows.Goals as goal
use Rattle.disc_plan.proofs.picture_rows.write_rows.Goals.{then-plan, else-plan}

pub unreachable-requires-in_default-next_number : goal.unreachable-requires-in_default-next_number
unreachable-requires-in_default-next_number c =
    let script = c.args.script.now in
    let count = c.each_picture_has_a_line.ensures c.args.text.now script c.requires.read in
    let lt : c.loop-k.k < pictures script =
    omega (arith, c.pictures-k-end.ensures.value, c.loop-k-test.true, c.loop-k.auto.k-end) in
    no_line_left (show_lines c.args.text.now) c.loop-k.lines c.loop-k.k c.in_default-next_number.ensures.0
    c.loop-k.invariant.0.lines_are (omega (arith, lt, count))

pub loop-k-preserved : goal.loop-k-preserved
loop-k-preserved c =
    let script = c.args.script.now in
    let all = show_lines c.args.text.now in
    let k = c.loop-k.k in
    let plan = c.in-Some.plan in
    let line = c.in-Some-next_number.line in
    let lines = c.next_number.new.self in
    let so_far = c.loop-k.invariant.0 in
    let same = c.loop-k.invariant.1 in
    let given = c.loop-k.invariant.2 in
    let count = c.each_picture_has_a_line.ensures c.args.text.now script c.requires.read in
    let lt : k < pictures script =
    omega (arith, c.pictures-k-end.ensures.value, c.loop-k-test.true, c.loop-k.auto.k-end) in
    let here : IsPlanRow script k plan =
    subst (λ (s : List Drawing). IsPlanRow s k plan) same
    (subst (λ n. IsPlanRow c.loop-k.planner.script n plan) given c.in-Some.ensures.row) in
    let found : IsWriting script all c.args.rows.now k (line ∷ lines) c.loop-k.rows c.loop-k.late = subst
    (λ (ls : List ℕ). IsWriting script all c.args.rows.now k ls c.loop-k.rows c.loop-k.late)
    c.in-Some-next_number.ensures so_far in
    let reported : IsWriting script all c.args.rows.now (k + 1) lines
    (slice_set c.loop-k.rows k c.planned_row.result) c.if-plan.late =
    subst (λ (row : PlannedRow).
    IsWriting script all c.args.rows.now (k + 1) lines (slice_set c.loop-k.rows k row) c.if-plan.late)
    (sym c.planned_row.ensures)
    (elim c.if-plan.branch [
      | then-plan w ↦
          one_written script all c.args.rows.now c.loop-k.rows k line lines plan c.loop-k.late c.if-plan.late
          true found lt c.requires.room count here w.if-plan.true w.late-is
      | else-plan w ↦
          one_written script all c.args.rows.now c.loop-k.rows k line lines plan c.loop-k.late c.if-plan.late
          false found lt c.requires.room count here w.if-plan.false (omega (arith, w.late-is))
    ]) in (
      reported,
      c.in-Some.ensures.script ∙ same,
      given_next c.loop-k.planner.given (pictures c.loop-k.planner.script) c.next_row.new.self.given
          (omega (arith, lt, given, ap pictures same)) c.in-Some.ensures.given
          ∙ ap (λ n. n + 1) given,
    )
