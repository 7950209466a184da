use Rattle.std.proofs.Common.{◌+◌, ◌-◌, ◌<◌, true, false, sym, subst, ◌∙◌, arith}
use Rattle.std.proofs.lemmas.List.{get_or_default}
use Rattle.pack_schedule.proofs.SameTileLaws.{MarksSoFar, drawn_reported, row_kept, undrawn_reported}
use Rattle.pack_schedule.proofs.change.tiles.same_tiles.Goals as goal
use Rattle.pack_schedule.proofs.change.tiles.same_tiles.Goals.{then-drawn-r, else-drawn-r}

pub loop-r-preserved : goal.loop-r-preserved
loop-r-preserved c =
    let old = c.args.before.now.pixels in
    let new = c.args.now.now.pixels in
    let r = c.loop-r.r in
    let inside : r < 16 = c.loop-r-test.true in
    elim c.if-drawn-r.branch [
      | then-drawn-r w ↦
          subst (MarksSoFar old new (r + 1)) (sym w.marks-is)
          (drawn_reported old new r c.loop-r.marks w.are_all.result w.shared_columns-columns.result inside
          c.loop-r.invariant (
            λ all column from to. (w.shared_columns-columns.ensures column from to).0
                (w.are_all.ensures all (column - 1) (omega (arith, from, to))),
            λ _. w.shared_columns-columns.ensures,
          ))
      | else-drawn-r w ↦
          let drawn = c.args.drawn.now in
          let kept =
          c.requires.drawn r (get_or_default drawn r true false (omega (arith, inside, c.told-drawn))
          ∙ w.if-drawn-r.false) in
          subst (MarksSoFar old new (r + 1)) (sym w.marks-is)
          (undrawn_reported old new r c.loop-r.marks inside c.loop-r.invariant
          (row_kept c.args.script.now c.args.k r c.args.before.now c.args.now.now inside
          (c.requires.before kept.0) c.requires.now kept.1))
    ]
