use Rattle.std.proofs.Common.{sym, subst, ◌≤◌, ◌∙◌, arith}
use Rattle.picture_script.specs.Script.{pictures}
use Rattle.pack_schedule.proofs.SurveyLaws.{in_time, late_at, one_planned, stands_before, stands_next}
use Rattle.pack_schedule.proofs.surveys.SurveyRoom.plan_next.Goals as goal

pub push_reserved-requires : goal.push_reserved-requires
push_reserved-requires c = omega (arith, c.requires.room.count, c.requires.room.fits)

pub plan_picture-change-requires-clause-before : goal.plan_picture-change-requires-clause-before
plan_picture-change-requires-clause-before c = c.requires.room.before.drawn

pub draw_like-requires-clause-before : goal.draw_like-requires-clause-before
draw_like-requires-clause-before c =
    stands_before c.args.script.now c.args.k c.args.self.now.before c.requires.room.before

pub returns-then-not-is_in_time-clause-late : goal.returns-then-not-is_in_time-clause-late
returns-then-not-is_in_time-clause-late c =
    let change = c.plan_picture-change.ensures in
    let made = c.plan_picture-change.result in
    late_at c.args.script.now c.args.k made.start made.need c.free_packs.result change.start change.need
    c.free_packs.ensures (sym c.is_in_time.ensures ∙ c.if-not-is_in_time.true)

pub returns-clause-room : goal.returns-clause-room
returns-clause-room c =
    let script = c.args.script.now in
    let k = c.args.k in
    let change = c.plan_picture-change.ensures in
    let made = c.plan_picture-change.result in
    record {
      planned =
          one_planned script k c.args.self.now.planned.items c.push_reserved.new.self.items made
          c.requires.room.planned
          (record {
            start_is = change.start;
            preset_is = change.preset;
            need_is = change.need;
            in_time =
                in_time script k made.start made.need change.start
                (sym c.is_in_time.ensures ∙ c.if-not-is_in_time.false);
          })
          c.push_reserved.ensures.items;
      before = stands_next script k c.draw_like.new.self c.draw_like.ensures.at c.draw_like.ensures.picture;
      now = stands_next script k c.draw_until.new.self c.draw_until.ensures.at c.draw_until.ensures.picture;
      count = omega (arith, c.push_reserved.ensures.len, c.requires.room.count);
      fits =
          subst (λ n. pictures script ≤ n) (sym c.push_reserved.ensures.capacity) c.requires.room.fits;
    }
