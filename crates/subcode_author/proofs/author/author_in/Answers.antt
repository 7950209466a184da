use Rattle.std.proofs.Common.{ℕ, subst, sym, arith, rules}
use Rattle.std.proofs.lemmas.Result.{err_from_is_err_and, on_ok_weaker, IfErr-weaker}
use Rattle.pack_schedule.specs.Survey.{IsPastEnd, IsWithin}
use Rattle.subcode_author.proofs.Schedules.{is_accepted}
use Rattle.subcode_author.proofs.PictureStops.{late_reported, picture_stop, written_stop}
use Rattle.subcode_author.proofs.author.author_in.Goals as goal

pub plan_script-requires-clause-blocks : goal.plan_script-requires-clause-blocks
plan_script-requires-clause-blocks g c =
    omega (arith, c.in_ok-blocks.ensures.blocks, c.in_ok-blocks.ensures.disc.0.1)

pub plan_script-requires-clause-end : goal.plan_script-requires-clause-end
plan_script-requires-clause-end g c =
    subst (λ (n : ℕ). ¬ IsPastEnd c.args.script.now n) (sym c.in_ok-blocks.ensures.blocks)
    c.in_ok-blocks.ensures.disc.1

pub author_planned-requires-clause-within : goal.author_planned-requires-clause-within
author_planned-requires-clause-within g c =
    subst (λ (n : ℕ). IsWithin c.args.script.now n) c.in_ok-blocks.ensures.blocks
    c.in_ok-planned.ensures.within

pub returns-in_err-planned-clause-answer : goal.returns-in_err-planned-clause-answer
returns-in_err-planned-clause-answer g c =
    let why =
    picture_stop c.args.sheet.now c.args.script.now c.args.lead_in c.args.length c.in_err-planned.field-0.0
    c.in_ok-blocks.ensures.disc c.in_ok-blocks.ensures.room c.in_err-planned.ensures.err in
    let p =
    err_from_is_err_and c.from_residual-in_err-planned.result c.from_residual-in_err-planned.ensures.1 in
    let known = c.times_rise_and_colours_are_in_range.ensures in
    record {
      accepted = rw p.1 tt;
      fewest = rw p.1 tt;
      stop = rw (p.1, p.2) why;
      late = λ picture need free reported.
          late_reported c.needs_are_fewest.ensures.late c.args.sheet.now c.args.script.now c.args.lead_in
          c.args.length
          c.in_err-planned.field-0.0 (record { held = known.held; later = known.later })
          (record { border = known.borders; colour = known.colours }) known.pixels why picture need free
          (let first = p.1 in let second = p.2 in cc);
    }

pub returns-clause-answer : goal.returns-clause-answer
returns-clause-answer g c =
    let known = c.times_rise_and_colours_are_in_range.ensures in
    let accepted =
    is_accepted c.needs_are_fewest.ensures.change c.args.sheet.now c.args.script.now c.args.lead_in
    c.args.length c.in_ok-blocks.ensures.disc c.in_ok-blocks.ensures.room
    (record { border = known.borders; colour = known.colours }) known.pixels
    (c.in_ok-planned.planned, c.in_ok-planned.ensures.planned) in
    record {
      accepted = on_ok_weaker c.author_planned.result (λ _. accepted)
          c.author_planned.ensures.written.authored;
      fewest = on_ok_weaker c.author_planned.result
          (λ _ k lt. c.needs_are_fewest.ensures.change c.args.script.now k
          (record { border = known.borders; colour = known.colours }) known.pixels)
          c.author_planned.ensures.written.authored;
      stop = IfErr-weaker c.author_planned.result _ _
          (λ stop is. written_stop c.args.sheet.now c.args.script.now c.args.lead_in c.args.length stop
          accepted is)
          c.author_planned.ensures.stop;
      late = search rules;
    }
