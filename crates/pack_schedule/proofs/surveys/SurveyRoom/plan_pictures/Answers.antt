use Rattle.std.proofs.Common.{◌≡◌, ◌+◌, ◌-◌, refl, sym, subst, arith}
use Rattle.std.proofs.lemmas.Result.{err_from_is_err_and}
use Rattle.picture_script.specs.Script.{pictures}
use Rattle.pack_schedule.specs.Weights.{AreWeights}
use Rattle.pack_schedule.specs.Survey.{ArePlanned, IsLatePicture}
use Rattle.pack_schedule.proofs.SurveyLaws.{NeedsAreFewest, is_late}
use Rattle.pack_schedule.proofs.surveys.SurveyRoom.plan_pictures.Goals as goal

pub loop-k-init : goal.loop-k-init
loop-k-init c = record { room = c.requires; weights = λ pos. absurd (omega (arith, pos)) }

pub loop-k-preserved : goal.loop-k-preserved
loop-k-preserved c =
    let k = c.loop-k.k in
    record {
      room = c.in_ok-plan_next.ensures.room;
      weights = λ pos. let here : k ≡ k + 1 - 1 = omega arith in
          subst (λ n. AreWeights c.args.script.now n c.plan_next.new.weights) here
          c.plan_next.ensures.weights;
    }

pub returns-in_err-plan_next-clause-late : goal.returns-in_err-plan_next-clause-late
returns-in_err-plan_next-clause-late c =
    let n = c.needs_are_fewest.ensures in
    let needs : NeedsAreFewest = record { change = n.change; planned = n.planned; late = n.late } in
    let script = c.args.script.now in
    let known = c.times_rise_and_colours_are_in_range.ensures in
    let reported = c.in_err-plan_next.ensures.late in
    let stop : IsLatePicture script c.in_err-plan_next.field-0.0 =
    subst (IsLatePicture script) (sym reported.0) (is_late needs script c.loop-k.k _ _
    c.loop-k.self.planned.items
    (record { border = known.borders; colour = known.colours }) known.pixels
    (omega (arith, c.pictures-pictures.ensures.value))
    c.loop-k.invariant.room.planned refl refl reported.1) in
    let p = err_from_is_err_and c.from_residual.result c.from_residual.ensures.1 in
    rw (p.1, p.2) stop

pub returns-clause-planned : goal.returns-clause-planned
returns-clause-planned c =
    let all : c.loop-k.k ≡ pictures c.args.script.now =
    omega (arith, c.pictures-pictures.ensures.value, c.loop-k-test.false, c.loop-k.auto.k-end) in
    subst (λ n. ArePlanned c.args.script.now n c.loop-k.self.planned.items) all
    c.loop-k.invariant.room.planned
