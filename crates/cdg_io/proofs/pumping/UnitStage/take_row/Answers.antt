use Rattle.std.proofs.Common.{ℕ, ◌+◌, ◌-◌, List, [], ◌++◌, length, refl, subst, arith, rules, Some, take}
use borrow.Rule.Slice.PartMut.{put_mid}
use Rattle.std.specs.Io.KnownBytes.{Appends}
use Rattle.std.specs.declared.option.Option.{Option}
use Rattle.cdg_io.specs.Pump.{given_bytes}
use Rattle.cdg_io.proofs.Passed.{given_behind, rest_stays, unit_taken}
use Rattle.cdg_io.proofs.PumpSteps.{Works-next, Works-start}
use Rattle.cdg_io.proofs.pumping.UnitStage.take_row.Goals as goal

pub loop-units-init : goal.loop-units-init
loop-units-init g c = record {
  works = ([], Works-start _ _ _ _ _);
  order = omega arith;
  within = omega (arith, c.requires.start);
  most = omega arith;
  behind = refl;
}

pub loop-units-preserved : goal.loop-units-preserved
loop-units-preserved g c =
    let size = g.Self.UnitStage.SIZE in
    let (taken, works) = c.loop-units.invariant.works in
    let row = c.loop-units.row.now in
    let at = c.loop-units.end in
    let buffer = c.loop-units.buffer in
    let unit = take c.SIZE-in-loop-units.result row in
    let n = c.put_front-end.result in
    let given = c.put_front-end.ensures in
    let put =
    subst (λ (o : Option (List ℕ)). Appends (Some (take at buffer))
    (Some (take (at + n) (put_mid at (length buffer - at) buffer c.put_front-end.new.buffer)))
    (given_bytes o)) c.take_unit.ensures.gives (given_behind buffer _ _ _ at (length buffer - at) n
    c.loop-units.invariant.within given.count given.put) in
    let (full, took) =
    unit_taken row size _ _ c.SIZE-in-loop-units.ensures c.SIZE-in-loop-units-2.ensures
    (omega (arith, c.SIZE.ensures, c.if-row-SIZE.false)) in
    record {
      works = (taken ++ unit, Works-next _ _ _ _ _ _ _ _ _ works took full c.take_unit.ensures.next put);
      order = omega (arith, c.loop-units.invariant.order);
      within = search (rules, arith, given.fits);
      most = omega (arith, c.loop-units.invariant.most);
      behind =
          rest_stays buffer c.put_front-end.new.buffer _ c.args.buffer.now at (length buffer - at) n
          c.loop-units.invariant.within (search (rules, arith)) given.count given.put
          c.loop-units.invariant.behind;
    }
