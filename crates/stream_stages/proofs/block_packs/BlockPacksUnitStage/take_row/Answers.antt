use Rattle.std.proofs.Common.{◌≡◌, sym, drop, ℕ, ◌-◌, List, [], ◌++◌, length, refl, subst, arith, rules, Some, take, ap, ◌∙◌}
use Rattle.std.specs.Io.KnownBytes.{Consumes}
use Rattle.cdg_io.proofs.Passed.{given_behind, rest_stays, unit_taken}
use Rattle.cdg_io.proofs.Idle.{same_behind}
use Rattle.cdg_io.proofs.PumpSteps.{Works-both, Works-next, Works-start}
use Rattle.stream_stages.proofs.Packing.{block_gives, block_next}
use Rattle.stream_stages.proofs.block_packs.BlockPacksUnitStage.take_row.Goals as goal

pub loop-units-init : goal.loop-units-init
loop-units-init c = record {
  works = ([], Works-start _ _ _ _ _);
  order = omega arith;
  within = omega (arith, c.requires.start);
  most = omega arith;
  behind = refl;
}

pub loop-units-preserved : goal.loop-units-preserved
loop-units-preserved c =
    let idle = c.pass_idle-idle in
    let (taken, works) = c.loop-units.invariant.works in
    let (passed, more) = idle.ensures.works in
    let row = idle.new.row.now in
    let at = idle.result.end in
    let buffer = idle.new.buffer in
    let unit = c.block_of.result.now in
    let n = c.put_packs-end.result in
    let gathered = c.gathered-words.ensures in
    let packed = c.put_packs-end.ensures in
    let gives = block_gives c.loop-units.self unit _ gathered.gives in
    let count = packed.count ∙ ap length gives in
    let filled =
    packed.put ∙ ap (λ (l : List ℕ). l ++ drop n (take (length buffer - at) (drop at buffer))) gives in
    let next =
    block_next c.loop-units.self unit _ _ _ (packed.words ∙ gathered.next) gathered.gives packed.bad in
    let both = Works-both _ _ _ _ _ _ _ _ _ _ works more in
    let put =
    given_behind buffer _ _ _ at (length buffer - at) n idle.ensures.within.1 count filled in
    let (full, took) =
    subst
    (λ (u : List ℕ). (length u ≡ 96) × Consumes (Some row) (Some (take (length row - 96) (drop 96 row))) u)
    (sym c.block_of.ensures)
    (unit_taken row 96 96 96 refl refl (omega (arith, c.if-row-lt-BLOCK_BYTES.false))) in
    record {
      works = (
        (taken ++ passed) ++ unit,
        Works-next _ _ _ _ _ _ _ _ _ both took full next put,
      );
      order = omega (arith, c.loop-units.invariant.order, idle.ensures.within.0);
      within = search (rules, arith, packed.fits);
      most = omega (arith, c.loop-units.invariant.most, idle.ensures.most);
      behind =
          rest_stays buffer c.put_packs-end.new.place _ c.args.buffer.now at (length buffer - at) n
          idle.ensures.within.1 (search (rules, arith)) count filled
          (idle.ensures.behind
          ∙ same_behind c.loop-units.buffer c.args.buffer.now c.loop-units.end at idle.ensures.within.0
          c.loop-units.invariant.behind);
    }

pub returns-then-units-most-clause-works : goal.returns-then-units-most-clause-works
returns-then-units-most-clause-works c =
    let (taken, works) = c.loop-units.invariant.works in
    let (passed, more) = c.pass_idle-idle.ensures.works in
    (taken ++ passed, Works-both _ _ _ _ _ _ _ _ _ _ works more)

pub returns-then-units-most-clause-behind : goal.returns-then-units-most-clause-behind
returns-then-units-most-clause-behind c =
    c.pass_idle-idle.ensures.behind
    ∙ same_behind c.loop-units.buffer c.args.buffer.now c.loop-units.end c.pass_idle-idle.result.end
    c.pass_idle-idle.ensures.within.0 c.loop-units.invariant.behind
