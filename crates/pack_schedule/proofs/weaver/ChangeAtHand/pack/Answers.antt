use Rattle.std.proofs.Common.{◌≡◌, ◌≢◌, ◌-◌, ◌<◌, ◌∙◌, ap₂, refl, sym, subst, arith, get_or}
use Rattle.cdg_instructions.specs.declared.instr.Instr.TheVariants.{Idle}
use Rattle.cdg_instructions.specs.Instruction.{IsWritten, InRange, IsKnown}
use Rattle.picture_script.specs.Script.{pictures}
use Rattle.rw_code.specs.Packs.{idle_pack}
use Rattle.pack_schedule.specs.Schedule.{start_of}
use Rattle.pack_schedule.specs.PlannedChange.{planned_change}
use Rattle.pack_schedule.proofs.Weaves.{IsFine, busy_at, change_pack, fine_at, no_pack, not_idle, place_at_hand}
use Rattle.pack_schedule.proofs.weaver.ChangeAtHand.pack.Goals as goal
use Rattle.pack_schedule.proofs.weaver.ChangeAtHand.pack.Goals.{then-given-self-via-then-given-self, then-given-self-via-else-given-self+then-self-pictures}

pub write-requires-clause-range : goal.write-requires-clause-range
write-requires-clause-range c =
    let known = c.pictures-pictures.ensures in
    let w = c.requires.weaving in
    let lt : c.args.self.now.k < pictures c.args.script.now =
    omega (arith, known.value, c.if-self-pictures.false) in
    let place =
    place_at_hand c.args.script.now c.args.self.now c.args.given w lt c.requires.current
    (omega (arith, c.if-given-self.false)) in
    let fine : IsFine (get_or c.args.self.now.change (c.args.given - c.args.self.now.start) Idle) =
    fine_at c.args.script.now c.args.self.now.change c.args.self.now.k (c.args.given - c.args.self.now.start)
    (c.changes_can_be_written.ensures c.args.script.now c.args.self.now.k _ _
    (record { border = known.borders; colour = known.colours })
    (c.planned_changes_are_changes.ensures.planned c.args.script.now c.args.self.now.k known.pixels))
    (w.change_is lt) place in
    subst InRange (sym c.get.ensures) fine.0

pub write-requires-clause-known : goal.write-requires-clause-known
write-requires-clause-known c =
    let known = c.pictures-pictures.ensures in
    let w = c.requires.weaving in
    let lt : c.args.self.now.k < pictures c.args.script.now =
    omega (arith, known.value, c.if-self-pictures.false) in
    let place =
    place_at_hand c.args.script.now c.args.self.now c.args.given w lt c.requires.current
    (omega (arith, c.if-given-self.false)) in
    let fine : IsFine (get_or c.args.self.now.change (c.args.given - c.args.self.now.start) Idle) =
    fine_at c.args.script.now c.args.self.now.change c.args.self.now.k (c.args.given - c.args.self.now.start)
    (c.changes_can_be_written.ensures c.args.script.now c.args.self.now.k _ _
    (record { border = known.borders; colour = known.colours })
    (c.planned_changes_are_changes.ensures.planned c.args.script.now c.args.self.now.k known.pixels))
    (w.change_is lt) place in
    subst IsKnown (sym c.get.ensures) fine.1

pub returns-then-given-self-clause-pack : goal.returns-then-given-self-clause-pack
returns-then-given-self-clause-pack c =
    let known = c.pictures-pictures.ensures in
    let w = c.requires.weaving in
    no_pack c.args.script.now c.args.self.now c.args.given idle_pack w known.held known.later
    c.requires.current
    (λ lt. elim c.then-given-self.branch [
      | then-given-self-via-then-given-self v ↦ omega (arith, w.start_is lt, v.if-given-self.true)
      | then-given-self-via-else-given-self+then-self-pictures v ↦
          absurd (omega (arith, v.if-self-pictures.true, known.value, lt))
    ]) refl

pub returns-clause-pack : goal.returns-clause-pack
returns-clause-pack c =
    let known = c.pictures-pictures.ensures in
    let w = c.requires.weaving in
    let lt : c.args.self.now.k < pictures c.args.script.now =
    omega (arith, known.value, c.if-self-pictures.false) in
    let begun = w.start_is lt in
    let instr : c.get.result
    ≡ get_or (planned_change c.args.script.now c.args.self.now.k)
    (c.args.given - start_of c.args.script.now c.args.self.now.k) Idle =
    c.get.ensures ∙ ap₂ (λ n xs. get_or xs (c.args.given - n) Idle) begun (w.change_is lt) in
    change_pack c.args.script.now c.args.self.now c.args.given c.write.result w known.held known.later
    c.requires.current lt (omega (arith, begun, c.if-given-self.false))
    (subst (λ i. IsWritten i c.write.result) instr c.write.ensures.written)

pub returns-clause-none : goal.returns-clause-none
returns-clause-none c =
    let known = c.pictures-pictures.ensures in
    let w = c.requires.weaving in
    let lt : c.args.self.now.k < pictures c.args.script.now =
    omega (arith, known.value, c.if-self-pictures.false) in
    let place =
    place_at_hand c.args.script.now c.args.self.now c.args.given w lt c.requires.current
    (omega (arith, c.if-given-self.false)) in
    let busy : get_or c.args.self.now.change (c.args.given - c.args.self.now.start) Idle ≢ Idle =
    busy_at c.args.script.now c.args.self.now.change c.args.self.now.k (c.args.given - c.args.self.now.start)
    (c.planned_changes_are_changes.ensures.busy c.args.script.now c.args.self.now.k known.pixels)
    (w.change_is lt) place in (
      (λ none. absurd (cc)),
      (λ idle. absurd (not_idle c.get.result c.write.result (λ is. busy (sym c.get.ensures ∙ is))
          c.write.ensures.written idle)),
    )
