use Rattle.std.proofs.Common.{◌≡◌, ◌-◌, ◌++◌, [], ◌∷◌, replicate, take, get_or, length, length-append, ap, ap₂, sym, ◌∙◌, arith, append-nil, append_assoc}
use Rattle.std.proofs.lemmas.List.{take_all, take_more}
use Rattle.cdg_instructions.specs.declared.instr.Instr.TheVariants.{Idle}
use Rattle.tile_author.specs.Plan.{plan}
use Rattle.pack_schedule.specs.Change.{tiles_before}
use Rattle.pack_schedule.proofs.PlanLists.{all_colour, is_made, made_is}
use Rattle.pack_schedule.proofs.SameTileLaws.{before_none, drawn_alone, later_start}
use Rattle.pack_schedule.proofs.change.ChangeList.push_tile.Goals as goal
use Rattle.pack_schedule.proofs.change.ChangeList.push_tile.Goals.{in-Some, in-None+in_default}

pub unwrap-old-requires : goal.unwrap-old-requires
unwrap-old-requires c =
    is_made (replicate 72 c.in-Some.colour) c.new.result c.new.ensures
    (all_colour c.args.k c.in-Some.colour c.args.preset c.in-Some.is c.requires.start)

pub returns-in-Some-light_plan-clause-whole : goal.returns-in-Some-light_plan-clause-whole
returns-in-Some-light_plan-clause-whole c =
    let script = c.args.script.now in
    let k = c.args.k in
    let none = c.in-None.is in
    let was = c.requires.before (later_start k c.args.preset c.requires.start none) in
    c.push.ensures
    ∙ ap (λ xs. c.args.self.now ++ xs)
    (drawn_alone script k c.args.row c.args.column c.args.preset c.args.before.now c.tile-new.result
    c.in-Some-light_plan.instr c.requires.row_first c.requires.row_last c.requires.column_first
    c.requires.column_last none was (λ same. c.requires.differs none (same ∙ c.tile-new.ensures.tile))
    (c.tile-new.ensures.picture script k c.requires.now) c.in-Some-light_plan.ensures.plan)

pub returns-clause-whole : goal.returns-clause-whole
returns-clause-whole c =
    let script = c.args.script.now in
    let k = c.args.k in
    let row = c.args.row in
    let column = c.args.column in
    let preset = c.args.preset in
    let old : c.match-preset.old ≡ tiles_before script k preset row column = elim c.match-preset.branch [
      | in-Some w ↦
          w.old-is
          ∙ made_is (replicate 72 w.in-Some.colour) w.new.result w.unwrap-old.result w.new.ensures
          w.unwrap-old.ensures
          ∙ ap (λ start. tiles_before script k start row column) (sym w.in-Some.is)
      | in-None+in_default w ↦
          w.old-is
          ∙ w.tile-old.ensures.picture script (k - 1)
          (c.requires.before (later_start k preset c.requires.start w.in-None.is))
          ∙ sym (before_none script k row column preset w.in-None.is)
    ] in
    let new = c.tile-new.ensures.picture script k c.requires.now in
    c.loop-instr.invariant.0
    ∙ ap (λ xs. c.args.self.now ++ xs) (take_all c.loop-instr.instr-index c.as_slice-instr-items.result.now
    c.loop-instr-test.false
    ∙ c.as_slice-instr-items.ensures.value
    ∙ c.plan-instrs.ensures.plan
    ∙ ap₂ (plan row column) old new)

pub returns-clause-few : goal.returns-clause-few
returns-clause-few c =
    omega
    (arith, c.loop-instr.invariant.1, c.loop-instr.auto.instr-index-end, c.as_slice-instr-items.ensures.fits)

pub loop-instr-init : goal.loop-instr-init
loop-instr-init c = (sym (append-nil c.args.self.now), omega arith)

pub loop-instr-preserved : goal.loop-instr-preserved
loop-instr-preserved c =
    let instrs = c.as_slice-instr-items.result.now in
    let i = c.loop-instr.instr-index in (
      c.push-in-loop-instr.ensures
          ∙ ap (λ xs. xs ++ get_or instrs i Idle ∷ []) c.loop-instr.invariant.0
          ∙ append_assoc c.args.self.now (take i instrs) (get_or instrs i Idle ∷ [])
          ∙ ap (λ xs. c.args.self.now ++ xs) (sym (take_more instrs i Idle c.loop-instr-test.true)),
      omega (
        arith,
        ap length c.push-in-loop-instr.ensures,
        length-append c.loop-instr.self (get_or instrs i Idle ∷ []),
        c.loop-instr.invariant.1,
      ),
    )

pub push-requires-in-loop-instr : goal.push-requires-in-loop-instr
push-requires-in-loop-instr c =
    omega (
      arith,
      c.requires.few,
      c.loop-instr.invariant.1,
      c.loop-instr-test.true,
      c.as_slice-instr-items.ensures.fits,
    )
