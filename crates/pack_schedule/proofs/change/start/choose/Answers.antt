use Rattle.std.proofs.Common.{◌≡◌, ◌+◌, ◌-◌, ◌∙◌, ap, sym, arith, get_or}
use Rattle.std.specs.Prelude.{Some}
use Rattle.pack_schedule.specs.PlannedChange.{planned_length, preferred}
use Rattle.pack_schedule.specs.declared.change.start.Choice.{Choice}
use Rattle.pack_schedule.proofs.Choices.{colour_left, colour_taken, first_chosen, from_colour, from_picture, is_chosen, later_chosen}
use Rattle.pack_schedule.proofs.change.start.choose.Goals as goal
use Rattle.pack_schedule.proofs.change.start.choose.Goals.{then-k-eq0, else-k-eq0, then-need-choice, else-need-choice}

pub loop-colour-init : goal.loop-colour-init
loop-colour-init c =
    let script = c.args.script.now in
    let k = c.args.k in
    elim c.if-k-eq0.branch [
      | then-k-eq0 w ↦
          let preset = ap (λ (choice : Choice). choice.preset) w.choice-is in
          let need = ap (λ (choice : Choice). choice.need) w.choice-is in (
            preset ∙ first_chosen script k w.if-k-eq0.true,
            need
                ∙ from_colour script k 0 _
                (omega (arith, c.requires.beside, c.requires.colours 0 (omega arith)))
                ∙ ap (planned_length script k) (sym preset),
            omega (arith, need, c.requires.few.1, c.requires.few_beside),
          )
      | else-k-eq0 w ↦
          let preset = ap (λ (choice : Choice). choice.preset) w.choice-is in
          let need = ap (λ (choice : Choice). choice.need) w.choice-is in (
            preset ∙ later_chosen script k (omega (arith, w.if-k-eq0.false)),
            need
                ∙ from_picture script k _
                (omega (arith, c.requires.beside, c.requires.stands (omega (arith, w.if-k-eq0.false))))
                ∙ ap (planned_length script k) (sym preset),
            omega (arith, need, c.requires.few.0, c.requires.few_beside),
          )
    ]

pub loop-colour-preserved : goal.loop-colour-preserved
loop-colour-preserved c =
    let script = c.args.script.now in
    let k = c.args.k in
    let colour = c.loop-colour.colour in
    let old = c.loop-colour.choice in
    let need : 1 + c.args.beside + c.args.counts.now.whole - get_or c.args.counts.now.single colour 0
    ≡ planned_length script k (Some colour) =
    from_colour script k colour _
    (omega (arith, c.requires.beside, c.requires.colours colour c.loop-colour-test.true)) in
    elim c.if-need-choice.branch [
      | then-need-choice w ↦
          let preset_is = ap (λ (choice : Choice). choice.preset) w.choice-is in
          let need_is = ap (λ (choice : Choice). choice.need) w.choice-is in (
            preset_is
                ∙ colour_taken (planned_length script k) (preferred k) old.preset colour
                c.loop-colour.invariant.0
                (omega (arith, need, c.loop-colour.invariant.1, w.if-need-choice.true)),
            need_is ∙ need ∙ ap (planned_length script k) (sym preset_is),
            omega (arith, need_is, w.if-need-choice.true, c.loop-colour.invariant.2),
          )
      | else-need-choice w ↦
          let preset_is = ap (λ (choice : Choice). choice.preset) w.choice-is in
          let need_is = ap (λ (choice : Choice). choice.need) w.choice-is in (
            preset_is
                ∙ colour_left (planned_length script k) (preferred k) old.preset colour
                c.loop-colour.invariant.0
                (omega (arith, need, c.loop-colour.invariant.1, w.if-need-choice.false)),
            need_is ∙ c.loop-colour.invariant.1 ∙ ap (planned_length script k) (sym preset_is),
            omega (arith, need_is, c.loop-colour.invariant.2),
          )
    ]

pub returns-clause-preset : goal.returns-clause-preset
returns-clause-preset c =
    is_chosen c.args.script.now c.args.k c.loop-colour.colour c.loop-colour.choice.preset (omega arith)
    c.loop-colour.invariant.0
