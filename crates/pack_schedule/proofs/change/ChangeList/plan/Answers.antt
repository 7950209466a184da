use Rattle.std.proofs.Common.{◌≡◌, ◌∙◌, ◌++◌, [], ◌∷◌, ap, sym}
use Rattle.cdg_instructions.specs.declared.instr.Instr.TheVariants.{MemoryPreset}
use Rattle.pack_schedule.specs.Change.{preset_of}
use Rattle.pack_schedule.specs.PlannedChange.{planned_tiles}
use Rattle.pack_schedule.proofs.PlanLists.{planned_whole}
use Rattle.pack_schedule.proofs.change.ChangeList.plan.Goals as goal
use Rattle.pack_schedule.proofs.change.ChangeList.plan.Goals.{in-Some, in_default}

pub returns : goal.returns
returns c =
    let first : c.match-preset.self ≡ preset_of c.args.preset = elim c.match-preset.branch [
      | in-Some w ↦
          w.self-is
          ∙ w.push.ensures
          ∙ ap (λ xs. xs ++ MemoryPreset w.in-Some.colour 0 ∷ []) c.clear.ensures
          ∙ ap preset_of (sym w.in-Some.is)
      | in_default w ↦ w.self-is ∙ c.clear.ensures ∙ ap preset_of (sym w.in_default.is)
    ] in
    let same : c.match-preset.preset ≡ c.args.preset = elim c.match-preset.branch [
      | in-Some w ↦ w.preset-is ∙ sym w.in-Some.is
      | in_default w ↦ w.preset-is
    ] in
    planned_whole c.args.script.now c.args.k c.args.preset c.match-preset.self c.push_settings.new.self
    c.push_tiles.new.self first c.push_settings.ensures.whole
    (c.push_tiles.ensures
    ∙ ap (λ p. c.push_settings.new.self ++ planned_tiles c.args.script.now c.args.k p) same)
