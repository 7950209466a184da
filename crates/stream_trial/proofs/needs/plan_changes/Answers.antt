use Rattle.std.proofs.Common.{◌≡◌, ℕ, ◌+◌, ◌*◌, ◌≤◌, List, sym, subst}
use Rattle.picture_script.specs.Script.{Drawing}
use Rattle.pack_schedule.specs.Survey.{IsLatePicture, IsPastEnd, IsStop, IsWithin}
use Rattle.pack_schedule.specs.declared.stops.LatePicture.{LatePicture}
use Rattle.pack_schedule.specs.declared.stops.Stop.{Stop}
use Rattle.pack_schedule.specs.declared.stops.Stop.TheVariants.{Late, NoMemory}
use Rattle.cdg_workload.specs.Generated.{generated_drawings}
use Rattle.stream_trial.proofs.needs.plan_changes.Goals as goal

-- no picture of a generated script is late
never_late : ((seed count blocks : ℕ) (stop : Stop) → 800 * count + 20 ≤ blocks
    → IsStop (generated_drawings seed count) blocks stop → stop ≡ NoMemory)
    → (script : List Drawing) (blocks : ℕ) (late : LatePicture)
    → ((seed count : ℕ) × (script ≡ generated_drawings seed count) × (800 * count + 20 ≤ blocks))
    → IsWithin script blocks → IsLatePicture script late → ⊥
never_late law script blocks late (seed, count, is, le) within reported =
    let no : Late late.picture late.need late.free ≡ NoMemory =
    law seed count blocks (Late late.picture late.need late.free) le
    (subst (λ s. IsStop s blocks (Late late.picture late.need late.free)) is (within, reported)) in
    absurd (cc)

pub survey_in-requires-clause-end : goal.survey_in-requires-clause-end
survey_in-requires-clause-end c =
    let (seed, count, is, le) = c.requires.script in
    subst (λ s. ¬ IsPastEnd s c.args.blocks) (sym is)
    (c.generated_scripts_are_ready.ensures.end seed count c.args.blocks le)

pub unreachable-requires : goal.unreachable-requires
unreachable-requires c =
    never_late c.generated_scripts_are_ready.ensures.survey c.args.script.now c.args.blocks _
    c.requires.script
    c.survey_in.ensures.within c.in-Err.ensures.late
