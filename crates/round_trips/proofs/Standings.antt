-- The standing does not depend on idle packs.
use Rattle.std.proofs.Common.{◌≡◌, ℕ, zero, suc, List, ◌++◌, replicate, refl, ap, ◌∙◌}
use Rattle.std.specs.List.{AllByRecursion}
use Rattle.cdg_instructions.specs.declared.instr.Instr.{Instr}
use Rattle.cdg_instructions.specs.declared.instr.Instr.TheVariants.{Idle}
use Rattle.cdg_screen.specs.Standing.{Standing, blank, standing_after}
use Rattle.cdg_screen.proofs.Turns.{blank_is_whole, idle_changes_nothing, whole_after}

-- the law of the screen
abbrev pub InTurn : Type 0
InTurn = (start : Standing) (early late : List Instr)
    → standing_after start (early ++ late) ≡ standing_after (standing_after start early) late

all_idle : (n : ℕ) → AllByRecursion (λ (i : Instr). i ≡ Idle) (replicate n Idle)
all_idle zero = tt
all_idle (suc n) = (refl, all_idle n)

-- idle packs before and after other instructions
pub idle_around : InTurn → (before after : ℕ) (instrs : List Instr)
    → standing_after blank (replicate before Idle ++ (instrs ++ replicate after Idle))
    ≡ standing_after blank instrs
idle_around in_turn before after instrs =
    let early : List Instr = replicate before Idle in
    let late : List Instr = replicate after Idle in
    in_turn blank early (instrs ++ late)
    ∙ ap (λ (now : Standing). standing_after now (instrs ++ late))
    (idle_changes_nothing blank early (all_idle before) ∙ blank_is_whole)
    ∙ in_turn blank instrs late
    ∙ idle_changes_nothing (standing_after blank instrs) late (all_idle after)
    ∙ whole_after blank instrs
