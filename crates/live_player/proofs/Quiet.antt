-- Packs without graphics change nothing.
use Rattle.std.proofs.Common.{◌≡◌, ◌≢◌, ◌⊎◌, ◌%◌, ℕ, List, [], ◌∷◌, get_or, map, ap, sym, ◌∙◌, arith, inl, inr}
use Rattle.std.proofs.lemmas.Bool.Decides.{nat_tests}
use Rattle.std.proofs.lemmas.Bool.{cases_eq}
use Rattle.cdg_instructions.specs.Meaning.{meaning, meaning_by}
use Rattle.cdg_instructions.specs.declared.instr.Instr.{Instr}
use Rattle.cdg_instructions.specs.declared.instr.Instr.TheVariants.{Foreign, Idle}
use Rattle.cdg_screen.specs.Standing.{IsWholeStanding, Standing, standing_after}
use Rattle.live_player.specs.Changes.{sees, IsWithinScreen}
use Rattle.live_player.specs.Lives.{instruction_of}
use Rattle.live_player.specs.declared.watch.Watch.{Watch}
use Rattle.live_player.proofs.Idle.{once}

-- the instruction does not concern graphics
abbrev pub IsQuiet : Instr → Type 0
IsQuiet instr = (instr ≡ Idle) ⊎ (instr ≡ Foreign)

by_mode : (word : List ℕ) (mode code : ℕ) → mode ≢ 9 → IsQuiet (meaning_by word mode code)
by_mode word mode code other =
    elim (cases_eq mode 0) [
      | inl same ↦ inl (grind (arith, nat_tests))
      | inr more ↦ inr (grind (arith, nat_tests))
    ]

-- a pack whose first symbol is not 9 has such an instruction
pub is_quiet : (pack : List ℕ) → get_or pack 0 0 % 64 ≢ 9 → IsQuiet (instruction_of pack)
unfolding instruction_of meaning
is_quiet [] other = inl (λ i. Idle)
is_quiet (byte ∷ rest) other = let word = map (λ b. b % 64) (byte ∷ rest) in
    by_mode word (byte % 64) (get_or word 1 0) other

pub quiet_stays : (now : Standing) (instr : Instr) → IsWholeStanding now → IsQuiet instr
    → now ≡ standing_after now (instr ∷ [])
quiet_stays now instr whole (inl is) = sym whole ∙ ap (λ (i : Instr). standing_after now (i ∷ [])) (sym is)
quiet_stays now instr whole (inr is) = sym whole ∙ ap (λ (i : Instr). standing_after now (i ∷ [])) (sym is)

pub quiet_sees : (watch : Watch) (instr : Instr) → IsWithinScreen watch.change → IsQuiet instr
    → watch ≡ sees watch instr
quiet_sees watch instr within (inl is) = sym (once watch within) ∙ ap (sees watch) (sym is)
quiet_sees watch instr within (inr is) = sym (once watch within) ∙ ap (sees watch) (sym is)
