-- The least number of instructions in a list.
use Rattle.std.proofs.Common.{◌≡◌, ℕ, zero, suc, ◌+◌, ◌<◌, ◌≤◌, Bool, cond, List, [], ◌∷◌, length, refl, ap, ◌∙◌, arith}
use Rattle.std.specs.Prelude.{reverse, count_by, sum_by}
use Rattle.std.specs.List.{AllByRecursion}
use Rattle.std.proofs.lemmas.List.{reverse-append}
use Rattle.std.proofs.lemmas.List.Sums.{sum_by-cons, sum_by-append}
use Rattle.cdg_instructions.specs.declared.instr.Instr.{Instr}
use Rattle.cdg_instructions.specs.declared.instr.Instr.TheVariants.{MemoryPreset, ScrollPreset, ScrollCopy}
use Rattle.pack_schedule.specs.Change.{preset_of, IsStart}
use Rattle.pack_schedule.specs.Brings.{IsStill, sets_memory, sets_border, sets_low, sets_high}
use Rattle.pack_schedule.proofs.Own.{preset_in}
use Rattle.pack_schedule.proofs.Adding.{tiles_in}

-- a count does not depend on the order
pub count-reverse : {X : Type 0} (test : X → Bool) (xs : List X)
    → count_by test (reverse xs) ≡ count_by test xs
count-reverse test [] = refl
count-reverse {X} test (x ∷ xs) =
    let f : X → ℕ = λ y. cond (test y) 1 0 in
    let whole = ap (sum_by f) (reverse-append (x ∷ []) xs) ∙ sum_by-append f (reverse xs) (x ∷ []) in
    omega (arith, whole, sum_by-cons f x [], sum_by-cons f x xs, count-reverse test xs)

pub counted : (test : Instr → Bool) (instr : Instr) (before : List Instr)
    → count_by test (instr ∷ before) ≡ cond (test instr) 1 0 + count_by test before
counted test instr before = sum_by-cons (λ i. cond (test i) 1 0) instr before

-- the tile instructions since the memory was last cleared, this clearing, and the settings of border and colours
pub total : (before : List Instr)
    → tiles_in before + length (preset_of (preset_in before))
    + (count_by sets_border before + count_by sets_low before + count_by sets_high before)
    ≤ length before
total [] = omega arith
total (MemoryPreset colour repeat ∷ before) =
    omega (
      arith,
      total before,
      counted sets_border (MemoryPreset colour repeat) before,
      counted sets_low (MemoryPreset colour repeat) before,
      counted sets_high (MemoryPreset colour repeat) before,
    )
total (instr ∷ before) =
    omega (
      arith,
      total before,
      counted sets_border instr before,
      counted sets_low instr before,
      counted sets_high instr before,
    )

-- a change may begin with this preset
pub start_allowed : (k : ℕ) (before : List Instr) → AllByRecursion IsStill before
    → (k ≡ 0 → 0 < count_by sets_memory before)
    → IsStart k (preset_in before)
start_allowed zero [] all some = absurd (omega (arith, some refl))
start_allowed (suc k) [] all some = tt
start_allowed zero (MemoryPreset colour repeat ∷ before) all some = all.0.0
start_allowed (suc k) (MemoryPreset colour repeat ∷ before) all some = all.0.0
start_allowed k (ScrollPreset a b h d v ∷ before) all some = absurd all.0
start_allowed k (ScrollCopy a b h d v ∷ before) all some = absurd all.0
start_allowed k (instr ∷ before) all some =
    start_allowed k before all.1 (λ e. omega (arith, some e, counted sets_memory instr before))
