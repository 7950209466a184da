-- Lists of instructions without scrolls that show a picture of a script, and the shortest of them.
use Rattle.std.specs.Prelude.{◌≡◌, ℕ, zero, suc, ◌<◌, ◌≤◌, Bool, true, false, List, length, count_by, All}
use Rattle.cdg_instructions.specs.Instruction.{InRange}
use Rattle.cdg_instructions.specs.declared.instr.Instr.{Instr}
use Rattle.cdg_instructions.specs.declared.instr.Instr.TheVariants.{MemoryPreset, BorderPreset, ScrollPreset, ScrollCopy, ColoursLow, ColoursHigh}
use Rattle.cdg_screen.specs.Standing.{Standing, standing_after}
use Rattle.picture_script.specs.Script.{Drawing}
use Rattle.pack_schedule.specs.Shown.{ShowsPicture}

-- Both offsets of the screen are 0.
abbrev pub IsUnmoved : Standing → Type 0
IsUnmoved now = (now.h ≡ 0) × (now.v ≡ 0)

-- The state `now` is allowed before picture k: its offsets are 0, and if k > 0, it shows the previous picture.
abbrev pub IsBefore : List Drawing → ℕ → Standing → Type 0
IsBefore script zero now = IsUnmoved now
IsBefore script (suc k) now = ShowsPicture script k now × IsUnmoved now

-- The instruction does not scroll, and its fields are in their ranges.
abbrev pub IsStill : Instr → Type 0
IsStill (ScrollPreset colour across h down v) = ⊥
IsStill (ScrollCopy colour across h down v) = ⊥
IsStill instr = InRange instr

-- whether an instruction sets all pixels of the memory
abbrev pub sets_memory : Instr → Bool
sets_memory (MemoryPreset colour repeat) = true
sets_memory _ = false

-- whether an instruction sets the border
abbrev pub sets_border : Instr → Bool
sets_border (BorderPreset colour) = true
sets_border _ = false

-- whether an instruction sets colours 0 to 7
abbrev pub sets_low : Instr → Bool
sets_low (ColoursLow colours) = true
sets_low _ = false

-- whether an instruction sets colours 8 to 15
abbrev pub sets_high : Instr → Bool
sets_high (ColoursHigh colours) = true
sets_high _ = false

-- The instructions set the memory, the border and all colours, each at least once.
pub record SetsAll (instrs : List Instr) : Type 0 where
  pub memory : 0 < count_by sets_memory instrs
  pub border : 0 < count_by sets_border instrs
  pub low : 0 < count_by sets_low instrs
  pub high : 0 < count_by sets_high instrs

-- From the state `now`, the instructions draw picture k without scrolls; for k = 0, they set memory, border and colours.
pub record Brings (script : List Drawing) (k : ℕ) (now : Standing) (instrs : List Instr) : Type 0 where
  pub still : All IsStill instrs
  pub shows : ShowsPicture script k (standing_after now instrs)
  pub sets : k ≡ 0 → SetsAll instrs

-- The instructions are a change of picture k. They draw this picture on every screen that is allowed before the picture
-- (`IsBefore`). No shorter list draws the picture on any of these screens.
pub record IsChange (script : List Drawing) (k : ℕ) (instrs : List Instr) : Type 0 where
  pub brings : (now : Standing) → IsBefore script k now → Brings script k now instrs
  pub shortest : (now : Standing) (others : List Instr) → IsBefore script k now → Brings script k now others
      → length instrs ≤ length others

-- Picture k needs `need` instructions: a change of this picture has this length.
abbrev pub IsNeed : List Drawing → ℕ → ℕ → Type 0
IsNeed script k need = (instrs : List Instr) × IsChange script k instrs × (length instrs ≡ need)

-- Picture k needs `need` instructions, and `need` is greater than `free`, the number of free packs that `author` reports.
pub record CannotBeReady (script : List Drawing) (k need free : ℕ) : Type 0 where
  pub fewest : IsNeed script k need
  pub more : free < need
