-- The thin form of a file of packs, in which those that change nothing are idle.
use Rattle.std.specs.Prelude.{◌≡◌, ℕ, ◌<◌, ◌⊎◌, Bool, true, false, IsTrue, List, [], ◌∷◌, ◌++◌, length, take, slice_index_or}
use Rattle.std.specs.List.{concat}
use Rattle.bit_lists.specs.Counting.{whole_parts}
use Rattle.cdg_instructions.specs.Instruction.{Means}
use Rattle.cdg_instructions.specs.MadeGood.{IsMadeGood}
use Rattle.rw_code.specs.Packs.{idle_pack}
use Rattle.raw_subcode.specs.Channels.{symbols_of}
use Rattle.raw_subcode.specs.Sizes.{symbols_a_slot}
use Rattle.cdg_screen.specs.Standing.{blank, standing_after}
use Rattle.cdg_instructions.specs.declared.instr.Instr.{Instr}
use Rattle.cdg_instructions.specs.declared.instr.Instr.TheVariants.{Idle, Foreign, Unknown}

-- This is the instruction of 24 bytes: that of the codeword with their symbols and correct parity.
abbrev pub IsInstructionOf : List ℕ → Instr → Type 0
IsInstructionOf pack instr = (word : List ℕ) × IsMadeGood (symbols_of pack) word × Means word instr

-- these are the instructions of the packs, one by one
pub record AreInstructionsOf (packs : List (List ℕ)) (instrs : List Instr) : Type 0 where
  pub count : length instrs ≡ length packs
  pub each : (n : ℕ) → n < length packs
      → IsInstructionOf (slice_index_or packs n []) (slice_index_or instrs n Idle)

-- whether an instruction is one of the nine graphics instructions
abbrev pub is_graphic : Instr → Bool
is_graphic Idle = false
is_graphic Foreign = false
is_graphic Unknown = false
is_graphic instr = true

-- A graphics instruction that changes nothing after these instructions: the screen is the same with and without it.
pub record IsNeedless (before : List Instr) (instr : Instr) : Type 0 where
  pub graphic : IsTrue (is_graphic instr)
  pub nothing : standing_after blank (before ++ instr ∷ []) ≡ standing_after blank before

-- This is the pack of the thin form: an idle pack if the instruction is needless after the earlier ones, otherwise the same
-- pack.
abbrev pub IsThinned : List Instr → Instr → List ℕ → List ℕ → Type 0
IsThinned before instr pack thin = (IsNeedless before instr × (thin ≡ idle_pack))
    ⊎ (¬ IsNeedless before instr × (thin ≡ pack))

-- These packs are the thin form of a list of packs.
pub record IsThinForm (packs thins : List (List ℕ)) : Type 0 where
  pub instrs : List Instr
  pub read : AreInstructionsOf packs instrs
  pub count : length thins ≡ length packs
  pub each : (n : ℕ) → n < length packs
      → IsThinned (take n instrs) (slice_index_or instrs n Idle) (slice_index_or packs n [])
      (slice_index_or thins n [])

-- This text is the thin form of the whole packs of some bytes, as bytes.
pub record IsThinText (bytes text : List ℕ) : Type 0 where
  pub thins : List (List ℕ)
  pub form : IsThinForm (whole_parts symbols_a_slot bytes) thins
  pub text_is : text ≡ concat thins

-- The screens after the first m packs of both are equal.
pub record StandAlike (m : ℕ) (packs others : List (List ℕ)) : Type 0 where
  pub instrs : List Instr
  pub other_instrs : List Instr
  pub read : AreInstructionsOf (take m packs) instrs
  pub other_read : AreInstructionsOf (take m others) other_instrs
  pub same : standing_after blank instrs ≡ standing_after blank other_instrs
