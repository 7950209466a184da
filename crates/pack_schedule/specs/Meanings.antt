-- The instructions of packs.
use Rattle.std.specs.Prelude.{◌≡◌, ℕ, List, [], ◌∷◌}
use Rattle.cdg_instructions.specs.Instruction.{Means}
use Rattle.cdg_instructions.specs.declared.instr.Instr.{Instr}

-- These packs have these instructions, in order.
abbrev pub AreMeantBy : List (List ℕ) → List Instr → Type 0
AreMeantBy [] instrs = instrs ≡ []
AreMeantBy (pack ∷ packs) [] = ⊥
AreMeantBy (pack ∷ packs) (instr ∷ instrs) = Means pack instr × AreMeantBy packs instrs
