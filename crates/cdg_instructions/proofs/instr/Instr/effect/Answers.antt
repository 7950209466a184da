use Rattle.std.proofs.Common.{ℕ, ◌<◌, List, [], ◌∷◌, subst}
use Rattle.std.specs.Prelude.{All}
use Rattle.std.proofs.lemmas.List.Elements.{All-cons, All-nil}
use Rattle.cdg_instructions.specs.Instruction.{InRange, InTileRange}
use Rattle.cdg_instructions.proofs.instr.Instr.effect.Goals as goal

two_colours : (colour0 colour1 row column : ℕ) (lines : List ℕ) → InTileRange colour0 colour1 row column lines
    → All (λ colour. colour < 16) (colour0 ∷ colour1 ∷ [])
two_colours colour0 colour1 row column lines range =
    All-cons (λ colour. colour < 16) colour0 (colour1 ∷ []) range.colour0_below
    (All-cons (λ colour. colour < 16) colour1 [] range.colour1_below (All-nil (λ colour. colour < 16)))

pub returns-in-SetTile-clause-range : goal.returns-in-SetTile-clause-range
returns-in-SetTile-clause-range c = λ range. two_colours _ _ _ _ _ (subst InRange c.in-SetTile.is range)

pub returns-in-XorTile-clause-range : goal.returns-in-XorTile-clause-range
returns-in-XorTile-clause-range c = λ range. two_colours _ _ _ _ _ (subst InRange c.in-XorTile.is range)
