-- The standing of a screen after the idle pack.
use Rattle.std.proofs.Common.{◌≡◌, [], ◌∷◌, sym}
use Rattle.std.specs.Prelude.{replicate}
use Rattle.cdg_instructions.specs.Meaning.{meaning}
use Rattle.cdg_screen.specs.Standing.{IsWholeStanding, Standing, standing_after}

-- the standing is unchanged
pub kept : (now : Standing) → IsWholeStanding now → now ≡ standing_after now (meaning (replicate 24 0) ∷ [])
unfolding meaning
kept now whole = sym whole
