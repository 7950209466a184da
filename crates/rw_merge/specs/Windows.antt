-- The last slots of two readings, at most seven of each.
use Rattle.std.specs.Prelude.{ℕ, List}

-- the model of a merger
pub record Windows : Type 0 where
  pub first : List (List ℕ)
  pub second : List (List ℕ)
