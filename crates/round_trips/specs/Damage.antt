-- Damage of the packs in the slots of a lead-in.
use Rattle.std.specs.Prelude.{◌≡◌, ℕ, Bool, true, false, not, List, [], ◌∷◌, count_by, All}
use Rattle.cdtext_packs.specs.Packs.{check_matches}
use Rattle.cdtext_packs.specs.Copies.{StandsIn}

-- An undamaged slot has the pack that was written, and each other slot has a pack with a wrong CRC.
abbrev pub AreFound : List Bool → List (List ℕ) → List (List ℕ) → Type 0
AreFound [] [] [] = Unit {0}
AreFound (true ∷ whole) (pack ∷ written) (found ∷ rest) = (found ≡ pack) × AreFound whole written rest
AreFound (false ∷ whole) (pack ∷ written) (found ∷ rest) = (check_matches found ≡ false)
    × AreFound whole written rest
AreFound whole written rest = ⊥

-- the number of undamaged slots
abbrev pub count_whole : List Bool → ℕ
count_whole whole = count_by (λ (is : Bool). is) whole

-- the number of damaged slots
abbrev pub count_hurt : List Bool → ℕ
count_hurt whole = count_by (λ (is : Bool). not is) whole

-- The slots have this damage, and some slot has each pack undamaged.
pub record HasHurtSlots (packs : List (List ℕ)) (whole : List Bool)
    (written found : List (List ℕ)) : Type 0 where
  pub slots : AreFound whole written found
  pub left : All (λ (pack : List ℕ). StandsIn pack found) packs
