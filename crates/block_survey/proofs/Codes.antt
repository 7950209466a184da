-- Codes that are tested part by part.
use Rattle.std.proofs.Common.{◌≡◌, ℕ, List, subst, sym}

-- the first two parts pass, so the test of the third part, `rest`, decides
pub third_tested : {front middle passes : Type 0} (tested : List ℕ → Type 0) (rest there : List ℕ)
    → rest ≡ there → front → middle → (passes → tested rest) × (tested rest → passes)
    → (passes → front × middle × tested there) × (front × middle × tested there → passes)
third_tested tested rest there is a b both =
    (λ pass. (a, b, subst tested is (both.0 pass)), λ all. both.1 (subst tested (sym is) all.2))
