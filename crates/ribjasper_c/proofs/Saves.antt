-- The answers of calls that save and restore a player.
use Rattle.std.proofs.Common.{◌≡◌, ℤ, ◌⊎◌, ap, sym, ◌∙◌, inl, inr}
use mir.Val.{to_z, of_z}
use mir.Syntax.{w32}
use Rattle.std.specs.Prelude.{pos, negsuc}

-- an answer is unchanged as a C integer
pub passed_on_save : (answer : ℤ) → (answer ≡ pos 0) ⊎ (answer ≡ negsuc 0) ⊎ (answer ≡ pos 7)
    → to_z w32 (of_z w32 answer) ≡ answer
passed_on_save answer (inl done) = ap (λ (z : ℤ). to_z w32 (of_z w32 z)) done ∙ sym done
passed_on_save answer (inr (inl refused)) = ap (λ (z : ℤ). to_z w32 (of_z w32 z)) refused ∙ sym refused
passed_on_save answer (inr (inr no_memory)) = ap (λ (z : ℤ). to_z w32 (of_z w32 z)) no_memory ∙ sym no_memory

pub passed_on_load : (answer : ℤ) → (answer ≡ pos 0) ⊎ (answer ≡ pos 3) ⊎ (answer ≡ pos 7)
    → to_z w32 (of_z w32 answer) ≡ answer
passed_on_load answer (inl done) = ap (λ (z : ℤ). to_z w32 (of_z w32 z)) done ∙ sym done
passed_on_load answer (inr (inl invalid)) = ap (λ (z : ℤ). to_z w32 (of_z w32 z)) invalid ∙ sym invalid
passed_on_load answer (inr (inr no_memory)) =
    ap (λ (z : ℤ). to_z w32 (of_z w32 z)) no_memory ∙ sym no_memory
