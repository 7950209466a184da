-- Whether two codewords are equal.
use Rattle.std.proofs.Common.{◌≡◌, ◌≢◌, ◌==◌, ℕ, Bool, true, false, List, sym, ap, ◌∙◌, inl, inr}
use Rattle.std.specs.Prelude.{nat_eq}
use Rattle.std.specs.Cmp.Lexicographic.{other_text, pointwise, same_text}
use Rattle.std.proofs.lemmas.Bool.Decides.{eqb_tells}
use Rattle.rw_code.specs.Codeword.{IsWord, differences}
use Rattle.rw_code.proofs.Differing.{differences_none, differences_self}

pub same_is : (one other : List ℕ) → one ≡ other → true ≡ (differences one other == 0)
same_is one other same =
    let none : differences one other ≡ 0 = ap (λ l. differences one l) (sym same) ∙ differences_self one in
    ap (λ (n : ℕ). n == 0) (sym none)

pub other_is : (one other : List ℕ) → IsWord one → IsWord other → one ≢ other
    → false ≡ (differences one other == 0)
other_is one other word word' differ =
    elim (eqb_tells (differences one other) 0) [
      | inl same ↦ absurd (differ (differences_none one other (word.size ∙ sym word'.size) same.1))
      | inr more ↦ sym more.0
    ]

-- the comparison of the bytes of two words says that they are equal,
pub reported_same : (one other bytes bytes' : List ℕ) (reported : Bool) → bytes ≡ one → bytes' ≡ other
    → reported ≡ pointwise nat_eq bytes bytes' → reported ≡ true
    → one ≡ other
reported_same one other bytes bytes' reported is is' decides same =
    sym is ∙ same_text bytes bytes' (sym same ∙ decides) ∙ is'

-- or that they are not
pub reported_other : (one other bytes bytes' : List ℕ) (reported : Bool) → bytes ≡ one → bytes' ≡ other
    → reported ≡ pointwise nat_eq bytes bytes' → reported ≡ false
    → one ≢ other
reported_other one other bytes bytes' reported is is' decides differs same =
    other_text bytes bytes' (sym differs ∙ decides) (is ∙ same ∙ sym is')
