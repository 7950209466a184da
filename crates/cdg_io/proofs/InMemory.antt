-- The calls of a source in memory, by the lists with which it was made.
use Rattle.std.proofs.Common.{◌≡◌, ℕ, Bool, List, ◌∙◌, min, length, subst}
use Rattle.std.specs.Prelude.{◌↔◌, Contains, IsTrue}
use Rattle.cdg_io.specs.Memory.{may_move}

-- whether a call is listed in the given list
pub listed : (test answer : Bool) (seen fails : List ℕ) (call number : ℕ) → (IsTrue test ↔ Contains seen call)
    → test ≡ answer → seen ≡ fails → call ≡ number
    → IsTrue answer ↔ Contains fails number
listed test answer seen fails call number decides is same here =
    subst (λ (b : Bool). IsTrue b ↔ Contains fails number) is (subst
    (λ (l : List ℕ). IsTrue test ↔ Contains l number) same
    (subst (λ (k : ℕ). IsTrue test ↔ Contains seen k) here decides))

-- the number of bytes that a call moves
pub moves : (n most wanted call number : ℕ) (from left seen cuts : List ℕ) → n ≡ min most (length from)
    → from ≡ left → most ≡ may_move seen call wanted → seen ≡ cuts → call ≡ number
    → n ≡ min (may_move cuts number wanted) (length left)
moves n most wanted call number from left seen cuts count rest may same here =
    count
    ∙ (λ i. min (may i) (length (rest i)))
    ∙ (λ i. min (may_move (same i) (here i) wanted) (length left))
