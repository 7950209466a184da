-- Parts of a line, one after another.
use Rattle.std.proofs.Common.{◌≡◌, ℕ, List, ◌++◌, sym, ap, ◌∙◌, append_assoc}

pub behind : (m one two a b : List ℕ) → one ≡ m ++ a → two ≡ one ++ b → two ≡ m ++ (a ++ b)
behind m one two a b first second = second ∙ ap (λ (l : List ℕ). l ++ b) first ∙ append_assoc m a b

-- a name and its value, after a part
pub named_behind : (m one two a name value : List ℕ) → one ≡ m ++ a → two ≡ one ++ (name ++ value)
    → two ≡ m ++ ((a ++ name) ++ value)
named_behind m one two a name value first second =
    behind m one two a (name ++ value) first second
    ∙ ap (λ (l : List ℕ). m ++ l) (sym (append_assoc a name value))
