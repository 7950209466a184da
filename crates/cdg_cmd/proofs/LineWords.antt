-- Words and numbers behind other text.
use Rattle.std.proofs.Common.{◌≡◌, ℕ, List, ◌++◌, codes, decimal, ap, ap₂, ◌∙◌, append_assoc}
use Rattle.cdg_cmd.specs.Line.{words_and_count}

pub with_number : (old mid new word : List ℕ) (n k : ℕ) → mid ≡ old ++ word → k ≡ n
    → new ≡ words_and_count mid k
    → new ≡ old ++ words_and_count word n
with_number old mid new word n k first same second =
    second ∙ ap₂ (λ (m : List ℕ) (j : ℕ). words_and_count m j) first same
    ∙ ap (λ (m : List ℕ). m ++ decimal n) (append_assoc old word (codes " "))
    ∙ append_assoc old (word ++ codes " ") (decimal n)

pub counted_is : (old new word : List ℕ) (n k : ℕ) → k ≡ n → new ≡ old ++ words_and_count word k
    → new ≡ old ++ words_and_count word n
counted_is old new word n k same is = is ∙ ap (λ (j : ℕ). old ++ words_and_count word j) same
