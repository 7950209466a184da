-- The message of a word, without its parity.
use Rattle.std.proofs.Common.{◌≡◌, ℕ, ◌+◌, ◌<◌, List, ◌++◌, length, get_or, take, drop, sym, ap, ap₂, ◌∙◌, arith}
use Rattle.std.proofs.lemmas.List.{ext_get_or, get_or-take, get_or-drop, length-take-le, length-drop}
use Rattle.cdg_instructions.specs.Instruction.{message_of}

same_part : (word other : List ℕ) (first many : ℕ) → length word ≡ 24 → length other ≡ 24 → first + many < 25
    → ((k : ℕ) → k < many → get_or word (first + k) 0 ≡ get_or other (first + k) 0)
    → take many (drop first word) ≡ take many (drop first other)
same_part word other first many size size' fits same =
    let one : length (take many (drop first word)) ≡ many =
    length-take-le many (drop first word) (omega (arith, length-drop first word, size)) in
    let two : length (take many (drop first other)) ≡ many =
    length-take-le many (drop first other) (omega (arith, length-drop first other, size')) in
    ext_get_or 0 (take many (drop first word)) (take many (drop first other)) (one ∙ sym two) (λ k lt.
    let small : k < many = omega (arith, lt, one) in
    get_or-take many (drop first word) k 0 small ∙ get_or-drop first word k 0 ∙ same k small
    ∙ sym (get_or-take many (drop first other) k 0 small ∙ get_or-drop first other k 0))

-- words with the same symbols at 0, 1 and 4 to 19 have the same message
pub same_message : (word other : List ℕ) → length word ≡ 24 → length other ≡ 24
    → ((k : ℕ) → k < 2 → get_or word k 0 ≡ get_or other k 0)
    → ((k : ℕ) → k < 16 → get_or word (4 + k) 0 ≡ get_or other (4 + k) 0) → message_of word ≡ message_of other
same_message word other size size' head body =
    ap₂ (λ xs ys. xs ++ ys)
    (same_part word other 0 2 size size' (omega arith) (λ k lt.
    let at : 0 + k ≡ k = omega arith in
    ap (λ i. get_or word i 0) at ∙ head k lt ∙ sym (ap (λ i. get_or other i 0) at)))
    (same_part word other 4 16 size size' (omega arith) body)
