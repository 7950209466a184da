-- Lists of four words.
use Rattle.std.proofs.Common.{◌≡◌, ◌≤◌, ◌<◌, ℕ, List, [], ◌∷◌, length, get_or, String, string_bytes, refl, arith}
use Rattle.cdg_cmd.specs.Words.{texts}

-- the texts of four words that are read one by one
pub four_texts : {A : Type 0} (words : List (String A)) (w x y z : String A) → 4 ≤ length words
    → length words < 5
    → w ≡ get_or words 0 w → x ≡ get_or words 1 x → y ≡ get_or words 2 y → z ≡ get_or words 3 z
    → texts words ≡ string_bytes w ∷ string_bytes x ∷ string_bytes y ∷ string_bytes z ∷ []
four_texts [] w x y z some few one two three four = absurd (omega (arith, some))
four_texts (a ∷ []) w x y z some few one two three four = absurd (omega (arith, some))
four_texts (a ∷ b ∷ []) w x y z some few one two three four = absurd (omega (arith, some))
four_texts (a ∷ b ∷ c ∷ []) w x y z some few one two three four = absurd (omega (arith, some))
four_texts (a ∷ b ∷ c ∷ d ∷ []) w x y z some few one two three four = (cc)
four_texts (a ∷ b ∷ c ∷ d ∷ e ∷ more) w x y z some few one two three four = absurd (omega (arith, few))

pub same_four : {X : Type 0} (a b c d k l m n : X) → a ∷ b ∷ c ∷ d ∷ [] ≡ k ∷ l ∷ m ∷ n ∷ []
    → (a ≡ k) × (b ≡ l) × (c ≡ m) × (d ≡ n)
same_four a b c d k l m n e = (cc, cc, cc, cc)

pub four_of : {X : Type 0} (a b c d k l m n : X) → a ≡ k → b ≡ l → c ≡ m → d ≡ n
    → a ∷ b ∷ c ∷ d ∷ [] ≡ k ∷ l ∷ m ∷ n ∷ []
four_of a b c d k l m n one two three four = (cc)

-- four texts are those of four words
pub four_long : {A : Type 0} (words : List (String A)) (a b c d : List ℕ) → texts words ≡ a ∷ b ∷ c ∷ d ∷ []
    → length words ≡ 4
four_long [] a b c d is = absurd (cc)
four_long (v ∷ []) a b c d is = absurd (cc)
four_long (v ∷ w ∷ []) a b c d is = absurd (cc)
four_long (v ∷ w ∷ x ∷ []) a b c d is = absurd (cc)
four_long (v ∷ w ∷ x ∷ y ∷ []) a b c d is = refl
four_long (v ∷ w ∷ x ∷ y ∷ z ∷ more) a b c d is = absurd (cc)
