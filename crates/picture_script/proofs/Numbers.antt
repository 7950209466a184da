-- Words that are numbers, one after another.
use Rattle.std.proofs.Common.{◌≡◌, ℕ, suc, ◌+◌, ◌-◌, ◌<◌, ◌≤◌, List, [], ◌∷◌, ◌++◌, length, take, set, refl, ap, sym, ◌∙◌, append_assoc, append-nil, arith}
use Rattle.std.specs.Prelude.{Option, Some, None}
use Rattle.std.proofs.lemmas.List.{take_more_set, take_all}
use Rattle.picture_script.specs.ScriptGrammar.{small_number, numbers_in, number_before}

-- numbers before others
abbrev pub with_front : List ℕ → Option (List ℕ) → Option (List ℕ)
with_front xs (Some ys) = Some (xs ++ ys)
with_front xs None = None

front_more : (xs : List ℕ) (v : ℕ) (rest : Option (List ℕ))
    → with_front xs (number_before (Some v) rest) ≡ with_front (xs ++ v ∷ []) rest
front_more xs v (Some ys) = ap Some (sym (append_assoc xs (v ∷ []) ys))
front_more xs v None = refl

joined_none : (rest : Option (List ℕ)) → number_before None rest ≡ None
joined_none (Some ys) = refl
joined_none None = refl

split_count : (n i : ℕ) → i < n → n - i ≡ suc (n - (i + 1))
split_count n i h = omega arith

pub one_more : (all : Option (List ℕ)) (n i v : ℕ) (xs word : List ℕ) (words after : List (List ℕ)) → i < n
    → i < length xs → words ≡ word ∷ after → small_number word ≡ Some v
    → all ≡ with_front (take i xs) (numbers_in (n - i) words)
    → all ≡ with_front (take (i + 1) (set xs i v)) (numbers_in (n - (i + 1)) after)
unfolding numbers_in
one_more all n i v xs word words after i_lt x_lt split read h =
    h ∙ ap (λ ws. with_front (take i xs) (numbers_in (n - i) ws)) split
    ∙ ap (λ m. with_front (take i xs) (numbers_in m (word ∷ after))) (split_count n i i_lt)
    ∙ ap (λ o. with_front (take i xs) (number_before o (numbers_in (n - (i + 1)) after))) read
    ∙ front_more (take i xs) v (numbers_in (n - (i + 1)) after)
    ∙ ap (λ front. with_front front (numbers_in (n - (i + 1)) after)) (sym (take_more_set xs i v x_lt))

pub no_word : (all : Option (List ℕ)) (n i : ℕ) (xs : List ℕ) (words : List (List ℕ)) → i < n → words ≡ []
    → all ≡ with_front xs (numbers_in (n - i) words)
    → all ≡ None
unfolding numbers_in
no_word all n i xs words i_lt split h =
    h
    ∙ ap (λ ws. with_front xs (numbers_in (n - i) ws)) split
    ∙ ap (λ m. with_front xs (numbers_in m [])) (split_count n i i_lt)

pub no_number : (all : Option (List ℕ)) (n i : ℕ) (xs word : List ℕ) (words after : List (List ℕ)) → i < n
    → words ≡ word ∷ after → small_number word ≡ None
    → all ≡ with_front xs (numbers_in (n - i) words) → all ≡ None
unfolding numbers_in
no_number all n i xs word words after i_lt split read h =
    h ∙ ap (λ ws. with_front xs (numbers_in (n - i) ws)) split
    ∙ ap (λ m. with_front xs (numbers_in m (word ∷ after))) (split_count n i i_lt)
    ∙ ap (λ o. with_front xs (number_before o (numbers_in (n - (i + 1)) after))) read
    ∙ ap (with_front xs) (joined_none (numbers_in (n - (i + 1)) after))

no_more : (n i : ℕ) → n ≤ i → n - i ≡ 0
no_more n i h = omega arith

pub word_too_many : (all : Option (List ℕ)) (n i : ℕ) (xs word : List ℕ) (words after : List (List ℕ)) → n ≤ i
    → words ≡ word ∷ after
    → all ≡ with_front xs (numbers_in (n - i) words) → all ≡ None
unfolding numbers_in
word_too_many all n i xs word words after i_ge split h =
    h
    ∙ ap (λ ws. with_front xs (numbers_in (n - i) ws)) split
    ∙ ap (λ m. with_front xs (numbers_in m (word ∷ after))) (no_more n i i_ge)

pub all_read : (all : Option (List ℕ)) (n i : ℕ) (xs : List ℕ) (words : List (List ℕ)) → n ≤ i → length xs ≡ n
    → words ≡ []
    → all ≡ with_front (take i xs) (numbers_in (n - i) words) → all ≡ Some xs
unfolding numbers_in
all_read all n i xs words i_ge size split h =
    h ∙ ap (λ ws. with_front (take i xs) (numbers_in (n - i) ws)) split
    ∙ ap (λ m. with_front (take i xs) (numbers_in m [])) (no_more n i i_ge)
    ∙ ap Some (append-nil (take i xs) ∙ take_all i xs (omega arith))
