-- Texts that are cut into lines, and lines into words.
use Rattle.std.proofs.Common.{◌≡◌, ℕ, zero, suc, ◌-◌, ◌<◌, ◌≤◌, Bool, true, false, not, ◌||◌, ◌==◌, cond, nat_le, List, [], ◌∷◌, ◌++◌, length, get_or, take, refl, append_assoc, sym, ap, ap₂, ◌∙◌, arith}
use Rattle.std.proofs.Math.Dec.{eqb-suc-zero}
use Rattle.std.proofs.lemmas.Bool.{and_parts, ne_eqb, leb-true}
use Rattle.std.proofs.lemmas.List.Splits.{slice_split-cons_no, length-slice_split}
use Rattle.std.specs.List.{slice_split, onto_first, list_all, filter}
use Rattle.std.specs.Str.Lines.{lines_of_parts, strip_carriage_return}
use Rattle.text_lines.specs.Text.{is_blank, is_some_bytes, words_in, lines_in}

-- whether all bytes are at least this number
abbrev pub all_from : ℕ → List ℕ → Bool
all_from least bytes = list_all (λ b. nat_le least b) bytes

-- the part before a separator
cut_at : (p : ℕ → Bool) (least separator : ℕ) → p separator ≡ true → ((b : ℕ) → least ≤ b → p b ≡ false)
    → (w rest : List ℕ) → all_from least w ≡ true
    → slice_split p (w ++ separator ∷ rest) ≡ w ∷ slice_split p rest
cut_at p least separator passes fails [] rest all =
    ap (λ t. cond t ([] ∷ slice_split p rest) (onto_first separator (slice_split p rest))) passes
cut_at p least separator passes fails (b ∷ w) rest all =
    let (first, others) = and_parts (nat_le least b) (all_from least w) all in
    slice_split-cons_no p b (w ++ separator ∷ rest) (fails b (leb-true least b first))
    ∙ ap (onto_first b) (cut_at p least separator passes fails w rest others)

-- the last part
cut_none : (p : ℕ → Bool) (least : ℕ) → ((b : ℕ) → least ≤ b → p b ≡ false) → (w : List ℕ)
    → all_from least w ≡ true → slice_split p w ≡ w ∷ []
cut_none p least fails [] all = refl
cut_none p least fails (b ∷ w) all =
    let (first, others) = and_parts (nat_le least b) (all_from least w) all in
    slice_split-cons_no p b w (fails b (leb-true least b first))
    ∙ ap (onto_first b) (cut_none p least fails w others)

-- ---- Words.

not_blank : (b : ℕ) → 33 ≤ b → is_blank b ≡ false
not_blank b from = ap₂ (λ (s t : Bool). s || t) (ne_eqb b 32 (λ e. omega arith))
    (ne_eqb b 9 (λ e. omega arith))

some : (w : List ℕ) → 0 < length w → is_some_bytes w ≡ true
some [] lt = absurd (omega arith)
some (b ∷ w) lt = ap not (eqb-suc-zero (length w))

pub next_word : (w rest : List ℕ) → all_from 33 w ≡ true → 0 < length w
    → words_in (w ++ 32 ∷ rest) ≡ w ∷ words_in rest
unfolding words_in
next_word w rest all lt =
    ap (filter is_some_bytes) (cut_at is_blank 33 32 refl not_blank w rest all)
    ∙ ap (λ t. cond t (w ∷ filter is_some_bytes (slice_split is_blank rest))
    (filter is_some_bytes (slice_split is_blank rest))) (some w lt)

pub last_word : (w : List ℕ) → all_from 33 w ≡ true → 0 < length w → words_in w ≡ w ∷ []
unfolding words_in
last_word w all lt = ap (filter is_some_bytes) (cut_none is_blank 33 not_blank w all)
    ∙ ap (λ t. cond t (w ∷ []) []) (some w lt)

-- ---- Lines.

-- lines, each with a line feed after it
unfoldable pub text_of : List (List ℕ) → List ℕ
text_of [] = []
text_of (line ∷ rest) = line ++ 10 ∷ text_of rest

not_feed : (b : ℕ) → 32 ≤ b → (b == 10) ≡ false
not_feed b from = ne_eqb b 10 (λ e. omega arith)

last_from : (least : ℕ) (l : List ℕ) (i : ℕ) → all_from least l ≡ true → i < length l → least ≤ get_or l i 0
last_from least [] i all lt = absurd (omega arith)
last_from least (b ∷ l) zero all lt = leb-true least b (and_parts (nat_le least b) (all_from least l) all).0
last_from least (b ∷ l) (suc i) all lt =
    last_from least l i (and_parts (nat_le least b) (all_from least l) all).1 (omega arith)

no_return : (l : List ℕ) → all_from 32 l ≡ true → strip_carriage_return l ≡ l
no_return [] all = refl
no_return (b ∷ l) all =
    let from : 32 ≤ get_or (b ∷ l) (length (b ∷ l) - 1) 0 =
    last_from 32 (b ∷ l) (length (b ∷ l) - 1) all (omega arith) in
    ap (λ t. cond t (take (length (b ∷ l) - 1) (b ∷ l)) (b ∷ l))
    (ne_eqb (get_or (b ∷ l) (length (b ∷ l) - 1) 0) 13 (λ e. omega arith))

more_parts : (x : List ℕ) (parts : List (List ℕ)) → 0 < length parts
    → lines_of_parts (x ∷ parts) ≡ strip_carriage_return x ∷ lines_of_parts parts
more_parts x (y ∷ ys) lt = refl
more_parts x [] lt = absurd (omega arith)

next_line : (l rest : List ℕ) → all_from 32 l ≡ true → lines_in (l ++ 10 ∷ rest) ≡ l ∷ lines_in rest
unfolding lines_in
next_line l rest all =
    ap lines_of_parts (cut_at (λ b. b == 10) 32 10 refl not_feed l rest all)
    ∙ more_parts l (slice_split (λ b. b == 10) rest) (omega (arith, length-slice_split (λ b. b == 10) rest))
    ∙ ap (λ x. x ∷ lines_of_parts (slice_split (λ b. b == 10) rest)) (no_return l all)

nothing : lines_in [] ≡ []
unfolding lines_in
nothing = refl

pub lines_are : (ls : List (List ℕ)) → list_all (all_from 32) ls ≡ true → lines_in (text_of ls) ≡ ls
unfolding text_of
lines_are [] all = nothing
lines_are (l ∷ ls) all =
    let (first, others) = and_parts (all_from 32 l) (list_all (all_from 32) ls) all in
    next_line l (text_of ls) first ∙ ap (λ x. l ∷ x) (lines_are ls others)

pub text_of-append : (xs ys : List (List ℕ)) → text_of (xs ++ ys) ≡ text_of xs ++ text_of ys
unfolding text_of
text_of-append [] ys = refl
text_of-append (x ∷ xs) ys = ap (λ t. x ++ 10 ∷ t) (text_of-append xs ys)
    ∙ sym (append_assoc x (10 ∷ text_of xs) (text_of ys))
