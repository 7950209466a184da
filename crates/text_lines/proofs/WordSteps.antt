-- The first word of a line, and the words after it.
use Rattle.std.proofs.Common.{subst, inl, inr, suc, length-take, length-drop, ◌≡◌, ℕ, ◌+◌, ◌<◌, ◌≤◌, true, false, List, [], ◌∷◌, length, take, drop, get_or, arith, refl, ap, sym, ◌∙◌}
use Rattle.std.specs.Prelude.{not, filter, reverse}
use Rattle.std.specs.List.{position_or_len, slice_split, after_first, list_all}
use Rattle.std.proofs.lemmas.List.Splits.{slice_split_first, slice_split_none, slice_split-cons_yes}
use Rattle.std.proofs.lemmas.List.Sums.{fails_before_first, passes_at_first, prefix_len-le-length, position_or_len_is, AllPass-from_list_all}
use Rattle.std.proofs.lemmas.List.Elements.{All-get_or}
use Rattle.std.proofs.lemmas.List.{take_all, reverse-reverse, get_or-take, get_or-drop}
use Rattle.std.proofs.Math.Seq.{take-suc}
use Rattle.std.proofs.lemmas.Bool.{cases_Bool, cases_lt}
use Rattle.std.proofs.lemmas.Grind.{common_steps}
use Rattle.text_lines.specs.Text.{is_blank, is_some_bytes, without_blanks, words_in, first_word}

pub without_blanks-yes : (b : ℕ) (rest : List ℕ) → is_blank b ≡ true
    → without_blanks (b ∷ rest) ≡ without_blanks rest
unfolding without_blanks
without_blanks-yes b rest blank = grind (arith, common_steps)

pub without_blanks-no : (b : ℕ) (rest : List ℕ) → is_blank b ≡ false → without_blanks (b ∷ rest) ≡ b ∷ rest
unfolding without_blanks
without_blanks-no b rest other = grind (arith, common_steps)

drop_past : (b n : ℕ) (s : List ℕ) → drop (1 + n) (b ∷ s) ≡ drop n s
drop_past b n s = let e : 1 + n ≡ suc n = omega arith in rw e refl

without_blanks-nil : without_blanks [] ≡ []
unfolding without_blanks
without_blanks-nil = refl

-- the blanks at the front end at the first byte that is not a blank
pub without_blanks_by_place : (s : List ℕ)
    → drop (position_or_len (λ b. not (is_blank b)) s) s ≡ without_blanks s
without_blanks_by_place [] = grind (arith, common_steps, without_blanks-nil)
without_blanks_by_place (b ∷ s) =
    elim (cases_Bool (is_blank b)) [
      | inl blank ↦
          let place : position_or_len (λ b. not (is_blank b)) (b ∷ s)
          ≡ 1 + position_or_len (λ b. not (is_blank b)) s =
          grind arith in
          ap (λ n. drop n (b ∷ s)) place
          ∙ (drop_past b _ s ∙ (without_blanks_by_place s ∙ sym (without_blanks-yes b s blank)))
      | inr other ↦
          let place : position_or_len (λ b. not (is_blank b)) (b ∷ s) ≡ 0 = grind arith in
          ap (λ n. drop n (b ∷ s)) place ∙ sym (without_blanks-no b s other)
    ]

-- the words of a line do not depend on the blanks at its front
words-of_blanks : (s : List ℕ) → words_in s ≡ words_in (without_blanks s)
unfolding without_blanks words_in
words-of_blanks [] = refl
words-of_blanks (b ∷ s) = grind (arith, common_steps, words-of_blanks s)

-- without these blanks, a line that is not empty begins with a word
some_word : (s : List ℕ) → 0 < length (without_blanks s) → 0 < length (first_word (without_blanks s))
unfolding without_blanks first_word
some_word [] some = some
some_word (b ∷ s) some = grind (arith, common_steps, some_word s)

drop_at_blank : (s : List ℕ) (n : ℕ) → n ≡ position_or_len is_blank s → n < length s
    → words_in (drop n s) ≡ words_in (drop (n + 1) s)
unfolding words_in
drop_at_blank s n at lt =
    let blank : is_blank (get_or s n 0) ≡ true = rw at (passes_at_first is_blank s 0 (omega arith)) in
    let cut : drop n s ≡ get_or s n 0 ∷ drop (n + 1) s = grind (arith, common_steps) in
    let split : slice_split is_blank (get_or s n 0 ∷ drop (n + 1) s)
    ≡ [] ∷ slice_split is_blank (drop (n + 1) s) =
    slice_split-cons_yes is_blank (get_or s n 0) (drop (n + 1) s) blank in
    ap (λ l. filter is_some_bytes (slice_split is_blank l)) cut ∙ ap (filter is_some_bytes) split

filter_some : (word : List ℕ) (more : List (List ℕ)) → 0 < length word
    → filter is_some_bytes (word ∷ more) ≡ word ∷ filter is_some_bytes more
filter_some word more some = grind (arith, common_steps)

words-nil : (s : List ℕ) → length s ≡ 0 → words_in s ≡ []
unfolding words_in
words-nil [] none = refl
words-nil (x ∷ s) none = absurd (omega arith)

first_of_words : (s word : List ℕ) → word ≡ first_word s → 0 < length word
    → words_in s ≡ word ∷ words_in (drop (length word) s)
unfolding first_word words_in
first_of_words s word is some =
    let le : position_or_len is_blank s ≤ length s = prefix_len-le-length (λ x. not (is_blank x)) s in
    let size : length word ≡ position_or_len is_blank s =
    rw is (omega (arith, length-take (position_or_len is_blank s) s)) in
    elim (cases_lt (position_or_len is_blank s) (length s)) [
      | inl lt ↦
          ap (filter is_some_bytes) (slice_split_first is_blank s 0 lt)
          ∙ (ap (λ (w : List ℕ). filter is_some_bytes (w ∷ slice_split is_blank (after_first is_blank s)))
          (sym is)
          ∙ (filter_some word (slice_split is_blank (after_first is_blank s)) some
          ∙ ap (λ (l : List (List ℕ)). word ∷ l)
          (sym (drop_at_blank s _ refl lt) ∙ ap (λ n. words_in (drop n s)) (sym size))))
      | inr ge ↦
          let whole : s ≡ word = sym (is ∙ take_all _ s ge) in
          let none : words_in (drop (length word) s) ≡ [] =
          words-nil (drop (length word) s) (omega (arith, length-drop (length word) s)) in
          ap (filter is_some_bytes)
          (slice_split_none is_blank s (λ k d lt. fails_before_first is_blank s k d (omega arith)))
          ∙ (ap (λ (w : List ℕ). filter is_some_bytes (w ∷ [])) whole
          ∙ (filter_some word [] some ∙ ap (λ (l : List (List ℕ)). word ∷ l) (sym none)))
    ]

pub no_words : (line s : List ℕ) → s ≡ without_blanks line → length s ≡ 0 → words_in line ≡ []
no_words line s is none = words-of_blanks line ∙ (ap words_in (sym is) ∙ words-nil s none)

pub word_is_some : (line s word : List ℕ) → s ≡ without_blanks line → 0 < length s → word ≡ first_word s
    → 0 < length word
word_is_some line s word is some first = rw (first, is) (some_word line (subst (λ t. 0 < length t) is some))

pub more_words : (line s word : List ℕ) → s ≡ without_blanks line → 0 < length s → word ≡ first_word s
    → words_in line ≡ word ∷ words_in (drop (length word) s)
more_words line s word is some first =
    let here : 0 < length word = word_is_some line s word is some first in
    words-of_blanks line ∙ (ap words_in (sym is) ∙ first_of_words s word first here)

-- removing the front blanks twice is removing them once; the words stay the same
pub without_blanks-twice : (line : List ℕ) → without_blanks (without_blanks line) ≡ without_blanks line
without_blanks-twice [] = ap without_blanks without_blanks-nil
without_blanks-twice (b ∷ line) =
    elim (cases_Bool (is_blank b)) [
      | inl blank ↦ rw (without_blanks-yes b line blank) (without_blanks-twice line)
      | inr other ↦ rw (without_blanks-no b line other) (without_blanks-no b line other)
    ]

pub words-trimmed : (line s : List ℕ) → s ≡ without_blanks line → words_in s ≡ words_in line
words-trimmed line s is = ap words_in is ∙ sym (words-of_blanks line)

-- a word at the front of a line
letter_at : (word : List ℕ) (k : ℕ) → list_all (λ b. not (is_blank b)) word ≡ true → k < length word
    → is_blank (get_or word k 0) ≡ false
letter_at word k whole lt =
    let h : not (is_blank (get_or word k 0)) ≡ true =
    All-get_or (λ b. not (is_blank b) ≡ true) word k 0 lt
    (AllPass-from_list_all (λ b. not (is_blank b)) word whole) in
    grind (arith, common_steps)

pub word_at : (word line : List ℕ) (k : ℕ) → take (length word) line ≡ word → k < length word
    → get_or line k 0 ≡ get_or word k 0
word_at word line k same lt = sym (get_or-take (length word) line k 0 lt) ∙ ap (λ s. get_or s k 0) same

front_place : (word line : List ℕ) → take (length word) line ≡ word
    → list_all (λ b. not (is_blank b)) word ≡ true
    → (length word < length line → is_blank (get_or line (length word) 0) ≡ true)
    → position_or_len is_blank line ≡ length word
front_place word line same whole over =
    position_or_len_is is_blank line (length word) 0
    (omega (arith, ap length same, length-take (length word) line))
    (λ k lt. ap is_blank (word_at word line k same lt) ∙ letter_at word k whole lt) over

pub front_word : (word line rest : List ℕ) → take (length word) line ≡ word → 0 < length word
    → list_all (λ b. not (is_blank b)) word ≡ true
    → (length word < length line → is_blank (get_or line (length word) 0) ≡ true)
    → rest ≡ drop (length word) line
    → words_in line ≡ word ∷ words_in rest
unfolding first_word
front_word word line rest same some whole over is =
    let first : word ≡ first_word line =
    sym (ap (λ n. take n line) (front_place word line same whole over) ∙ same) in
    first_of_words line word first some ∙ ap (λ s. word ∷ words_in s) (sym is)

pub rest_begins : (line rest : List ℕ) (n : ℕ) → rest ≡ drop n line → get_or rest 0 0 ≡ get_or line n 0
rest_begins line rest n is =
    let same : n + 0 ≡ n = omega arith in
    ap (λ s. get_or s 0 0) is ∙ (get_or-drop n line 0 0 ∙ ap (λ m. get_or line m 0) same)

-- the first word of a trimmed line is at its front, followed by a blank or nothing
first_is : (word line : List ℕ) → without_blanks line ≡ line → 0 < length word
    → get_or (words_in line) 0 [] ≡ word
    → word ≡ first_word line
first_is word line trimmed some at =
    elim (cases_lt 0 (length line)) [
      | inl lt ↦
          sym (sym (ap (λ ws. get_or ws 0 []) (more_words line line (first_word line) (sym trimmed) lt refl))
          ∙ at)
      | inr ge ↦
          let none : words_in line ≡ [] = no_words line line (sym trimmed) (omega arith) in
          let short : 0 ≡ length word = ap (λ ws. length (get_or ws 0 [])) (sym none) ∙ ap length at in
          absurd (omega arith)
    ]

pub first_stands : (word line : List ℕ) → without_blanks line ≡ line → 0 < length word
    → get_or (words_in line) 0 [] ≡ word
    → take (length word) line ≡ word
unfolding first_word
first_stands word line trimmed some at =
    let is : word ≡ take (position_or_len is_blank line) line = first_is word line trimmed some at in
    let le : position_or_len is_blank line ≤ length line =
    prefix_len-le-length (λ x. not (is_blank x)) line in
    let size : length word ≡ position_or_len is_blank line =
    omega (arith, ap length is, length-take (position_or_len is_blank line) line) in
    ap (λ n. take n line) size ∙ sym is

pub first_over : (word line : List ℕ) → without_blanks line ≡ line → 0 < length word
    → get_or (words_in line) 0 [] ≡ word → length word < length line
    → is_blank (get_or line (length word) 0) ≡ true
unfolding first_word
first_over word line trimmed some at lt =
    let is : word ≡ take (position_or_len is_blank line) line = first_is word line trimmed some at in
    let le : position_or_len is_blank line ≤ length line =
    prefix_len-le-length (λ x. not (is_blank x)) line in
    let size : length word ≡ position_or_len is_blank line =
    omega (arith, ap length is, length-take (position_or_len is_blank line) line) in
    ap (λ n. is_blank (get_or line n 0)) size ∙ passes_at_first is_blank line 0 (omega arith)

reverse-front : (line : List ℕ) (n end : ℕ) → end ≡ n + 1 → end ≤ length line
    → reverse (take end line) ≡ get_or line n 0 ∷ reverse (take n line)
reverse-front line n end is le =
    let next : end ≡ suc n = omega arith in
    rw next (ap reverse (take-suc line n 0 (omega arith)) ∙ grind (arith, common_steps))

-- a blank at the end of a line is dropped; any other byte ends the trimmed line
pub trim_back : (line : List ℕ) (n end b : ℕ) → end ≡ n + 1 → end ≤ length line → b ≡ get_or line n 0
    → is_blank b ≡ true
    → without_blanks (reverse (take end line)) ≡ without_blanks (reverse line)
    → without_blanks (reverse (take n line)) ≡ without_blanks (reverse line)
trim_back line n end b is le at blank same =
    sym (without_blanks-yes b (reverse (take n line)) blank)
    ∙ (ap without_blanks (sym (reverse-front line n end is le ∙ ap (λ x. x ∷ reverse (take n line)) (sym at)))
    ∙ same)

pub trim_stop : (line : List ℕ) (n end b : ℕ) → end ≡ n + 1 → end ≤ length line → b ≡ get_or line n 0
    → is_blank b ≡ false
    → without_blanks (reverse (take end line)) ≡ without_blanks (reverse line)
    → take end line ≡ reverse (without_blanks (reverse line))
trim_stop line n end b is le at other same =
    let back : reverse (take end line) ≡ b ∷ reverse (take n line) =
    reverse-front line n end is le ∙ ap (λ x. x ∷ reverse (take n line)) (sym at) in
    let stop : without_blanks (reverse (take end line)) ≡ reverse (take end line) =
    ap without_blanks back ∙ (without_blanks-no b (reverse (take n line)) other ∙ sym back) in
    sym (reverse-reverse (take end line)) ∙ ap reverse (sym stop ∙ same)

pub trim_nothing : (line : List ℕ) (end : ℕ) → end ≡ 0
    → without_blanks (reverse (take end line)) ≡ without_blanks (reverse line)
    → take end line ≡ reverse (without_blanks (reverse line))
trim_nothing line end is same =
    let none : take end line ≡ [] = grind (arith, common_steps) in
    none ∙ ap reverse (sym without_blanks-nil ∙ (ap (λ l. without_blanks (reverse l)) (sym none) ∙ same))
