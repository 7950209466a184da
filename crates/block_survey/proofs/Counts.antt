-- Words counted one after another.
use Rattle.std.proofs.Common.{◌≡◌, ℕ, ◌+◌, ◌<◌, Bool, List, length, get_or, take, None, sym, ap, ◌∙◌, arith}
use Rattle.std.specs.Prelude.{if◌then◌else◌, count_by, is_none, replicate}
use Rattle.std.specs.declared.option.Option.{Option}
use Rattle.std.proofs.lemmas.List.Sums.{sum_by_more}
use Rattle.rw_code.specs.Codeword.{IsCodeword, differences}
use Rattle.rw_code.specs.Finding.{finding}
use Rattle.stream_stages.specs.Check.{has_wrong}
use Rattle.stream_stages.proofs.Recovers.{found_itself}
use Rattle.block_survey.specs.Rows.{wrong_count, bad_words, marks_of, marked_found}
use Rattle.block_survey.specs.declared.counting.WordMarks.{WordMarks}

-- the count of words that pass a test, with one more word
more : (test : List ℕ → Bool) (words : List (List ℕ)) (i : ℕ) (word : List ℕ) → i < length words
    → word ≡ get_or words i word
    → count_by test (take (i + 1) words) ≡ count_by test (take i words) + (if test word then 1 else 0)
more test words i word lt is =
    sum_by_more (λ (w : List ℕ). if test w then 1 else 0) words i word lt
    ∙ ap (λ (w : List ℕ). count_by test (take i words) + (if test w then 1 else 0)) (sym is)

pub one_more : (words : List (List ℕ)) (i : ℕ) (word : List ℕ) (old new : WordMarks) → i < length words
    → word ≡ get_or words i word → old ≡ marks_of (take i words)
    → new ≡ marked_found old word (finding word) → new ≡ marks_of (take (i + 1) words)
one_more words i word old new lt is before step =
    let wrong : (n : ℕ)
    → wrong_count n (take (i + 1) words)
    ≡ wrong_count n (take i words) + (if has_wrong n (word, finding word) then 1 else 0) =
    λ n. more (λ (w : List ℕ). has_wrong n (w, finding w)) words i word lt is in
    let bad : bad_words (take (i + 1) words)
    ≡ bad_words (take i words) + (if is_none (finding word) then 1 else 0) =
    more (λ (w : List ℕ). is_none (finding w)) words i word lt is in
    let after : marks_of (take (i + 1) words) ≡ marked_found (marks_of (take i words)) word (finding word) =
    (λ t. record { clean = wrong 0 t; one = wrong 1 t; two = wrong 2 t; bad = bad t }) in
    step ∙ ap (λ (s : WordMarks). marked_found s word (finding word)) before ∙ sym after

-- four idle packs are clean
pub four_clean : IsCodeword (replicate 24 0)
    → record { clean = 4; one = 0; two = 0; bad = 0 } ≡ marks_of (replicate 4 (replicate 24 0))
unfolding differences
four_clean is =
    let zeros : List ℕ = replicate 24 0 in
    let counts : Option (List ℕ) → WordMarks = λ (found : Option (List ℕ)). record {
      clean = count_by (λ (w : List ℕ). has_wrong 0 (w, found)) (replicate 4 zeros);
      one = count_by (λ (w : List ℕ). has_wrong 1 (w, found)) (replicate 4 zeros);
      two = count_by (λ (w : List ℕ). has_wrong 2 (w, found)) (replicate 4 zeros);
      bad = count_by (λ (w : List ℕ). is_none found) (replicate 4 zeros);
    } in
    ap counts (found_itself zeros is)

-- a word that is far from every codeword counts as bad
pub bad_more : (s : WordMarks) (word : List ℕ) → record s { bad = s.bad + 1 } ≡ marked_found s word None
bad_more s word =
    let same : (n : ℕ) → n ≡ n + 0 = λ n. omega arith in
    (λ t. record { clean = same s.clean t; one = same s.one t; two = same s.two t; bad = s.bad + 1 })
