-- The results for the words of two readings.
use Rattle.std.proofs.Common.{◌≡◌, ◌⊎◌, ℕ, zero, suc, ◌+◌, ◌-◌, ◌*◌, ◌/◌, ◌<◌, ◌≤◌, Bool, List, [], ◌∷◌, ◌++◌, length, get_or, map, take, drop, MatchOption, Some, None, refl, sym, ap, ap₂, ◌∙◌, subst, subst₂, inl, inr, arith, length-append, append-nil}
use Rattle.std.specs.Prelude.{is_none, if◌then◌else◌}
use Rattle.std.specs.declared.option.Option.{Option}
use Rattle.std.proofs.lemmas.Bool.{cases_lt, lt-ltb, le-ltb}
use Rattle.std.proofs.lemmas.Grind.{flat_map-append}
use Rattle.std.proofs.lemmas.List.{length-drop, take_all, take_more}
use Rattle.std.proofs.lemmas.List.FromFn.{length-map-range_with_len, get_or-map-range_with_len}
use Rattle.std.proofs.lemmas.List.Sums.{sum_by-append}
use Rattle.cdg_io.specs.Run.{give, run_gives, run_state}
use Rattle.bit_lists.specs.Counting.{below}
use Rattle.raw_subcode.specs.Channels.{program_symbols}
use Rattle.raw_subcode.specs.declared.form.Form.TheVariants.{Raw}
use Rattle.rw_interleave.specs.Gathering.{gathered, gather_next, gather_gives}
use Rattle.rw_interleave.specs.Interleave.{word_of, whole_packs}
use Rattle.rw_interleave.specs.Windows.{slots_after_block, words_from_block}
use Rattle.rw_interleave.proofs.Gathers.{gathers}
use Rattle.rw_interleave.specs.Stream.{bad_count}
use Rattle.rw_interleave.specs.Texts.{cdg_bytes, entry_bytes}
use Rattle.rw_merge.specs.Agreement.{IsAgreed, IsAgreement}
use Rattle.rw_merge.specs.Merging.{IsMerged, IsMergedText}
use Rattle.rw_merge.specs.Steps.{AreAgreements, leading_slots, window_after, words_after}
use Rattle.rw_merge.proofs.Slots.{length-slots, program_is, program_slots, slots_sized, slots_taken, slots_together}

-- ---- The results, one word after another.

pub agreements-append : (xs ys xs' ys' : List (List ℕ)) (fs fs' : List (Option (List ℕ)))
    → AreAgreements xs ys fs → AreAgreements xs' ys' fs'
    → AreAgreements (xs ++ xs') (ys ++ ys') (fs ++ fs')
unfolding AreAgreements
agreements-append [] [] xs' ys' [] fs' all more = more
agreements-append [] [] xs' ys' (f ∷ fs) fs' all more = absurd all
agreements-append [] (y ∷ ys) xs' ys' fs fs' all more = absurd all
agreements-append (x ∷ xs) [] xs' ys' fs fs' all more = absurd all
agreements-append (x ∷ xs) (y ∷ ys) xs' ys' [] fs' all more = absurd all
agreements-append (x ∷ xs) (y ∷ ys) xs' ys' (f ∷ fs) fs' all more =
    (all.0, agreements-append xs ys xs' ys' fs fs' all.1 more)

pub agreements-nil : AreAgreements [] [] []
unfolding AreAgreements
agreements-nil = tt

agreements_one : (x y : List ℕ) (f : Option (List ℕ)) → IsAgreement x y f
    → AreAgreements (x ∷ []) (y ∷ []) (f ∷ [])
unfolding AreAgreements
agreements_one x y f is = (is, tt)

length-agreements : (xs ys : List (List ℕ)) (fs : List (Option (List ℕ))) → AreAgreements xs ys fs
    → length fs ≡ length xs
unfolding AreAgreements
length-agreements [] [] [] all = refl
length-agreements [] [] (f ∷ fs) all = absurd all
length-agreements [] (y ∷ ys) fs all = absurd all
length-agreements (x ∷ xs) [] fs all = absurd all
length-agreements (x ∷ xs) (y ∷ ys) [] all = absurd all
length-agreements (x ∷ xs) (y ∷ ys) (f ∷ fs) all = ap suc (length-agreements xs ys fs all.1)

agreement_at : (xs ys : List (List ℕ)) (fs : List (Option (List ℕ))) (n : ℕ) → AreAgreements xs ys fs
    → n < length xs
    → IsAgreement (get_or xs n []) (get_or ys n []) (get_or fs n None)
unfolding AreAgreements
agreement_at [] ys fs n all lt = absurd (omega arith)
agreement_at (x ∷ xs) [] fs n all lt = absurd all
agreement_at (x ∷ xs) (y ∷ ys) [] n all lt = absurd all
agreement_at (x ∷ xs) (y ∷ ys) (f ∷ fs) zero all lt = all.0
agreement_at (x ∷ xs) (y ∷ ys) (f ∷ fs) (suc n) all lt = agreement_at xs ys fs n all.1 (omega arith)

pub agreement_of : (x y : List ℕ) (f : Option (List ℕ))
    → MatchOption f ((w : List ℕ) → ¬ IsAgreed x y w) (λ w. IsAgreed x y w)
    → IsAgreement x y f
agreement_of x y None is = is
agreement_of x y (Some w) is = is

pub text-append : (fs gs : List (Option (List ℕ))) → cdg_bytes (fs ++ gs) ≡ cdg_bytes fs ++ cdg_bytes gs
text-append fs gs = flat_map-append entry_bytes fs gs

pub bad-append : (fs gs : List (Option (List ℕ))) → bad_count (fs ++ gs) ≡ bad_count fs + bad_count gs
bad-append fs gs = sum_by-append _ fs gs

-- ---- Windows of both readings.

-- both windows complete a word, or neither does
gives_both : (w v : List (List ℕ)) (s t : List ℕ) → length w ≡ length v
    → ((gather_gives w s ≡ None) × (gather_gives v t ≡ None))
    ⊎ ((gather_gives w s ≡ Some (gathered (w ++ s ∷ [])))
    × (gather_gives v t ≡ Some (gathered (v ++ t ∷ []))))
unfolding gather_gives
gives_both w v s t same =
    elim (cases_lt (length w) 7) [
      | inl lt ↦
          inl (
            ap (λ (b : Bool). if b then None else Some (gathered (w ++ s ∷ []))) (lt-ltb (length w) 7 lt),
            ap (λ (b : Bool). if b then None else Some (gathered (v ++ t ∷ [])))
                (lt-ltb (length v) 7 (omega arith)),
          )
      | inr ge ↦
          inr (
            ap (λ (b : Bool). if b then None else Some (gathered (w ++ s ∷ []))) (le-ltb (length w) 7 ge),
            ap (λ (b : Bool). if b then None else Some (gathered (v ++ t ∷ [])))
                (le-ltb (length v) 7 (omega arith)),
          )
    ]

length-next : (w v : List (List ℕ)) (s t : List ℕ) → length w ≡ length v
    → length (gather_next w s) ≡ length (gather_next v t)
unfolding gather_next
length-next w v s t same =
    length-drop (length (w ++ s ∷ []) - 7) (w ++ s ∷ [])
    ∙ omega (
      arith,
      length-append w (s ∷ []),
      length-append v (t ∷ []),
      length-drop (length (v ++ t ∷ []) - 7) (v ++ t ∷ []),
    )

-- windows with equally many slots still have equally many after equally many more
pub length-window : (w v : List (List ℕ)) (slots others : List (List ℕ)) → length w ≡ length v
    → length slots ≡ length others
    → length (window_after w slots) ≡ length (window_after v others)
length-window w v [] [] same count = same
length-window w v [] (t ∷ ts) same count = absurd (omega arith)
length-window w v (s ∷ ss) [] same count = absurd (omega arith)
length-window w v (s ∷ ss) (t ∷ ts) same count =
    length-window (gather_next w s) (gather_next v t) ss ts (length-next w v s t same) (omega arith)

-- and equally many words end with these
pub length-words : (w v : List (List ℕ)) (slots others : List (List ℕ)) → length w ≡ length v
    → length slots ≡ length others
    → length (words_after w slots) ≡ length (words_after v others)
length-words w v [] [] same count = refl
length-words w v [] (t ∷ ts) same count = absurd (omega arith)
length-words w v (s ∷ ss) [] same count = absurd (omega arith)
length-words w v (s ∷ ss) (t ∷ ts) same count =
    let after : length (words_after (gather_next w s) ss) ≡ length (words_after (gather_next v t) ts) =
    length-words (gather_next w s) (gather_next v t) ss ts (length-next w v s t same) (omega arith) in
    elim (gives_both w v s t same) [
      | inl none ↦
          ap (λ o. length (give o (words_after (gather_next w s) ss))) none.0
          ∙ after
          ∙ sym (ap (λ o. length (give o (words_after (gather_next v t) ts))) none.1)
      | inr some ↦
          ap (λ o. length (give o (words_after (gather_next w s) ss))) some.0
          ∙ ap suc after
          ∙ sym (ap (λ o. length (give o (words_after (gather_next v t) ts))) some.1)
    ]

-- a window after a block
pub window_is : (w new : List (List ℕ)) (block : List ℕ) → length block ≡ 96 → new ≡ slots_after_block w block
    → new ≡ window_after w (leading_slots 4 block)
window_is w new block size is = is ∙ ap (run_state gather_next w) (slots_taken block size)

pub words_are_after : (w : List (List ℕ)) (block : List ℕ) → length block ≡ 96
    → words_from_block w block ≡ words_after w (leading_slots 4 block)
words_are_after w block size = ap (run_gives gather_next gather_gives w) (slots_taken block size)

-- ---- Word by word.

-- The results for the first i of the words that end with a pair of blocks.
pub record IsFoundTo (xs ys : List (List ℕ)) (i : ℕ) (text : List ℕ) (bad : ℕ) : Type 0 where
  pub found : List (Option (List ℕ))
  pub all : AreAgreements (take i xs) (take i ys) found
  pub text_is : text ≡ cdg_bytes found
  pub bad_is : bad ≡ bad_count found
  pub few : length found ≤ i

-- one more pair of words
pub found_next : (xs ys : List (List ℕ)) (i : ℕ) (text new : List ℕ) (bad more : ℕ) (f : Option (List ℕ))
    → IsFoundTo xs ys i text bad → i < length xs → i < length ys
    → IsAgreement (get_or xs i []) (get_or ys i []) f → new ≡ text ++ entry_bytes f
    → more ≡ bad + (if is_none f then 1 else 0)
    → IsFoundTo xs ys (i + 1) new more
found_next xs ys i text new bad more f before lt lt' agreement new_is more_is =
    let fs = before.found ++ f ∷ [] in
    record {
      found = fs;
      all =
          subst₂ (λ (us vs : List (List ℕ)). AreAgreements us vs fs) (sym (take_more xs i [] lt))
          (sym (take_more ys i [] lt'))
          (agreements-append _ _ (get_or xs i [] ∷ []) (get_or ys i [] ∷ []) before.found (f ∷ []) before.all
          (agreements_one (get_or xs i []) (get_or ys i []) f agreement));
      text_is =
          new_is
          ∙ ap (λ l. l ++ entry_bytes f) before.text_is
          ∙ sym (text-append before.found (f ∷ [])
          ∙ ap (λ l. cdg_bytes before.found ++ l) (append-nil (entry_bytes f)));
      bad_is =
          more_is
          ∙ ap (λ n. n + (if is_none f then 1 else 0)) before.bad_is
          ∙ sym (bad-append before.found (f ∷ []) ∙ omega arith);
      few = omega (arith, before.few, length-append before.found (f ∷ []));
    }

-- all pairs
pub found_whole : (xs ys : List (List ℕ)) (i : ℕ) (text : List ℕ) (bad : ℕ) → IsFoundTo xs ys i text bad
    → i ≡ length xs → length xs ≡ length ys → i ≤ 4
    → (found : List (Option (List ℕ)))
    × AreAgreements xs ys found
    × (text ≡ cdg_bytes found)
    × (bad ≡ bad_count found)
    × (length found ≤ 4)
found_whole xs ys i text bad done at same few = (
  done.found,
  subst₂ (λ (us vs : List (List ℕ)). AreAgreements us vs done.found) (take_all i xs (omega arith))
      (take_all i ys (omega arith)) done.all,
  done.text_is,
  done.bad_is,
  omega (arith, done.few, few),
)

-- ---- The text of whole readings.

-- the words that end with the slots of a program are those of its symbols
words_are : (lead_in blocks : ℕ) (bytes : List ℕ) → length bytes ≡ blocks * 96
    → words_after [] (leading_slots (4 * (blocks - lead_in)) (drop (lead_in * 96) bytes))
    ≡ map (word_of (program_symbols Raw bytes lead_in)) (below (whole_packs (blocks - lead_in)))
words_are lead_in blocks bytes size =
    let program = drop (lead_in * 96) bytes in
    let count = 4 * (blocks - lead_in) in
    let fits = program_slots lead_in blocks bytes size in
    gathers [] (leading_slots count program) (omega arith) (slots_sized count program fits)
    ∙ ap₂ (λ (l : List ℕ) (n : ℕ). map (word_of l) (below (n - 7)))
    (slots_together count program fits ∙ sym (program_is lead_in blocks bytes size))
    (length-slots count program)

pub merged_text : (lead_in blocks : ℕ) (first second : List ℕ) (found : List (Option (List ℕ)))
    → length first ≡ blocks * 96 → length second ≡ blocks * 96
    → AreAgreements (words_after [] (leading_slots (4 * (blocks - lead_in)) (drop (lead_in * 96) first)))
    (words_after [] (leading_slots (4 * (blocks - lead_in)) (drop (lead_in * 96) second))) found
    → IsMergedText lead_in first second (cdg_bytes found) (bad_count found)
merged_text lead_in blocks first second found size size' all =
    let many = blocks - lead_in in
    let count : length first / 96 - lead_in ≡ many = omega (arith, size) in
    let f = word_of (program_symbols Raw first lead_in) in
    let g = word_of (program_symbols Raw second lead_in) in
    let n_of : ℕ = whole_packs many in
    let agreements =
    subst₂ (λ (xs ys : List (List ℕ)). AreAgreements xs ys found) (words_are lead_in blocks first size)
    (words_are lead_in blocks second size') all in
    let long : length (map f (below n_of)) ≡ n_of = length-map-range_with_len f 0 n_of in
    let merged : IsMerged many (program_symbols Raw first lead_in) (program_symbols Raw second lead_in)
    found =
    record {
      count = length-agreements _ _ found agreements ∙ long;
      each = λ n lt.
          subst₂ (λ (x y : List ℕ). IsAgreement x y (get_or found n None))
          (get_or-map-range_with_len f 0 n_of n n [] lt (omega arith))
          (get_or-map-range_with_len g 0 n_of n n [] lt (omega arith))
          (agreement_at _ _ found n agreements (omega (arith, long, lt)));
    } in
    record {
      found = found;
      merged =
          subst
          (λ k. IsMerged k (program_symbols Raw first lead_in) (program_symbols Raw second lead_in) found)
          (sym count) merged;
      text_is = refl;
      bad_is = refl;
    }
