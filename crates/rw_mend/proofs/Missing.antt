-- The readings that lack graphics, and their candidates, word by word.
use Rattle.std.proofs.Common.{◌≡◌, ◌⊎◌, ℕ, ◌+◌, ◌-◌, ◌<◌, ◌≤◌, Bool, true, false, ◌||◌, List, [], ◌∷◌, ◌++◌, suc, length, length-append, below_more, get_or, refl, sym, ap, ◌∙◌, subst, inl, inr, arith}
use Rattle.std.specs.List.{list_any}
use Rattle.std.specs.Prelude.{◌&&◌, if◌then◌else◌, MatchBool, count_by}
use Rattle.std.proofs.lemmas.Bool.{cases_eq, false≢true}
use Rattle.std.proofs.lemmas.Bool.Decides.{leb_tells}
use Rattle.std.proofs.lemmas.List.{get_or_append_left}
use Rattle.std.proofs.Math.Seq.{get_or-append_seam}
use Rattle.std.proofs.lemmas.List.Sums.{count_by-le-length}
use Rattle.std.proofs.lemmas.List.Folds.{list_any_at}
use Rattle.rw_mend.proofs.Counting.{count_push}
use Rattle.rw_mend.specs.Choice.{candidate_of_reading}
use Rattle.rw_mend.specs.Drops.{IsDropCount, IsDropped, IsSaid, Lacks}
use Rattle.rw_mend.specs.Rows.{IsRow}
use Rattle.rw_mend.specs.Silences.{IsSilence, WillMiss, is_left, said_after}
use Rattle.rw_mend.specs.Candidates.{is_doubtful_candidate, is_idle_candidate, is_quiet_candidate}
use Rattle.rw_mend.specs.Words.{given_at}
use Rattle.rw_mend.specs.declared.silences.Silence.{Silence}
use Rattle.rw_mend.specs.declared.candidates.Candidate.{Candidate}
use Rattle.rw_mend.specs.declared.candidates.Candidate.TheVariants.{Silent, Lost, Near}

-- a Boolean is true or false
pub reported : (b : Bool) → (b ≡ true) ⊎ (b ≡ false)
reported true = inl refl
reported false = inr refl

either_true : (a b : Bool) → (a || b) ≡ true → a ≡ false → b ≡ true
either_true true b is fails = cc
either_true false b is fails = is

-- some element passes
pub some_passes : {X : Type 0} (p : X → Bool) (xs : List X) (d : X) → list_any p xs ≡ true
    → (k : ℕ) × (k < length xs) × (p (get_or xs k d) ≡ true)
some_passes p [] d is = absurd (false≢true is)
some_passes p (x ∷ xs) d is =
    elim (reported (p x)) [
      | inl passes ↦ (0, omega arith, passes)
      | inr fails ↦
          let later = some_passes p xs d (either_true (p x) (list_any p xs) is fails) in
          (suc later.0, omega (arith, later.1), later.2)
    ]

-- ---- Tests.

pub decided : (b : Bool) (A : Type 0) → (b ≡ true → A) → (b ≡ false → ¬ A) → MatchBool b A (¬ A)
decided true A holds fails = holds refl
decided false A holds fails = fails refl

-- the result of a test for a statement is the result for an equivalent one
pub match_other : (b : Bool) (A B : Type 0) → (A → B) → (B → A) → MatchBool b A (¬ A) → MatchBool b B (¬ B)
match_other true A B there back is = there is
match_other false A B there back is = λ other. is (back other)

pub match_true : (b : Bool) (A : Type 0) → b ≡ true → MatchBool b A (¬ A) → A
match_true true A is holds = holds
match_true false A is holds = absurd (false≢true is)

pub match_not : (b : Bool) (A : Type 0) → b ≡ false → MatchBool b A (¬ A) → ¬ A
match_not true A fails is = absurd (false≢true (sym fails))
match_not false A fails is = is

pub match_has : (b : Bool) (A : Type 0) → A → MatchBool b A (¬ A) → b ≡ true
match_has true A has is = refl
match_has false A has is = absurd (is has)

both : (a b : Bool) → a ≡ true → b ≡ true → (a && b) ≡ true
both true b is is' = is'
both false b is is' = is

both_of : (a b : Bool) → (a && b) ≡ true → (a ≡ true) × (b ≡ true)
both_of true b is = (refl, is)
both_of false b is = absurd (false≢true is)

pub either_of : (a b : Bool) → (a || b) ≡ true → (a ≡ true) ⊎ (b ≡ true)
either_of true b is = inl refl
either_of false b is = inr is

neither_of : (a b : Bool) → (a || b) ≡ false → (a ≡ false) × (b ≡ false)
neither_of true b is = absurd (false≢true (sym is))
neither_of false b is = (refl, is)

-- ---- Silences.

pub idle_is_quiet : (candidate : Candidate) → is_idle_candidate candidate ≡ true
    → is_quiet_candidate candidate ≡ true
idle_is_quiet Silent is = refl
idle_is_quiet (Lost word) is = is
idle_is_quiet (Near pack distance) is = is

lacks_on : (words : ℕ) (programs : List (List ℕ)) (r n : ℕ)
    → is_quiet_candidate (given_at programs r (n + 1)) ≡ true
    → Lacks words programs r n → Lacks words programs r (n + 1)
lacks_on words programs r n here was = record {
  word = was.word;
  within = was.within;
  quiet =
      λ k lt between.
      elim between [
        | inl after ↦ was.quiet k lt (inl (omega (arith, after.0), after.1))
        | inr before ↦
            elim (cases_eq k (n + 1)) [
              | inl same ↦ subst (λ j. is_quiet_candidate (given_at programs r j) ≡ true) (sym same) here
              | inr differs ↦ was.quiet k lt (inr (before.0, omega (arith, before.1, differs)))
            ]
      ];
  misses = was.misses;
}

lacks_back : (words : ℕ) (programs : List (List ℕ)) (r n : ℕ)
    → is_quiet_candidate (given_at programs r n) ≡ true
    → Lacks words programs r (n + 1) → Lacks words programs r n
lacks_back words programs r n here was = record {
  word = was.word;
  within = was.within;
  quiet =
      λ k lt between.
      elim between [
        | inl after ↦
            elim (cases_eq k n) [
              | inl same ↦ subst (λ j. is_quiet_candidate (given_at programs r j) ≡ true) (sym same) here
              | inr differs ↦ was.quiet k lt (inl (omega (arith, after.0, differs), after.1))
            ]
        | inr before ↦ was.quiet k lt (inr (before.0, omega (arith, before.1)))
      ];
  misses = was.misses;
}

will_lacks : (words : ℕ) (programs : List (List ℕ)) (r n : ℕ) → WillMiss words programs r n
    → Lacks words programs r n
will_lacks words programs r n will = record {
  word = will.word;
  within = will.within;
  quiet =
      λ k lt between.
      elim between [
        | inl after ↦ will.quiet k after.0 after.1
        | inr before ↦
            will.quiet k (omega (arith, before.0, before.1, will.from))
            (omega (arith, before.0, before.1, will.from))
      ];
  misses = will.misses;
}

lacks_will : (words : ℕ) (programs : List (List ℕ)) (r n : ℕ) → n < words
    → (0 < n → is_quiet_candidate (given_at programs r (n - 1)) ≡ false)
    → Lacks words programs r n → WillMiss words programs r n
lacks_will words programs r n lt begins lacks =
    elim (leb_tells n lacks.word) [
      | inl from ↦
          record {
            word = lacks.word;
            from = from.1;
            within = lacks.within;
            quiet =
                λ k after before. lacks.quiet k (omega (arith, before, lacks.within)) (inl (after, before));
            misses = lacks.misses;
          }
      | inr past ↦
          absurd (false≢true (sym (begins (omega (arith, past.1)))
          ∙ lacks.quiet (n - 1) (omega (arith, lt)) (inr (omega (arith, past.1), omega arith))))
    ]

silence_of : (words : ℕ) (programs : List (List ℕ)) (r n : ℕ) (silence : Silence)
    → (silence.quiet ≡ true → is_quiet_candidate (given_at programs r n) ≡ true)
    → (silence.quiet ≡ false → is_quiet_candidate (given_at programs r n) ≡ false)
    → (silence.quiet ≡ true → MatchBool silence.lacks (Lacks words programs r n) (¬ Lacks words programs r n))
    → IsSilence words programs r (n + 1) silence
silence_of words programs r n silence quiet loud lacks =
    let same : n ≡ n + 1 - 1 = omega arith in
    record {
      some = λ is. omega arith;
      quiet = λ is. subst (λ k. is_quiet_candidate (given_at programs r k) ≡ true) same (quiet is);
      loud = λ is some. subst (λ k. is_quiet_candidate (given_at programs r k) ≡ false) same (loud is);
      lacks =
          λ is.
          subst (λ k. MatchBool silence.lacks (Lacks words programs r k) (¬ Lacks words programs r k)) same
          (lacks is);
    }

pub loud_silence : (words : ℕ) (programs : List (List ℕ)) (r n : ℕ) (silence : Silence)
    → silence.quiet ≡ false
    → is_quiet_candidate (given_at programs r n) ≡ false → IsSilence words programs r (n + 1) silence
loud_silence words programs r n silence is loud =
    silence_of words programs r n silence (λ quiet. absurd (false≢true (sym is ∙ quiet))) (λ quiet. loud)
    (λ quiet. absurd (false≢true (sym is ∙ quiet)))

pub new_silence : (words : ℕ) (programs : List (List ℕ)) (r n : ℕ) (was silence : Silence) → n < words
    → IsSilence words programs r n was → was.quiet ≡ false → silence.quiet ≡ true
    → is_quiet_candidate (given_at programs r n) ≡ true
    → MatchBool silence.lacks (WillMiss words programs r n) (¬ WillMiss words programs r n)
    → IsSilence words programs r (n + 1) silence
new_silence words programs r n was silence lt before loud is quiet will =
    silence_of words programs r n silence (λ now. quiet) (λ now. absurd (false≢true (sym now ∙ is)))
    (λ now.
    match_other silence.lacks (WillMiss words programs r n) (Lacks words programs r n)
    (will_lacks words programs r n) (lacks_will words programs r n lt (before.loud loud)) will)

pub same_silence : (words : ℕ) (programs : List (List ℕ)) (r n : ℕ) (silence : Silence)
    → IsSilence words programs r n silence → silence.quiet ≡ true
    → is_quiet_candidate (given_at programs r n) ≡ true → IsSilence words programs r (n + 1) silence
same_silence words programs r n silence before is quiet =
    let m : ℕ = n - 1 in
    let next : m + 1 ≡ n = omega (arith, before.some is) in
    let here : is_quiet_candidate (given_at programs r (m + 1)) ≡ true =
    subst (λ k. is_quiet_candidate (given_at programs r k) ≡ true) (sym next) quiet in
    silence_of words programs r n silence (λ now. quiet) (λ now. absurd (false≢true (sym now ∙ is)))
    (λ now.
    subst (λ k. MatchBool silence.lacks (Lacks words programs r k) (¬ Lacks words programs r k)) next
    (match_other silence.lacks (Lacks words programs r m) (Lacks words programs r (m + 1))
    (lacks_on words programs r m here) (lacks_back words programs r m (before.quiet is)) (before.lacks is)))

-- ---- The candidates.

-- a reading that has the idle pack is quiet, and its silence decides whether it lacks graphics
idle_lacks : (words : ℕ) (programs : List (List ℕ)) (r n : ℕ) (silence : Silence)
    → IsSilence words programs r (n + 1) silence → is_idle_candidate (given_at programs r n) ≡ true
    → MatchBool silence.lacks (Lacks words programs r n) (¬ Lacks words programs r n)
idle_lacks words programs r n silence is idle =
    let same : n + 1 - 1 ≡ n = omega arith in
    let quiet : is_quiet_candidate (given_at programs r (n + 1 - 1)) ≡ true =
    subst (λ k. is_quiet_candidate (given_at programs r k) ≡ true) (sym same)
    (idle_is_quiet (given_at programs r n) idle) in
    elim (reported silence.quiet) [
      | inl now ↦
          subst (λ k. MatchBool silence.lacks (Lacks words programs r k) (¬ Lacks words programs r k)) same
          (is.lacks now)
      | inr loud ↦ absurd (false≢true (sym (is.loud loud (omega arith)) ∙ quiet))
    ]

-- whether the codeword of a reading does not count
pub left_is : (words : ℕ) (programs : List (List ℕ)) (r n : ℕ) (row : List Candidate) (silence : Silence)
    (given : Candidate) → length row ≡ length programs → IsRow programs n row
    → IsSilence words programs r (n + 1) silence → given ≡ given_at programs r n
    → MatchBool (is_left (list_any is_quiet_candidate row) silence given) (IsDropped words programs r n)
    (¬ IsDropped words programs r n)
left_is words programs r n row silence given size rows is given_is =
    let some : Bool = list_any is_quiet_candidate row in
    let lacking : Bool = silence.lacks && is_idle_candidate given in
    let doubted : Bool = some && is_doubtful_candidate given in
    decided (is_left some silence given) (IsDropped words programs r n)
    (λ left.
    elim (either_of lacking doubted left) [
      | inl lacks ↦
          let parts = both_of silence.lacks (is_idle_candidate given) lacks in
          let idle : is_idle_candidate (given_at programs r n) ≡ true =
          ap is_idle_candidate (sym given_is) ∙ parts.1 in
          inl (record {
            idle = idle;
            lacks =
                match_true silence.lacks (Lacks words programs r n) parts.0
                (idle_lacks words programs r n silence is idle);
          })
      | inr distance ↦
          let parts = both_of some (is_doubtful_candidate given) distance in
          let found = some_passes is_quiet_candidate row Silent parts.0 in
          let within : found.0 < length programs = omega (arith, size, found.1) in
          inr (record {
            doubtful = ap is_doubtful_candidate (sym given_is) ∙ parts.1;
            reading = found.0;
            within = within;
            quiet = ap is_quiet_candidate (sym (rows.each found.0 within)) ∙ found.2;
          })
    ])
    (λ stays dropped.
    let parts = neither_of lacking doubted stays in
    elim dropped [
      | inl lacking_is ↦
          false≢true (sym parts.0 ∙ both silence.lacks (is_idle_candidate given)
          (match_has silence.lacks (Lacks words programs r n) lacking_is.lacks
          (idle_lacks words programs r n silence is lacking_is.idle))
          (ap is_idle_candidate given_is ∙ lacking_is.idle))
      | inr doubted_is ↦
          let s : ℕ = doubted_is.reading in
          let within : s < length row = omega (arith, size, doubted_is.within) in
          let quiet : is_quiet_candidate (candidate_of_reading row s) ≡ true =
          ap is_quiet_candidate (rows.each s doubted_is.within) ∙ doubted_is.quiet in
          false≢true (sym parts.1 ∙ both some (is_doubtful_candidate given)
          (list_any_at is_quiet_candidate row s Silent within quiet)
          (ap is_doubtful_candidate given_is ∙ doubted_is.doubtful))
    ])

said_by_case : (words : ℕ) (programs : List (List ℕ)) (r n : ℕ) (given said : Candidate) (b : Bool)
    → MatchBool b (IsDropped words programs r n) (¬ IsDropped words programs r n)
    → given ≡ given_at programs r n → said ≡ (if b then Silent else given) → IsSaid words programs n r said
said_by_case words programs r n given said true is given_is is_said = inl (is, is_said)
said_by_case words programs r n given said false is given_is is_said = inr (is, is_said ∙ given_is)

-- the candidate of a reading
pub said_is : (words : ℕ) (programs : List (List ℕ)) (r n : ℕ) (row : List Candidate) (silence : Silence)
    (given said : Candidate) → length row ≡ length programs → IsRow programs n row
    → IsSilence words programs r (n + 1) silence → given ≡ given_at programs r n
    → said ≡ said_after (list_any is_quiet_candidate row) silence given → IsSaid words programs n r said
said_is words programs r n row silence given said size rows is given_is is_said =
    said_by_case words programs r n given said (is_left (list_any is_quiet_candidate row) silence given)
    (left_is words programs r n row silence given size rows is given_is) given_is is_said

-- one more mark
pub count_case : (b : Bool) (n : ℕ)
    → (n + (if b then 1 else 0)) ≡ n + count_by (λ (mark : Bool). mark) (b ∷ [])
count_case true n = refl
count_case false n = refl

pub dropped_more : (words : ℕ) (programs : List (List ℕ)) (r n count more : ℕ) (b : Bool)
    → MatchBool b (IsDropped words programs r n) (¬ IsDropped words programs r n)
    → more ≡ count + (if b then 1 else 0) → IsDropCount words programs r n count
    → IsDropCount words programs r (n + 1) more
dropped_more words programs r n count more b is more_is was =
    let marks : List Bool = was.marks ++ b ∷ [] in
    let here : get_or marks n false ≡ b =
    ap (λ m. get_or marks m false) (sym was.size) ∙ get_or-append_seam was.marks b [] false in
    let before : (k : ℕ) → k < n → get_or was.marks k false ≡ get_or marks k false =
    λ (k : ℕ) (lt : k < n).
    sym (get_or_append_left was.marks (b ∷ []) false k (omega (arith, lt, was.size))) in
    record {
      marks = marks;
      size = length-append was.marks (b ∷ []) ∙ omega (arith, was.size);
      each = below_more
          (λ k.
          MatchBool (get_or marks k false) (IsDropped words programs r k) (¬ IsDropped words programs r k)) n
          (λ k lt. subst (λ m. MatchBool m (IsDropped words programs r k) (¬ IsDropped words programs r k))
          (before k lt) (was.each k lt))
          (subst (λ m. MatchBool m (IsDropped words programs r n) (¬ IsDropped words programs r n)) (sym here)
          is);
      is = more_is ∙ ap (λ c. c + (if b then 1 else 0)) was.is
          ∙ count_case b (count_by (λ (mark : Bool). mark) was.marks)
          ∙ sym (count_push (λ (mark : Bool). mark) was.marks b);
    }

pub none_dropped : (words : ℕ) (programs : List (List ℕ)) (r count : ℕ) → count ≡ 0
    → IsDropCount words programs r 0 count
none_dropped words programs r count is = record {
  marks = [];
  size = refl;
  each = λ k lt. absurd (omega (arith, lt));
  is = is;
}

pub few_dropped : (words : ℕ) (programs : List (List ℕ)) (r n count : ℕ)
    → IsDropCount words programs r n count → count ≤ n
few_dropped words programs r n count is =
    omega (arith, is.size, is.is, count_by-le-length (λ (mark : Bool). mark) is.marks)
