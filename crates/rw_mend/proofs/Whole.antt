-- Every codeword of an error-free reading is chosen, also if idle blocks of it count as unread.
use Rattle.std.proofs.Common.{◌≡◌, ℕ, ◌<◌, true, List, [], length, get_or, refl, sym, ap, ◌∙◌, subst, subst₂, inl, inr, arith, Some, None}
use Rattle.std.specs.declared.option.Option.{Option}
use Rattle.std.proofs.lemmas.Bool.{false≢true}
use Rattle.std.proofs.lemmas.List.Folds.{list_any_at}
use Rattle.rw_code.specs.Packs.{idle_pack}
use Rattle.rw_mend.specs.Choice.{AreAgreed, IsMendedBy, IsMending, is_near, candidate_of_reading}
use Rattle.rw_mend.specs.Drops.{AreCandidates, IsDropped, IsSaid}
use Rattle.rw_mend.specs.Laws.{IsErrorFreeBeside, given_text, candidate_bytes}
use Rattle.rw_mend.specs.Streams.{AreMended, mended_bytes, mended_text}
use Rattle.rw_mend.specs.Candidates.{is_doubtful_candidate, is_graphics_candidate, is_idle_pack, is_idle_candidate, is_quiet_candidate}
use Rattle.rw_mend.specs.Words.{given_at}
use Rattle.rw_mend.specs.declared.choice.Mended.{Mended}
use Rattle.rw_mend.specs.declared.choice.WordSource.{WordSource}
use Rattle.rw_mend.specs.declared.choice.WordSource.TheVariants.{Reading, Agreed}
use Rattle.rw_mend.specs.declared.candidates.Candidate.{Candidate}
use Rattle.rw_mend.specs.declared.candidates.Candidate.TheVariants.{Silent, Lost, Near}
use Rattle.rw_mend.proofs.Alone.{counted}
use Rattle.rw_mend.proofs.Clean.{clean_wins, pack_of}
use Rattle.rw_mend.proofs.Givens.{given_codeword}
use Rattle.rw_mend.proofs.Kept.{clean_graphics, clean_sure, doubtful_are, each_text, idle_is, lacking_here, said_kept, zeros_are}
use Rattle.rw_mend.proofs.Missing.{reported}
use Rattle.rw_mend.proofs.Once.{best_counts}

-- a quiet candidate is never doubtful
quiet_sure : (candidate : Candidate) → is_quiet_candidate candidate ≡ true
    → ¬ (is_doubtful_candidate candidate ≡ true)
quiet_sure candidate quiet doubtful =
    let odd = doubtful_are candidate doubtful in
    false≢true (sym odd.3 ∙ ap is_quiet_candidate (sym odd.2) ∙ quiet)

-- a candidate of an error-free reading that is the idle pack is its own codeword
own_idle : (words : ℕ) (programs : List (List ℕ)) (r m : ℕ) (is : IsErrorFreeBeside words programs r)
    → m < words → is_idle_candidate (given_at programs r m) ≡ true → is_idle_pack (is.codeword m) ≡ true
own_idle words programs r m is lt idle =
    elim (is.whole m lt) [
      | inl clean ↦ ap is_idle_candidate (sym clean) ∙ idle
      | inr unread ↦ ap is_idle_pack unread.1 ∙ idle_is
    ]

-- no codeword of an error-free reading is dropped
free_kept : (words : ℕ) (programs : List (List ℕ)) (r n : ℕ) → IsErrorFreeBeside words programs r → n < words
    → ¬ IsDropped words programs r n
free_kept words programs r n is lt (inl lacking) =
    let m : ℕ = lacking.lacks.word in
    let misses = lacking.lacks.misses in
    let within : m < words = lacking.lacks.within in
    false≢true
    (sym (is.quiet m misses.graphics.reading within misses.graphics.within
    (own_idle words programs r m is within misses.idle))
    ∙ misses.graphics.graphics)
free_kept words programs r n is lt (inr doubted) =
    elim (is.whole n lt) [
      | inl clean ↦ clean_sure (is.codeword n) (ap is_doubtful_candidate (sym clean) ∙ doubted.doubtful)
      | inr unread ↦ quiet_sure (given_at programs r n) unread.0 doubted.doubtful
    ]

-- beside an error-free reading, another error-free candidate is the same codeword
free_clean : (words : ℕ) (programs : List (List ℕ)) (r n s : ℕ) (candidate : Candidate) (other : List ℕ)
    (is : IsErrorFreeBeside words programs r) → n < words → s < length programs
    → given_at programs r n ≡ Near (is.codeword n) 0 → IsSaid words programs n s candidate
    → candidate ≡ Near other 0 → other ≡ is.codeword n
free_clean words programs r n s candidate other is lt within clean said near =
    let given = counted words programs n s candidate other 0 said near in
    elim (is.others n s other lt within given.1) [
      | inl same ↦ same
      | inr zeros ↦
          elim (reported (is_idle_pack (is.codeword n))) [
            | inl idle ↦
                zeros
                ∙ sym (zeros_are (is.codeword n) (given_codeword programs r n (is.codeword n) 0 clean) idle)
            | inr busy ↦
                absurd
                (given.0 (inl (lacking_here words programs s n lt
                (ap is_idle_candidate given.1 ∙ ap is_idle_pack zeros ∙ idle_is) (record {
                  reading = r;
                  within = is.within;
                  graphics = ap is_graphics_candidate clean ∙ clean_graphics (is.codeword n) busy;
                }))))
          ]
    ]

-- the codeword of a quiet candidate is the idle pack
quiet_bytes : (programs : List (List ℕ)) (r n : ℕ) (candidate : Candidate) → candidate ≡ given_at programs r n
    → is_quiet_candidate candidate ≡ true → candidate_bytes candidate ≡ idle_pack
quiet_bytes programs r n Silent same quiet = refl
quiet_bytes programs r n (Lost word) same quiet = absurd (false≢true quiet)
quiet_bytes programs r n (Near pack distance) same quiet =
    zeros_are pack (given_codeword programs r n pack distance (sym same)) quiet

not_silent : (one : Candidate) (codeword : List ℕ) → ¬ AreAgreed one Silent codeword
not_silent Silent codeword agreed = agreed
not_silent (Lost word) codeword agreed = agreed
not_silent (Near pack distance) codeword agreed = agreed

-- two candidates that agree are the candidates of their readings
lost_agreed : (words : ℕ) (programs : List (List ℕ)) (n s t : ℕ) (one other : Candidate) (codeword : List ℕ)
    → IsSaid words programs n s one → IsSaid words programs n t other → AreAgreed one other codeword
    → ¬ ¬ AreAgreed (given_at programs s n) (given_at programs t n) codeword
lost_agreed words programs n s t one other codeword (inl (dropped, silent)) there agreed none =
    subst (λ v. AreAgreed v other codeword) silent agreed
lost_agreed words programs n s t one other codeword (inr (kept, given)) (inl (dropped, silent)) agreed none =
    not_silent one codeword (subst (λ v. AreAgreed one v codeword) silent agreed)
lost_agreed words programs n s t one other codeword (inr (kept, given)) (inr (kept', given')) agreed none =
    none (subst₂ (λ a b. AreAgreed a b codeword) given given' agreed)

-- no two readings agree at a word at which the error-free reading is quiet
no_agreement : (words : ℕ) (programs : List (List ℕ)) (r n : ℕ) (candidates : List Candidate)
    (codeword : List ℕ)
    (own : Candidate) → own ≡ given_at programs r n → IsErrorFreeBeside words programs r → n < words
    → is_quiet_candidate own ≡ true → AreCandidates words programs n candidates
    → ¬ IsMendedBy Agreed candidates codeword
no_agreement words programs r n candidates codeword (Lost word) same is lt quiet are by = false≢true quiet
no_agreement words programs r n candidates codeword (Near pack distance) same is lt quiet are by =
    let here : candidate_of_reading candidates r ≡ Near pack distance =
    said_kept words programs n r (candidate_of_reading candidates r) (are.each r is.within)
    (free_kept words programs r n is lt) ∙ sym same in
    let near : is_near (candidate_of_reading candidates r) ≡ true = ap is_near here in
    false≢true
    (sym by.0 ∙ list_any_at is_near candidates r Silent (omega (arith, is.within, are.count)) near)
no_agreement words programs r n candidates codeword Silent same is lt quiet are by =
    let pair = by.1.agreed in
    let s : ℕ = by.1.one in
    let t : ℕ = by.1.other in
    let within : t < length programs = omega (arith, pair.within, are.count) in
    let first : s < length programs = omega (arith, pair.before, within) in
    lost_agreed words programs n s t (candidate_of_reading candidates s) (candidate_of_reading candidates t)
    codeword
    (are.each s first) (are.each t within) pair.agreed
    (is.alone n s t codeword lt (sym same))

-- at such a word, only the idle pack can be the result
quiet_found : (words : ℕ) (programs : List (List ℕ)) (r n : ℕ) (candidates : List Candidate)
    (source : WordSource)
    (codeword : List ℕ) → IsErrorFreeBeside words programs r → n < words
    → is_quiet_candidate (given_at programs r n) ≡ true → AreCandidates words programs n candidates
    → IsMendedBy source candidates codeword → codeword ≡ idle_pack
quiet_found words programs r n candidates (Reading k) codeword is lt quiet are by =
    let near = best_counts candidates k by.0 in
    let within : k < length programs = omega (arith, by.0.within, are.count) in
    let given =
    counted words programs n k (candidate_of_reading candidates k) near.0 near.1 (are.each k within) near.2 in
    sym (pack_of (candidate_of_reading candidates k) near.0 codeword near.1 near.2 by.1)
    ∙ is.unsure n k near.0 near.1 lt within quiet given.0 given.1
quiet_found words programs r n candidates Agreed codeword is lt quiet are by =
    absurd
    (no_agreement words programs r n candidates codeword (given_at programs r n) refl is lt quiet are by)

quiet_mended : (words : ℕ) (programs : List (List ℕ)) (r n : ℕ) (candidates : List Candidate)
    (found : Option Mended)
    → IsErrorFreeBeside words programs r → n < words → is_quiet_candidate (given_at programs r n) ≡ true
    → AreCandidates words programs n candidates → IsMending candidates found → mended_bytes found ≡ idle_pack
quiet_mended words programs r n candidates None is lt quiet are mended = refl
quiet_mended words programs r n candidates (Some mended) is lt quiet are by =
    quiet_found words programs r n candidates mended.source mended.pack is lt quiet are by

free_word : (words : ℕ) (programs : List (List ℕ)) (r n : ℕ) (candidates : List Candidate)
    (found : Option Mended)
    (is : IsErrorFreeBeside words programs r) → n < words → AreCandidates words programs n candidates
    → IsMending candidates found → mended_bytes found ≡ candidate_bytes (given_at programs r n)
free_word words programs r n candidates found is lt said mended =
    elim (is.whole n lt) [
      | inl clean ↦
          let here : candidate_of_reading candidates r ≡ Near (is.codeword n) 0 =
          said_kept words programs n r (candidate_of_reading candidates r) (said.each r is.within)
          (free_kept words programs r n is lt) ∙ clean in
          clean_wins candidates r (is.codeword n) found (omega (arith, is.within, said.count)) here
          (λ s other inside near.
          let within : s < length programs = omega (arith, inside, said.count) in
          free_clean words programs r n s (candidate_of_reading candidates s) other is lt within clean
          (said.each s within)
          near)
          mended
          ∙ ap candidate_bytes (sym clean)
      | inr unread ↦
          quiet_mended words programs r n candidates found is lt unread.0 said mended
          ∙ sym (quiet_bytes programs r n (given_at programs r n) refl unread.0)
    ]

pub free_text : (words : ℕ) (programs : List (List ℕ)) (r : ℕ) (said : List (List Candidate))
    (found : List (Option Mended)) → IsErrorFreeBeside words programs r → AreMended words programs said found
    → mended_text found ≡ given_text words programs r
free_text words programs r said found is mended =
    each_text words programs r found mended.count (λ n lt.
    free_word words programs r n (get_or said n []) (get_or found n None) is lt (mended.candidates n lt)
    (mended.each n lt))
