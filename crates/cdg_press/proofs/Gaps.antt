-- The first track with a gap.
use Rattle.std.proofs.Common.{◌≡◌, ℕ, zero, suc, ◌<◌, ◌≤◌, ◌⊎◌, length, inl, inr, refl, sym, ap, subst, ◌∙◌, arith}
use Rattle.std.proofs.lemmas.Bool.{cases_lt}
use Rattle.cue_sheet.specs.CueSheet.{CueSheet, track_of}
use Rattle.cdg_press.specs.Refusals.{gaps_of, HasNoGap, IsFirstGap}

abbrev NoGapTo : CueSheet → ℕ → Type 0
NoGapTo sheet n = (k : ℕ) → k < n → gaps_of (track_of sheet k) ≡ 0

search_gap : (sheet : CueSheet) (n : ℕ) → n ≤ length sheet.tracks
    → NoGapTo sheet n ⊎ ((number : ℕ) × IsFirstGap sheet number)
search_gap sheet zero fits = inl (λ k lt. absurd (omega (arith, lt)))
search_gap sheet (suc n) fits = elim (search_gap sheet n (omega (arith, fits))) [
  | inr found ↦ inr found
  | inl none ↦ elim (cases_lt 0 (gaps_of (track_of sheet n))) [
    | inl some ↦ inr ((track_of sheet n).number, (n, omega (arith, fits), some, refl, none))
    | inr zero_gap ↦ inl (λ k lt. elim (cases_lt k n) [
      | inl less ↦ none k less
      | inr last ↦
          let here : n ≡ k = omega (arith, lt, last) in
          let gap : gaps_of (track_of sheet n) ≡ 0 = omega (arith, zero_gap) in
          subst (λ j. gaps_of (track_of sheet j) ≡ 0) here gap
    ])
  ]
]

-- a sheet has a first gap or none
pub first_gap : (sheet : CueSheet) → HasNoGap sheet ⊎ ((number : ℕ) × IsFirstGap sheet number)
first_gap sheet = search_gap sheet (length sheet.tracks) (omega arith)

pub one_first_gap : (sheet : CueSheet) (number other : ℕ) → IsFirstGap sheet number → IsFirstGap sheet other
    → number ≡ other
one_first_gap sheet number other is is' = elim (cases_lt is.0 is'.0) [
  | inl less ↦ absurd (omega (arith, is.2, is'.4 is.0 less))
  | inr from ↦ elim (cases_lt is'.0 is.0) [
    | inl less ↦ absurd (omega (arith, is'.2, is.4 is'.0 less))
    | inr to ↦
        let same : is.0 ≡ is'.0 = omega (arith, from, to) in
        is.3 ∙ ap (λ k. (track_of sheet k).number) same ∙ sym is'.3
  ]
]
