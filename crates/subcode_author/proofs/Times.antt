-- Times in order, with one more picture.
use Rattle.std.proofs.Common.{◌≡◌, ◌⊎◌, ℕ, ◌+◌, ◌-◌, ◌<◌, ◌≤◌, List, [], ◌∷◌, ◌++◌, length, get_or, ap, sym, subst, ◌∙◌, inl, inr, arith}
use Rattle.std.specs.Prelude.{filter_map}
use Rattle.std.proofs.lemmas.Bool.{cases_lt}
use Rattle.std.proofs.lemmas.List.{length-append, get_or_append_left, get_or-append-add}
use Rattle.std.proofs.lemmas.List.Elements.{filter_map-append}
use Rattle.picture_script.specs.Script.{Drawing, shows, shown_times}
use Rattle.pack_schedule.specs.Shown.{AreTimesInOrder}

abbrev time_at : List (ℕ × ℕ) → ℕ → ℕ × ℕ
time_at times k = get_or {A = ℕ × ℕ} times k (0, 0)

-- each picture is held from its ready time on, and the next picture is ready later
pub record InOrder (times : List (ℕ × ℕ)) : Type 0 where
  pub held : (k : ℕ) → k < length times → (time_at times k).0 ≤ (time_at times k).1
  pub later : (k : ℕ) → k + 1 < length times → (time_at times k).1 < (time_at times (k + 1)).0

pub none_in_order : InOrder []
none_in_order = record { held = λ k lt. absurd (omega arith); later = λ k lt. absurd (omega arith) }

-- an earlier picture, or the last one
earlier_or_last : (times : List (ℕ × ℕ)) (time : ℕ × ℕ) (k : ℕ) → k < length (times ++ time ∷ [])
    → ((k < length times) × (time_at (times ++ time ∷ []) k ≡ time_at times k))
    ⊎ ((k ≡ length times) × (time_at (times ++ time ∷ []) k ≡ time))
earlier_or_last times time k lt =
    let size = length-append times (time ∷ []) in
    elim (cases_lt k (length times)) [
      | inl before ↦ inl (before, get_or_append_left {A = ℕ × ℕ} times (time ∷ []) (0, 0) k before)
      | inr past ↦
          let last : k ≡ length times = omega arith in
          let start : length times ≡ length times + 0 = omega arith in
          inr (
            last,
            ap (λ n. time_at (times ++ time ∷ []) n) (last ∙ start)
                ∙ get_or-append-add {A = ℕ × ℕ} times (time ∷ []) 0 (0, 0),
          )
    ]

pub one_more : (times : List (ℕ × ℕ)) (ready hold : ℕ) → InOrder times → ready ≤ hold
    → (0 < length times → (time_at times (length times - 1)).1 < ready)
    → InOrder (times ++ (ready, hold) ∷ [])
one_more times ready hold order lasts after = record {
  held = λ k lt. elim (earlier_or_last times (ready, hold) k lt) [
    | inl old ↦ subst (λ (t : ℕ × ℕ). t.0 ≤ t.1) (sym old.1) (order.held k old.0)
    | inr last ↦ subst (λ (t : ℕ × ℕ). t.0 ≤ t.1) (sym last.1) lasts
  ];
  later = λ k lt. elim (earlier_or_last times (ready, hold) (k + 1) lt) [
    | inl old ↦
        subst (λ (t : ℕ × ℕ). t.1 < (time_at (times ++ (ready, hold) ∷ []) (k + 1)).0)
        (sym (get_or_append_left {A = ℕ × ℕ} times ((ready, hold) ∷ []) (0, 0) k (omega (arith, old.0))))
        (subst (λ (t : ℕ × ℕ). (time_at times k).1 < t.0) (sym old.1) (order.later k old.0))
    | inr last ↦
        let before : length times - 1 ≡ k = omega (arith, last.0) in
        subst (λ (t : ℕ × ℕ). t.1 < (time_at (times ++ (ready, hold) ∷ []) (k + 1)).0)
        (sym (get_or_append_left {A = ℕ × ℕ} times ((ready, hold) ∷ []) (0, 0) k (omega (arith, last.0))))
        (subst (λ (t : ℕ × ℕ). (time_at times k).1 < t.0) (sym last.1)
        (subst (λ n. (time_at times n).1 < ready) before (after (omega (arith, last.0)))))
  ];
}

-- the times of a script with one more line
pub shows_more : (script : List Drawing) (line : Drawing)
    → shows (script ++ line ∷ []) ≡ shows script ++ filter_map shown_times (line ∷ [])
unfolding shows
shows_more script line = filter_map-append shown_times script (line ∷ [])

pub times_in_order : (script : List Drawing) → InOrder (shows script) → AreTimesInOrder script
times_in_order script order = record { held = order.held; later = order.later }
