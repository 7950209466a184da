-- The first late picture.
use Rattle.std.proofs.Common.{◌≡◌, ℕ, zero, suc, ◌+◌, ◌*◌, ◌<◌, ◌⊎◌, List, length, refl, inl, inr, subst, arith}
use Rattle.std.proofs.lemmas.Bool.{cases_lt}
use Rattle.picture_script.specs.Script.{Drawing, pictures, ready_time, picture_pixel}
use Rattle.pack_schedule.specs.Brings.{IsChange, IsNeed}
use Rattle.pack_schedule.specs.Shown.{AreColoursInRange}
use Rattle.subcode_author.specs.AuthorAnswer.{AreReady}
use Rattle.pack_schedule.specs.Schedule.{start_of, IsInTime, CanBeReady, free_packs, IsLate}
use Rattle.pack_schedule.specs.PlannedChange.{planned_change}
use Rattle.pack_schedule.proofs.Shortest.{one_need}

-- picture k is in time with its planned change
abbrev pub IsPrompt : List Drawing → ℕ → Type 0
IsPrompt script k = IsInTime script k (length (planned_change script k))

prompt_or_not : (script : List Drawing) (k : ℕ) → IsPrompt script k ⊎ (¬ IsPrompt script k)
prompt_or_not script k =
    elim (cases_lt (4 * ready_time script k) (start_of script k + length (planned_change script k) + 7)) [
      | inl less ↦ inr (λ h. omega (arith, less, h))
      | inr enough ↦ inl enough
    ]

-- the first n pictures are in time, or one of them is the first that is not
pub first_late : (script : List Drawing) (n : ℕ)
    → ((j : ℕ) → j < n → IsPrompt script j)
    ⊎ ((k : ℕ) × (k < n) × (¬ IsPrompt script k) × ((j : ℕ) → j < k → IsPrompt script j))
first_late script zero = inl (λ j lt. absurd (omega (arith, lt)))
first_late script (suc n) =
    elim (first_late script n) [
      | inl before ↦ elim (prompt_or_not script n) [
        | inl prompt ↦ inl (λ j lt. elim (cases_lt j n) [
          | inl less ↦ before j less
          | inr last ↦ (let here : n ≡ j = omega (arith, lt, last) in subst (IsPrompt script) here prompt)
        ])
        | inr late ↦ inr (n, omega arith, late, before)
      ]
      | inr found ↦ inr (found.0, omega (arith, found.1), found.2, found.3)
    ]

-- the planned change of a picture is a change for it, each need is its length, and a picture has one need
pub record NeedsAreKnown : Type 0 where
  pub change : (script : List Drawing) (k : ℕ) → AreColoursInRange script
      → ((k x y : ℕ) → picture_pixel script k x y < 16)
      → IsChange script k (planned_change script k)
  pub planned : (script : List Drawing) (k need : ℕ) → AreColoursInRange script
      → ((k x y : ℕ) → picture_pixel script k x y < 16) → IsNeed script k need
      → need ≡ length (planned_change script k)
  pub one : (script : List Drawing) (k need other : ℕ) → IsNeed script k need → IsNeed script k other
      → need ≡ other

module _ (needs : NeedsAreKnown) (script : List Drawing) (ranges : AreColoursInRange script)
    (small : (k x y : ℕ) → picture_pixel script k x y < 16) where
  -- a picture that is in time with its planned change can be ready
  prompt_is_ready : (k : ℕ) → IsPrompt script k → CanBeReady script k
  prompt_is_ready k prompt = (
    length (planned_change script k),
    (planned_change script k, needs.change script k ranges small, refl),
    prompt,
  )

  pub is_late : (k : ℕ) → k < pictures script → ¬ IsPrompt script k → ((j : ℕ) → j < k → IsPrompt script j)
      → IsLate script k (length (planned_change script k)) (free_packs script k)
  is_late k lt late before = record {
    picture = lt;
    need_is = (planned_change script k, needs.change script k ranges small, refl);
    free_is = refl;
    late = late;
    before = λ j j_lt. prompt_is_ready j (before j j_lt);
  }

  pub all_ready : ((j : ℕ) → j < pictures script → IsPrompt script j) → AreReady script
  all_ready prompt k lt = prompt_is_ready k (prompt k lt)

-- a picture that can be ready is not late
pub ready_not_late : (script : List Drawing) (k need free : ℕ) → CanBeReady script k
    → IsLate script k need free
    → ⊥
ready_not_late script k need free (n, one, prompt) is =
    is.late (subst (IsInTime script k) (one_need script k n need one is.need_is) prompt)

-- the first late picture is unique
pub one_is_late : (script : List Drawing) (k need free k' need' free' : ℕ) → IsLate script k need free
    → IsLate script k' need' free' → k ≡ k'
one_is_late script k need free k' need' free' is is' = elim (cases_lt k k') [
  | inl less ↦ absurd (ready_not_late script k need free (is'.before k less) is)
  | inr from ↦ elim (cases_lt k' k) [
    | inl less ↦ absurd (ready_not_late script k' need' free' (is.before k' less) is')
    | inr other ↦ omega (arith, from, other)
  ]
]
