-- No list that draws a picture is shorter than its change.
use Rattle.std.proofs.Common.{◌≡◌, ℕ, zero, suc, ◌+◌, ◌-◌, ◌*◌, ◌<◌, ◌≤◌, Bool, cond, List, [], ◌∷◌, length, refl, inl, inr, ap, ap₂, sym, ◌∙◌, subst, arith}
use Rattle.std.proofs.lemmas.Bool.{cases_lt}
use Rattle.std.specs.Prelude.{count_by, reverse}
use Rattle.std.specs.declared.option.Option.{Option}
use Rattle.std.proofs.lemmas.List.{length-reverse}
use Rattle.raw_subcode.specs.Sizes.{slots_a_block}
use Rattle.rw_interleave.specs.Interleave.{packs_kept_back, whole_packs}
use Rattle.cdg_instructions.specs.declared.instr.Instr.{Instr}
use Rattle.cdg_screen.specs.Standing.{Standing, blank, pixel_at, rows_of, sixteen}
use Rattle.cdg_screen.proofs.Lists.{pixel_of_rows, number_of_sixteen}
use Rattle.picture_script.specs.Script.{Drawing, pictures, ready_time, hold_time, picture_border, picture_colour, picture_pixel}
use Rattle.pack_schedule.specs.Change.{IsChangeFrom, IsOrderedChange, IsStart}
use Rattle.pack_schedule.specs.Schedule.{IsLate, start_of}
use Rattle.pack_schedule.specs.PlannedChange.{planned_from, planned_length}
use Rattle.pack_schedule.proofs.PlannedLaws.{PlansAreShortest}
use Rattle.pack_schedule.specs.Shown.{AreTimesInOrder}
use Rattle.pack_schedule.specs.Brings.{Brings, IsBefore, IsNeed, sets_memory}
use Rattle.pack_schedule.proofs.ScheduleOrder.{in_window}
use Rattle.pack_schedule.proofs.Own.{preset_in}
use Rattle.pack_schedule.proofs.Counted.{count-reverse, total, start_allowed}
use Rattle.pack_schedule.proofs.SettingCounts.{settings_needed}
use Rattle.pack_schedule.proofs.SettingPlaces.{still, tiles_needed}

-- the facts about changes with a start, and about the planned change
pub record ChangesAreKnown : Type 0 where
  pub planned : (script : List Drawing) (k : ℕ) (start : Option ℕ)
      → ((k x y : ℕ) → picture_pixel script k x y < 16) → IsStart k start
      → IsChangeFrom script k start (planned_from script k start)
  pub length : (script : List Drawing) (k : ℕ) (start : Option ℕ) (instrs : List Instr)
      → ((k x y : ℕ) → picture_pixel script k x y < 16) → IsChangeFrom script k start instrs
      → length instrs ≡ planned_length script k start

module _ (plans : PlansAreShortest) (script : List Drawing) (k : ℕ)
    (small : (k x y : ℕ) → picture_pixel script k x y < 16) (now : Standing) (instrs : List Instr)
    (is : IsBefore script k now) (brings : Brings script k now instrs) where
  abbrev start : Option ℕ
  start = preset_in (reverse instrs)

  allowed : IsStart k start
  allowed =
      start_allowed k (reverse instrs) (still plans script k small now instrs is brings)
      (λ first. omega (arith, (brings.sets first).memory, count-reverse sets_memory instrs))

  -- the list is at least as long as the planned change with the same start
  as_long : planned_length script k start ≤ length instrs
  unfolding planned_length
  as_long =
      omega (
        arith,
        total (reverse instrs),
        settings_needed script k now instrs is brings,
        tiles_needed plans script k small now instrs is brings start refl allowed,
        length-reverse instrs,
      )

  pub not_shorter : ChangesAreKnown → (change : List Instr) → IsOrderedChange script k change
      → length change ≤ length instrs
  not_shorter known change shortest =
      let planned = known.planned script k start small allowed in
      let one = shortest.shortest start (planned_from script k start) planned in
      let two = known.length script k start (planned_from script k start) small planned in
      omega (arith, one, two, as_long)

-- ---- a picture needs only one number of packs

-- a screen that shows a picture
standing : List Drawing → ℕ → Standing
standing script k = record {
  memory = rows_of (λ x y. picture_pixel script k (x - 6) (y - 12));
  border = picture_border script k;
  colours = sixteen (picture_colour script k);
  levels = sixteen (λ n. 0);
  h = 0;
  v = 0;
}

stands : (script : List Drawing) (k : ℕ) → IsBefore script (suc k) (standing script k)
unfolding standing
stands script k = (
  record {
    pixels = λ x y xs ys.
        let across : x + 6 + 0 - 6 ≡ x = omega arith in
        let down : y + 12 + 0 - 12 ≡ y = omega arith in
        ap (λ t. cond t
        (pixel_at (rows_of (λ x y. picture_pixel script k (x - 6) (y - 12))) (x + 6 + 0) (y + 12 + 0))
        (picture_border script k)) (in_window x y xs ys)
        ∙ pixel_of_rows (λ x y. picture_pixel script k (x - 6) (y - 12)) (x + 6 + 0) (y + 12 + 0)
        (omega (arith, xs)) (omega (arith, ys))
        ∙ ap₂ (picture_pixel script k) across down;
    border = refl;
    colours = λ n lt. number_of_sixteen (picture_colour script k) n lt;
  },
  (refl, refl),
)

-- some standing is allowed before each picture
may_stand : (script : List Drawing) (k : ℕ) → (now : Standing) × IsBefore script k now
may_stand script zero = (blank, (refl, refl))
may_stand script (suc k) = (standing script k, stands script k)

-- two changes for a picture have the same length
pub one_need : (script : List Drawing) (k need other : ℕ) → IsNeed script k need → IsNeed script k other
    → need ≡ other
one_need script k need other (instrs, change, count) (instrs', change', count') =
    let (now, before) = may_stand script k in
    omega (
      arith,
      count,
      count',
      change.shortest now instrs' before (change'.brings now before),
      change'.shortest now instrs before (change.brings now before),
    )

-- a late picture needs more packs than are free
free_few : (start ready need : ℕ) → (start + need + packs_kept_back ≤ slots_a_block * ready → ⊥)
    → start + packs_kept_back ≤ slots_a_block * ready → whole_packs ready - start < need
free_few start ready need late room =
    elim (cases_lt (slots_a_block * ready) (start + need + packs_kept_back)) [
      | inl less ↦ omega (arith, less, room)
      | inr in_time ↦ absurd (late in_time)
    ]

first_few : (ready need : ℕ) → (0 + need + packs_kept_back ≤ slots_a_block * ready → ⊥) → 0 < need
    → whole_packs ready - 0 < need
first_few ready need late some = elim (cases_lt (slots_a_block * ready) (0 + need + packs_kept_back)) [
  | inl less ↦ omega (arith, less, some)
  | inr in_time ↦ absurd (late in_time)
]

-- the first picture needs packs, because its change sets everything
some_set : (test : Instr → Bool) (instrs : List Instr) → 0 < count_by test instrs → 0 < length instrs
some_set test [] some = absurd (omega (arith, some))
some_set test (instr ∷ instrs) some = omega arith

first_needs : (script : List Drawing) (need : ℕ) → IsNeed script 0 need → 0 < need
first_needs script need (instrs, change, count) =
    let (now, before) = may_stand script 0 in
    omega (arith, some_set sets_memory instrs ((change.brings now before).sets refl).memory, count)

pub late_needs_more : (script : List Drawing) (k need free : ℕ) → AreTimesInOrder script
    → IsLate script k need free → free < need
late_needs_more script zero need free order late =
    omega (
      arith,
      late.free_is,
      first_few (ready_time script 0) need late.late (first_needs script need late.need_is),
    )
late_needs_more script (suc k) need free order late =
    let (n, is, earlier) = late.before k (omega arith) in
    let held = order.held k (omega (arith, late.picture)) in
    let next : suc k ≡ k + 1 = omega arith in
    let later : hold_time script k < ready_time script (suc k) =
    subst (λ n. hold_time script k < ready_time script n) (sym next)
    (order.later k (subst (λ n. n < pictures script) next late.picture)) in
    let room : start_of script (suc k) + packs_kept_back ≤ slots_a_block * ready_time script (suc k) =
    omega (arith, earlier, held, later) in
    omega
    (arith, late.free_is, free_few (start_of script (suc k)) (ready_time script (suc k)) need late.late room)
