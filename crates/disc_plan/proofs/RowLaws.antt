-- Rows that are written one after another.
use Rattle.std.proofs.Common.{◌≡◌, ℕ, suc, ◌+◌, ◌<◌, ◌≤◌, Bool, true, false, List, [], ◌∷◌, length, take, drop, get_or, refl, ap, sym, subst, ◌∙◌, inl, inr, arith}
use Rattle.std.specs.Prelude.{count_by, nat_lt, slice_set, if◌then◌else◌}
use Rattle.std.proofs.Math.Seq.{drop-cons}
use Rattle.std.proofs.lemmas.Bool.{cases_lt}
use Rattle.std.proofs.lemmas.Bool.Decides.{nat_tests}
use Rattle.std.proofs.lemmas.List.{drop-set-lt, get_or-set_other, get_or-set_same, length-drop, length-set, take-set}
use Rattle.std.proofs.lemmas.List.Sums.{count_by_more_no, count_by_more_yes}
use Rattle.picture_script.specs.Script.{Drawing, pictures}
use Rattle.pack_schedule.specs.Plans.{IsPlanRow}
use Rattle.pack_schedule.specs.declared.planner.PlanRow.{PlanRow}
use Rattle.disc_plan.specs.PictureRows.{is_late, no_disc_row, planned_row, ArePlannedRows, IsPlannedRow}
use Rattle.disc_plan.specs.declared.picture_rows.PlannedRow.{PlannedRow}

-- The rows of the first k pictures are written, and `late` of them are late; `lines` belong to the other pictures.
-- The rows behind the last picture are unchanged.
pub record IsWriting (script : List Drawing) (all : List ℕ) (before : List PlannedRow) (k : ℕ)
    (lines : List ℕ) (rows : List PlannedRow) (late : ℕ) : Type 0 where
  pub lines_are : lines ≡ drop k all
  pub rows_are : ArePlannedRows script all k rows
  pub size : length rows ≡ length before
  pub rest : drop (pictures script) rows ≡ drop (pictures script) before
  pub late_is : late ≡ count_by is_late (take k rows)
  pub late_most : late ≤ k

pub none_written : (script : List Drawing) (all : List ℕ) (rows : List PlannedRow) (lines : List ℕ)
    → lines ≡ all
    → IsWriting script all rows 0 lines rows 0
none_written script all rows lines is = record {
  lines_are = is;
  rows_are = λ k lt. absurd (omega (arith, lt));
  size = refl;
  rest = refl;
  late_is = refl;
  late_most = omega arith;
}

-- the first of the other lines is the line of picture k
line_at : (all lines : List ℕ) (k line : ℕ) → k < length all → line ∷ lines ≡ drop k all
    → (line ≡ get_or all k 0) × (lines ≡ drop (suc k) all)
line_at all lines k line lt is =
    let both : line ∷ lines ≡ get_or all k 0 ∷ drop (suc k) all = is ∙ drop-cons all k 0 lt in (cc, cc)

late_reported : (line : ℕ) (plan : PlanRow) (b : Bool) → plan.late ≡ b → is_late (planned_row line plan) ≡ b
late_reported line plan true is = ap (λ b. is_late (planned_row line (record plan { late = b }))) is
late_reported line plan false is = ap (λ b. is_late (planned_row line (record plan { late = b }))) is

module _ (script : List Drawing) (all : List ℕ) (before rows : List PlannedRow) (k line : ℕ) (lines : List ℕ)
    (plan : PlanRow) where
  abbrev written : List PlannedRow
  written = slice_set rows k (planned_row line plan)

  row_written : ArePlannedRows script all k rows → k < length rows → IsPlanRow script k plan
      → line ≡ get_or all k 0
      → ArePlannedRows script all (k + 1) written
  row_written are inside is line_is j lt = elim (cases_lt j k) [
    | inl earlier ↦
        subst (IsPlannedRow script (get_or all j 0) j)
        (sym (get_or-set_other rows k j (planned_row line plan) no_disc_row (λ e. omega (arith, e, earlier))))
        (are j earlier)
    | inr from ↦
        let here : k ≡ j = omega (arith, lt, from) in
        let reported : IsPlannedRow script (get_or all k 0) k (get_or written k no_disc_row) = (
          plan,
          is,
          get_or-set_same rows k (planned_row line plan) no_disc_row inside
              ∙ ap (λ n. planned_row n plan) line_is,
        ) in
        subst (λ n. IsPlannedRow script (get_or all n 0) n (get_or written n no_disc_row)) here reported
  ]

  late_counted : (late late' : ℕ) (b : Bool) → plan.late ≡ b → late ≡ count_by is_late (take k rows)
      → late' ≡ late + (if b then 1 else 0)
      → k < length rows → late' ≡ count_by is_late (take (k + 1) written)
  late_counted late late' true is so_far more inside =
      let at : is_late (get_or written k no_disc_row) ≡ true =
      ap is_late (get_or-set_same rows k (planned_row line plan) no_disc_row inside)
      ∙ late_reported line plan true is in
      let one =
      count_by_more_yes is_late written k no_disc_row
      (omega (arith, inside, length-set rows k (planned_row line plan))) at in
      omega (arith, one, so_far, more, ap (count_by is_late) (take-set rows k (planned_row line plan)))
  late_counted late late' false is so_far more inside =
      let at : is_late (get_or written k no_disc_row) ≡ false =
      ap is_late (get_or-set_same rows k (planned_row line plan) no_disc_row inside)
      ∙ late_reported line plan false is in
      let none =
      count_by_more_no is_late written k no_disc_row
      (omega (arith, inside, length-set rows k (planned_row line plan))) at in
      omega (arith, none, so_far, more, ap (count_by is_late) (take-set rows k (planned_row line plan)))

  if_most : (b : Bool) → (if b then 1 else 0) ≤ 1
  if_most true = omega arith
  if_most false = omega arith

  pub one_written : (late late' : ℕ) (b : Bool) → IsWriting script all before k (line ∷ lines) rows late
      → k < pictures script
      → pictures script ≤ length before → length all ≡ pictures script → IsPlanRow script k plan
      → plan.late ≡ b → late' ≡ late + (if b then 1 else 0)
      → IsWriting script all before (k + 1) lines written late'
  one_written late late' b h lt room count is late_is more =
      let inside : k < length rows = omega (arith, lt, room, h.size) in
      let found = line_at all lines k line (omega (arith, lt, count)) h.lines_are in
      let next : suc k ≡ k + 1 = omega arith in
      record {
        lines_are = found.1 ∙ ap (λ n. drop n all) next;
        rows_are = row_written h.rows_are inside is found.0;
        size = length-set rows k (planned_row line plan) ∙ h.size;
        rest = drop-set-lt (pictures script) rows k (planned_row line plan) lt ∙ h.rest;
        late_is = late_counted late late' b late_is h.late_is more inside;
        late_most = omega (arith, more, h.late_most, if_most b);
      }

pub no_line_left : (all lines : List ℕ) (k : ℕ) → lines ≡ [] → lines ≡ drop k all → k < length all → ⊥
no_line_left all lines k none is lt = omega (arith, ap length none, ap length is, length-drop k all, lt)

test_true : (a b : ℕ) → a < b → nat_lt a b ≡ true
test_true a b h = grind (arith, nat_tests)

pub given_next : (given most next : ℕ) → given < most
    → next ≡ (if nat_lt given most then given + 1 else given)
    → next ≡ given + 1
given_next given most next lt is = is ∙ ap (λ b. if b then given + 1 else given) (test_true given most lt)
