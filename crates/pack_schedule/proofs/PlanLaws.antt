-- The rows of a plan and the pictures of a script.
use Rattle.std.proofs.Common.{◌≡◌, ℕ, ◌+◌, ◌-◌, ◌<◌, false, List, get_or, subst, arith}
use Rattle.picture_script.specs.Script.{Drawing, pictures}
use Rattle.picture_script.specs.Board.{Board, IsPicture}
use Rattle.std.specs.Prelude.{Some}
use Rattle.pack_schedule.specs.Schedule.{CanBeReady, IsLate}
use Rattle.pack_schedule.specs.Plans.{ArePlanRows, IsFirstLate, IsPlanRow, no_row}
use Rattle.pack_schedule.specs.PlannerParts.{IsBeforePicture}
use Rattle.pack_schedule.specs.Weights.{AreWeights}
use Rattle.pack_schedule.specs.declared.planner.PlanRow.{PlanRow}
use Rattle.pack_schedule.specs.declared.change.tiles.Weighed.{Weighed}
use Rattle.pack_schedule.proofs.SurveyLaws.{stands_next}

-- the picture of a row that is not late can be ready
pub row_is_ready : (script : List Drawing) (k : ℕ) (row : PlanRow) → IsPlanRow script k row → row.late ≡ false
    → CanBeReady script k
row_is_ready script k row is prompt = (row.need, is.need, is.in_time prompt)

pub first_is_late : (script : List Drawing) (rows : List PlanRow) (k : ℕ) → ArePlanRows script rows
    → k < pictures script → IsFirstLate rows k
    → IsLate script k (get_or rows k no_row).need (get_or rows k no_row).free
first_is_late script rows k are lt first = record {
  picture = lt;
  need_is = (are.each k lt).need;
  free_is = (are.each k lt).free;
  late = (are.each k lt).late first.0;
  before = λ j j_lt.
      row_is_ready script j (get_or rows j no_row) (are.each j (omega (arith, j_lt, lt))) (first.1 j j_lt);
}

-- when picture k is drawn on both canvases, the next picture follows
pub before_next : (script : List Drawing) (k : ℕ) (before now : Board) (weights : List Weighed)
    → k < pictures script → before.at ≡ Some k → IsPicture script k before → now.at ≡ Some k
    → IsPicture script k now
    → AreWeights script k weights → IsBeforePicture script (k + 1) before now weights
before_next script k before now weights lt before_at before_is now_at now_is kept = record {
  k_most = omega (arith, lt);
  before_stands = stands_next script k before before_at before_is;
  now_stands = stands_next script k now now_at now_is;
  kept = λ pos. let here : k ≡ k + 1 - 1 = omega arith in subst (λ n. AreWeights script n weights) here kept;
}
