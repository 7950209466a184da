-- The state of a weaver.
use Rattle.std.specs.Prelude.{◌≡◌, ℕ, ◌+◌, ◌-◌, ◌<◌, ◌≤◌, length, Some, None, List, vec_capacity, vec_len}
use Rattle.picture_script.specs.Script.{Drawing, pictures}
use Rattle.picture_script.specs.Board.{Board, IsBlank, IsPicture, StandsBefore}
use Rattle.pack_schedule.specs.Schedule.{start_of}
use Rattle.pack_schedule.specs.PlannedChange.{planned_change}
use Rattle.pack_schedule.specs.Survey.{ArePlanned, IsSurvey}
use Rattle.pack_schedule.specs.Woven.{most_counted}
use Rattle.pack_schedule.specs.declared.surveys.SurveyRoom.{SurveyRoom}
use Rattle.pack_schedule.specs.declared.weaver.ChangeAtHand.{ChangeAtHand}

-- The picture before picture k is on the canvas. If k is 0, the canvas is empty.
pub record Stands (script : List Drawing) (k : ℕ) (board : Board) : Type 0 where
  pub at_none : k ≡ 0 → board.at ≡ None
  pub blank : k ≡ 0 → IsBlank board
  pub at_some : 0 < k → board.at ≡ Some (k - 1)
  pub drawn : 0 < k → IsPicture script (k - 1) board

-- The changes of the first k pictures are planned, and there is room for the rest. Both canvases have the last of these
-- pictures.
pub record IsRoomAt (script : List Drawing) (k : ℕ) (room : SurveyRoom) : Type 0 where
  pub planned : ArePlanned script k room.planned.items
  pub before : Stands script k room.before
  pub now : Stands script k room.now
  pub count : vec_len room.planned ≡ k
  pub fits : pictures script ≤ vec_capacity room.planned

-- The changes before picture k are finished, the change of picture k is the current one, and no later picture is drawn.
pub record IsWeaving (script : List Drawing) (at_hand : ChangeAtHand) (given : ℕ) : Type 0 where
  pub surveyed : IsSurvey script at_hand.survey
  pub k_most : at_hand.k ≤ pictures script
  pub change_is : at_hand.k < pictures script → at_hand.change ≡ planned_change script at_hand.k
  pub start_is : at_hand.k < pictures script → at_hand.start ≡ start_of script at_hand.k
  pub before_stands : StandsBefore script at_hand.k at_hand.before
  pub now_stands : StandsBefore script at_hand.k at_hand.now
  -- after the last change, `start` has the maximum
  pub no_start : at_hand.k ≡ pictures script → at_hand.start ≡ most_counted
  pub sent : (j : ℕ) → j < at_hand.k → start_of script j + length (planned_change script j) ≤ given
