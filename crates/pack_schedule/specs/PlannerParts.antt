-- The state of a planner.
use Rattle.std.specs.Prelude.{ℕ, ◌-◌, ◌<◌, ◌≤◌, List}
use Rattle.picture_script.specs.Script.{Drawing, pictures}
use Rattle.picture_script.specs.Board.{Board}
use Rattle.pack_schedule.specs.Weaving.{Stands}
use Rattle.pack_schedule.specs.Weights.{AreWeights}
use Rattle.pack_schedule.specs.declared.change.tiles.Weighed.{Weighed}

-- The planner is before picture k: the previous picture is on both canvases, and the weights are those of its tiles.
pub record IsBeforePicture (script : List Drawing) (k : ℕ) (before now : Board)
    (weights : List Weighed) : Type 0 where
  pub k_most : k ≤ pictures script
  pub before_stands : Stands script k before
  pub now_stands : Stands script k now
  pub kept : 0 < k → AreWeights script (k - 1) weights
