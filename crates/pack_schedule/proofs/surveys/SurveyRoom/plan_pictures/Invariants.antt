use Rattle.std.proofs.Common.{◌<◌, ◌-◌}
use Rattle.pack_schedule.specs.Weights.{AreWeights}
use Rattle.pack_schedule.specs.Weaving.{IsRoomAt}
use Rattle.pack_schedule.proofs.surveys.SurveyRoom.plan_pictures.Given as goal

abbrev pub invariant-loop-k : goal.invariant-loop-k
invariant-loop-k l = record {
  room : IsRoomAt l.script l.k l.self;
  weights : 0 < l.k → AreWeights l.script (l.k - 1) l.weights;
}
