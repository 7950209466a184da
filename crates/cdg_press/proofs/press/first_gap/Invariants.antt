use Rattle.std.proofs.Common.{◌≡◌, ℕ, ◌<◌}
use Rattle.cue_sheet.specs.CueSheet.{track_of}
use Rattle.cdg_press.specs.Refusals.{gaps_of}
use Rattle.cdg_press.proofs.press.first_gap.Given as goal

abbrev pub invariant-loop-k : goal.invariant-loop-k
invariant-loop-k l = (j : ℕ) → j < l.k → gaps_of (track_of l.sheet j) ≡ 0
