use Rattle.std.proofs.Common.{◌≡◌, ◌<◌, ◌≤◌, ◌↔◌, ℕ}
use Rattle.std.specs.Prelude.{IsTrue}
use Rattle.cdg_screen.specs.Standing.{screen_pixel}
use Rattle.stream_trial.specs.Replay.{wanted_pixel}
use Rattle.stream_trial.proofs.comparing.row_agrees.Given as goal

abbrev pub invariant-loop-x : goal.invariant-loop-x
invariant-loop-x l = IsTrue l.same ↔ ((x : ℕ) → 6 ≤ x → x < l.x
    → screen_pixel l.screen x l.y ≡ wanted_pixel l.canvas x l.y)
