use Rattle.std.proofs.Common.{◌≡◌, ◌<◌, ◌≤◌, ℕ}
use Rattle.cdg_screen.specs.Standing.{screen_pixel}
use Rattle.stream_trial.specs.Replay.{wanted_pixel}
use Rattle.stream_trial.proofs.comparing.pixels_agree.Given as goal

abbrev pub invariant-loop-y : goal.invariant-loop-y
invariant-loop-y l = (x y : ℕ) → 6 ≤ x → x < 294 → 12 ≤ y → y < l.y
    → screen_pixel l.screen x y ≡ wanted_pixel l.canvas x y
