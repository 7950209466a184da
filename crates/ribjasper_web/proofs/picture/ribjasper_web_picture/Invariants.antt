use Rattle.std.proofs.Common.{◌≡◌, ◌<◌, ◌+◌, ◌*◌, ℕ}
use Rattle.std.specs.Prelude.{slice_index}
use Rattle.cdg_screen.specs.Memory.{seen}
use Rattle.ribjasper_web.specs.Shown.{opaque_pixel}
use Rattle.ribjasper_web.proofs.picture.ribjasper_web_picture.Given as goal

abbrev pub invariant-loop-y : goal.invariant-loop-y
invariant-loop-y l = (n : ℕ) → n < 300 * l.y → slice_index l.pixels n ≡ opaque_pixel (seen l.player.screen) n

abbrev pub invariant-loop-x : goal.invariant-loop-x
invariant-loop-x l = (n : ℕ) → n < 300 * l.y + l.x
    → slice_index l.pixels n ≡ opaque_pixel (seen l.player.screen) n
