use Rattle.cdg_screen.specs.Memory.{seen}
use Rattle.std.proofs.Common.{◌≡◌, ◌<◌, ◌+◌, ◌*◌, ℕ}
use Rattle.std.specs.Prelude.{slice_index}
use Rattle.live_player.specs.Lives.{picture_byte}
use Rattle.live_player.proofs.looking.bytes.Given as goal

abbrev pub invariant-loop-y : goal.invariant-loop-y
invariant-loop-y l = (n : ℕ) → n < 900 * l.y → slice_index l.bytes n ≡ picture_byte (seen l.screen) n

abbrev pub invariant-loop-x : goal.invariant-loop-x
invariant-loop-x l =
    (n : ℕ) → n < 3 * (300 * l.y + l.x) → slice_index l.bytes n ≡ picture_byte (seen l.screen) n
