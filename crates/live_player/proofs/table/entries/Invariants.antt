use Rattle.std.proofs.Common.{◌≡◌, ◌<◌, ℕ, [], length, take, get_or}
use Rattle.std.specs.Prelude.{slice_index}
use Rattle.cdg_screen.specs.Memory.{seen}
use Rattle.live_player.specs.Formats.{pixel_bytes, pixel_size}
use Rattle.live_player.proofs.table.entries.Given as goal

abbrev pub invariant-loop-p : goal.invariant-loop-p
invariant-loop-p l = record {
  size : length l.table ≡ 16;
  sizes : (n : ℕ) → n < 16 → length (get_or l.table n []) ≡ 4;
  bytes : (n : ℕ) → n < l.p
      → take (pixel_size l.format) (get_or l.table n [])
      ≡ pixel_bytes l.format n (slice_index (seen l.screen).colours n) (slice_index (seen l.screen).levels n);
}
