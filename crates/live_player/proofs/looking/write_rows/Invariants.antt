use Rattle.cdg_screen.specs.Memory.{seen}
use Rattle.std.proofs.Common.{◌≡◌, ◌<◌, ◌+◌, ◌*◌, ℕ}
use Rattle.std.specs.Prelude.{slice_index}
use Rattle.cdg_screen.specs.Standing.{screen_pixel}
use Rattle.live_player.proofs.looking.write_rows.Given as goal

abbrev pub invariant-loop-j : goal.invariant-loop-j
invariant-loop-j l = record {
  pixels : (i j : ℕ) → i < l.part.width → j < l.j
      → slice_index l.pixels (j * l.stride + i)
      ≡ screen_pixel (seen l.screen) (l.part.left + i) (l.part.top + j);
  others : (n : ℕ) → ((i j : ℕ) → i < l.part.width → j < l.j → ¬ (n ≡ j * l.stride + i))
      → slice_index l.pixels n ≡ slice_index l.initial.pixels n;
}
