use Rattle.std.proofs.Common.{◌≡◌, ◌<◌, ◌+◌, ◌*◌, ℕ, get_or}
use Rattle.cdg_screen.specs.Memory.{seen}
use Rattle.live_player.specs.Formats.{pixel_size, shown_bytes}
use Rattle.live_player.proofs.writing.write_rows.Given as goal

abbrev pub invariant-loop-j : goal.invariant-loop-j
invariant-loop-j l = record {
  pixels : (i m k : ℕ) → i < l.part.width → m < l.j → k < pixel_size l.format
      → get_or l.out (m * l.stride + (pixel_size l.format * i + k)) 0
      ≡ get_or (shown_bytes l.format (seen l.screen) (l.part.left + i) (l.part.top + m)) k 0;
  others : (n : ℕ)
      → ((i m : ℕ) → i < pixel_size l.format * l.part.width → m < l.j → ¬ (n ≡ m * l.stride + i))
      → get_or l.out n 0 ≡ get_or l.initial.out n 0;
}
