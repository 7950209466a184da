use Rattle.std.proofs.Common.{◌≡◌, ◌<◌, ℕ, [], drop, length}
use Rattle.std.specs.Prelude.{slice_index_or}
use Rattle.live_player.specs.Parity.{IsSealed}
use Rattle.live_player.proofs.parity.seal_packs.Given as goal

abbrev pub invariant-loop-n : goal.invariant-loop-n
invariant-loop-n l = record {
  size : length l.packs ≡ length l.fn.packs;
  sealed : (k : ℕ) → k < l.n → IsSealed (slice_index_or l.fn.packs k []) (slice_index_or l.packs k []);
  rest : drop l.n l.packs ≡ drop l.n l.fn.packs;
}
