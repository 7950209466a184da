use Rattle.std.proofs.Common.{◌≡◌, ◌<◌, ℕ, [], drop, length}
use Rattle.std.specs.Prelude.{slice_index_or}
use Rattle.raw_subcode.specs.Channels.{IsPlanarForm}
use Rattle.ribjasper_c.proofs.blocks.ribjasper_blocks_to_planar.Given as goal

abbrev pub invariant-loop-n : goal.invariant-loop-n
invariant-loop-n l = record {
  size : length l.planar ≡ length l.fn.planar;
  forms : (k : ℕ) → k < l.n → IsPlanarForm (slice_index_or l.blocks k []) (slice_index_or l.planar k []);
  rest : drop l.n l.planar ≡ drop l.n l.fn.planar;
}
