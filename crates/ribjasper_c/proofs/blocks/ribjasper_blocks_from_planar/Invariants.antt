use Rattle.std.proofs.Common.{◌≡◌, ◌<◌, ℕ, [], drop, length}
use Rattle.std.specs.Prelude.{slice_index_or}
use Rattle.raw_subcode.specs.Channels.{IsPlanarForm}
use Rattle.ribjasper_c.proofs.blocks.ribjasper_blocks_from_planar.Given as goal

abbrev pub invariant-loop-n : goal.invariant-loop-n
invariant-loop-n l = record {
  size : length l.blocks ≡ length l.fn.blocks;
  forms : (k : ℕ) → k < l.n → IsPlanarForm (slice_index_or l.blocks k []) (slice_index_or l.planar k []);
  rest : drop l.n l.blocks ≡ drop l.n l.fn.blocks;
}
