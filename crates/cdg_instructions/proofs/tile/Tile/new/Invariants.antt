use Rattle.std.specs.Prelude.{◌<◌, ◌↔◌, ℕ, IsTrue, slice_index}
use Rattle.cdg_instructions.proofs.tile.Tile.new.Given as goal

abbrev pub invariant-loop-pixel : goal.invariant-loop-pixel
invariant-loop-pixel l = IsTrue l.are_colours ↔ ((k : ℕ) → k < l.pixel-index → slice_index l.pixels k < 16)
