use Rattle.std.specs.Prelude.{◌≡◌, ◌<◌, ℕ, slice_index}
use Rattle.cdg_screen.proofs.plain.PlainScreen.has_levels.Given as goal

abbrev pub invariant-loop-k : goal.invariant-loop-k
invariant-loop-k l = (k : ℕ) → k < l.k → slice_index l.levels k ≡ slice_index l.self.levels k
