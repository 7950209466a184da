use Rattle.std.specs.Prelude.{◌≡◌, ◌+◌, ◌<◌, ℕ, slice_index}
use Rattle.cdg_screen.proofs.plain.PlainScreen.has_colours.Given as goal

abbrev pub invariant-loop-k : goal.invariant-loop-k
invariant-loop-k l = (k : ℕ) → k < l.k → slice_index l.colours k ≡ slice_index l.self.colours (l.at + k)
