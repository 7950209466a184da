use Rattle.std.specs.Prelude.{◌≡◌, ◌<◌, ℕ, [], slice_index, slice_index_or}
use Rattle.cdg_screen.proofs.memory.Memory.is_filled.Given as goal

abbrev pub invariant-loop-y : goal.invariant-loop-y
invariant-loop-y l = (y : ℕ) → y < l.y → (k : ℕ) → k < 300
    → slice_index (slice_index_or l.self-inside.rows y []) k ≡ l.colour
