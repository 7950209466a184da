use Rattle.std.proofs.Common.{◌≡◌, ℕ, ◌<◌, ◌≤◌, true, false, length}
use Rattle.std.specs.Prelude.{◌↔◌, slice_index, slice_index_or}
use Rattle.picture_script.proofs.canvas.compare_line.Given as goal

abbrev pub invariant-loop-x : goal.invariant-loop-x
invariant-loop-x l = (length l.equal ≡ 288)
    × ((m : ℕ) → m < l.x → slice_index_or l.equal m false ≡ true
    ↔ (slice_index_or l.fn.equal m false ≡ true) × (slice_index l.line m ≡ slice_index l.other m))
    × ((m : ℕ) → l.x ≤ m → slice_index_or l.equal m false ≡ slice_index_or l.fn.equal m false)
