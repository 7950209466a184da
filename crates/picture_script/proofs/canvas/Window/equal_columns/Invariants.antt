use Rattle.std.proofs.Common.{◌≡◌, ℕ, ◌+◌, ◌*◌, ◌<◌, true, false}
use Rattle.std.specs.Prelude.{◌↔◌, slice_index, slice_index_or}
use Rattle.picture_script.proofs.canvas.Window.equal_columns.Given as goal

abbrev pub invariant-loop-j : goal.invariant-loop-j
invariant-loop-j l = (x : ℕ) → x < 288 → slice_index_or l.equal x false ≡ true
    ↔ ((m : ℕ) → m < l.j
    → slice_index l.self (l.start + x + 288 * m) ≡ slice_index l.other (l.start + x + 288 * m))
