use Rattle.std.specs.Prelude.{◌≡◌, ℕ, ◌+◌, ◌-◌, ◌<◌, ◌&&◌, nat_le, nat_lt, if◌then◌else◌, length, slice_index, All}
use Rattle.cdg_screen.proofs.plain.set_half.Given as goal

abbrev pub invariant-loop-i : goal.invariant-loop-i
invariant-loop-i l =
    (length l.table ≡ 16)
    × ((k : ℕ) → k < 16
    → slice_index l.table k
    ≡ (if nat_le l.at k && nat_lt k (l.at + l.i)
    then slice_index l.colours (k - l.at)
    else slice_index l.fn.table k))
    × All (λ colour. colour < 4096) l.table
