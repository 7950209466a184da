use Rattle.std.proofs.Common.{◌≡◌, ◌<◌, ◌*◌, ◌/◌, ◌%◌, ℕ, length}
use Rattle.std.specs.Prelude.{slice_index}
use Rattle.raw_subcode.specs.Rows.{in_rows}
use Rattle.raw_subcode.proofs.rows.one_after_another.Given as goal

abbrev pub invariant-loop-r : goal.invariant-loop-r
invariant-loop-r l = record {
  size : length l.bytes ≡ 96;
  each : (n : ℕ) → n < 12 * l.r → slice_index l.bytes n ≡ in_rows l.rows (n / 12) (n % 12);
}
