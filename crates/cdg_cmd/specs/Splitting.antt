-- Where a command line is split.
use Rattle.std.specs.Prelude.{ℕ, ◌-◌, List, length, Option, Some, None, String, string_bytes, position, bytes_eq, codes, nat_le, if◌then◌else◌}
use Rattle.cdg_cmd.specs.declared.command.Split.{Split}

-- the split in which all words belong to the command
abbrev pub unsplit : ℕ → Split
unsplit count = record { words = count; names = 0 }

-- the split of `count` words at a `--` after the first `before` words, if at most two words follow it
abbrev pub split_at : ℕ → Option ℕ → Split
split_at count None = unsplit count
split_at count (Some before) = if nat_le (count - before) 3 then record {
  words = before;
  names = count - before - 1;
} else unsplit count

-- the split of a line at its first `--`
abbrev pub split_of : {A : Type 0} → List (String A) → Split
split_of line = split_at (length line) (position (λ word. bytes_eq (string_bytes word) (codes "--")) line)
