use Rattle.std.proofs.Common.{◌≡◌, ◌≤◌, length, reverse, take}
use Rattle.text_lines.specs.Text.{without_blanks}
use Rattle.text_lines.proofs.trim.Given as goal

abbrev pub invariant-loop-end : goal.invariant-loop-end
invariant-loop-end l = record {
  same : without_blanks (reverse (take l.end l.rest)) ≡ without_blanks (reverse l.rest);
  within : l.end ≤ length l.rest;
}

abbrev pub decreases-loop-end : goal.decreases-loop-end
decreases-loop-end l = l.end
