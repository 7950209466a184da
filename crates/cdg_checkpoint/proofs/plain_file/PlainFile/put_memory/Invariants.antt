use Rattle.cdg_screen.specs.Memory.{seen}
use Rattle.std.proofs.Common.{◌≡◌, ◌+◌, ◌*◌, ◌++◌, List, ℕ, length}
use Rattle.cdg_checkpoint.specs.Table.{Memory}
use Rattle.cdg_checkpoint.specs.Checkpoint.{kept}
use Rattle.cdg_checkpoint.specs.declared.fields.StreamCounts.{StreamCounts}
use Rattle.cdg_checkpoint.proofs.Writing.{first_fields}
use Rattle.cdg_checkpoint.proofs.plain_file.PlainFile.put_memory.Given as goal

abbrev pub invariant-loop-y : goal.invariant-loop-y
invariant-loop-y l = record {
  size : length l.self ≡ length l.fn.self + 300 * l.y;
  part : (counts : StreamCounts) (slots : List ℕ)
      → l.self ≡ l.fn.self ++ first_fields (kept counts slots (seen l.screen)) Memory (300 * l.y);
}
