use Rattle.std.proofs.Common.{◌≡◌, ◌≤◌, ◌*◌, length, map}
use Rattle.bit_lists.specs.Counting.{below}
use Rattle.cdtext_packs.specs.Writing.{joined}
use Rattle.stream_writer.specs.SheetTexts.{string_at}
use Rattle.stream_writer.proofs.sheet_texts.kind_packs.Given as goal

abbrev pub invariant-loop-place : goal.invariant-loop-place
invariant-loop-place l = record {
  joined : l.bytes ≡ length (joined (map (string_at l.fn.kind l.sheet) (below l.place)));
  bound : l.bytes ≤ 67108865 * l.place;
}
