use Rattle.std.proofs.Common.{◌≡◌, map, All}
use Rattle.bit_lists.specs.Counting.{below}
use Rattle.cdtext_packs.specs.Texts.{IsString}
use Rattle.stream_writer.specs.SheetTexts.{string_at}
use Rattle.stream_writer.proofs.sheet_texts.sheet_strings.Given as goal

abbrev pub invariant-loop-place : goal.invariant-loop-place
invariant-loop-place l = record {
  strings : l.strings ≡ map (string_at l.kind l.sheet) (below l.place);
  each : All IsString l.strings;
}
