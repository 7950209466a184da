use Rattle.std.proofs.Common.{◌≡◌, [], replicate, length, All}
use Rattle.cdtext_packs.specs.Texts.{IsString}
use Rattle.cdtext_packs.proofs.map.empty_strings.Given as goal

abbrev pub invariant-loop-place : goal.invariant-loop-place
invariant-loop-place l = record {
  empty : l.strings ≡ replicate l._place [];
  count : length l.strings ≡ l._place;
  each : All IsString l.strings;
}
