use Rattle.std.proofs.Common.{◌≡◌, ◌≤◌, ◌*◌, length, take}
use Rattle.cdtext_packs.specs.Texts.{strings_of}
use Rattle.cdtext_packs.specs.Writing.{joined}
use Rattle.cdtext_packs.proofs.map.TextMap.kind_packs.Given as goal

abbrev pub invariant-loop-string : goal.invariant-loop-string
invariant-loop-string l = record {
  joined : l.bytes ≡ length (joined (take l.string-index (strings_of l.fn.kind l.self)));
  bound : l.bytes ≤ 67108865 * l.string-index;
}
