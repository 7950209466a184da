use Rattle.std.proofs.Common.{◌≡◌, ◌≤◌, ◌*◌, length, flat_map, take}
use Rattle.cdtext_packs.specs.Texts.{kinds}
use Rattle.cdtext_packs.specs.Writing.{kind_contents, numbered}
use Rattle.cdtext_packs.proofs.pack.pack_all.Given as goal

abbrev pub invariant-loop-kind : goal.invariant-loop-kind
invariant-loop-kind l = record {
  count : l.packs ≡ length (flat_map (kind_contents l.map) (take l.kind-index kinds));
  bound : l.packs ≤ 559240542 * l.kind-index;
}

abbrev pub invariant-loop-kind-2 : goal.invariant-loop-kind-2
invariant-loop-kind-2 l = l.all.items ≡ numbered 0 (flat_map (kind_contents l.map) (take l.kind-index kinds))
