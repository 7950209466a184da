use Rattle.std.proofs.Common.{◌≡◌, ◌++◌, length, map}
use Rattle.bit_lists.specs.Counting.{below}
use Rattle.cdtext_packs.specs.Texts.{strings_of}
use Rattle.cdtext_packs.specs.Writing.{text_content, type_of, numbered}
use Rattle.cdtext_packs.proofs.pack.push_kind.Given as goal

abbrev pub invariant-loop-k : goal.invariant-loop-k
invariant-loop-k l =
    l.packs.items
    ≡ l.initial.packs.items ++ numbered (length l.initial.packs.items)
    (map (text_content l.map.first (type_of l.kind) (strings_of l.kind l.map)) (below l.k))
