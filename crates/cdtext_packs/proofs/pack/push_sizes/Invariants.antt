use Rattle.std.proofs.Common.{◌≡◌, ◌++◌, length, map}
use Rattle.bit_lists.specs.Counting.{below}
use Rattle.cdtext_packs.specs.Writing.{size_content, numbered}
use Rattle.cdtext_packs.proofs.pack.push_sizes.Given as goal

abbrev pub invariant-loop-d : goal.invariant-loop-d
invariant-loop-d l =
    l.packs.items
    ≡ l.initial.packs.items ++ numbered (length l.initial.packs.items) (map (size_content l.map) (below l.d))
