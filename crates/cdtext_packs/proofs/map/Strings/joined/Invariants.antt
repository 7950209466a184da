use Rattle.std.proofs.Common.{◌≡◌, take}
use Rattle.cdtext_packs.specs.Writing.{joined}
use Rattle.cdtext_packs.proofs.map.Strings.joined.Given as goal

abbrev pub invariant-loop-string : goal.invariant-loop-string
invariant-loop-string l = l.bytes.items ≡ joined (take l.string-index l.self)
