use Rattle.std.proofs.Common.{◌≡◌, ◌+◌, length, take}
use Rattle.cdtext_packs.specs.Writing.{joined}
use Rattle.cdtext_packs.proofs.map.Strings.holder.Given as goal

abbrev pub invariant-loop-place : goal.invariant-loop-place
invariant-loop-place l = length (joined (take l.place l.self)) + l.offset ≡ l.at
