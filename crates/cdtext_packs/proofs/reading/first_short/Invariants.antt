use Rattle.std.proofs.Common.{◌≡◌, drop}
use Rattle.cdtext_packs.specs.Texts.{kinds}
use Rattle.cdtext_packs.proofs.KeptPacks.{first_short_in}
use Rattle.cdtext_packs.proofs.reading.first_short.Given as goal

abbrev pub invariant-loop-kind : goal.invariant-loop-kind
invariant-loop-kind l =
    first_short_in l.kept l.count (drop l.kind-index kinds) ≡ first_short_in l.kept l.count kinds
