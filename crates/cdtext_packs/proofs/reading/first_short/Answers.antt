use Rattle.std.proofs.Common.{refl}
use Rattle.cdtext_packs.proofs.reading.first_short.Goals as goal

pub loop-kind-init : goal.loop-kind-init
loop-kind-init c = refl

pub short_at-short-requires : goal.short_at-short-requires
short_at-short-requires c = c.requires
