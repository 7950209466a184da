use Rattle.std.proofs.Common.{refl}
use Rattle.cdtext_packs.specs.Kept.{nothing_kept}
use Rattle.cdtext_packs.proofs.Repeats.{nothing_is_good}
use Rattle.cdtext_packs.proofs.reader.TextReader.new.Goals as goal

pub invariant_of-result : goal.invariant_of-result
invariant_of-result c = nothing_is_good 256

pub returns : goal.returns
unfolding nothing_kept
returns c = refl
