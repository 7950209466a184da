use Rattle.std.proofs.Common.{[], refl, arith}
use Rattle.cdtext_packs.specs.TextSteps.{fresh_texts}
use Rattle.cdtext_packs.proofs.LeadInReading.{run_reads, begun_read}
use Rattle.cdtext_packs.proofs.lead_in_texts.lead_in_packs_are_read.Goals as goal

pub returns : goal.returns
returns c =
    λ lead_in blocks few.
    run_reads blocks [] lead_in (fresh_texts lead_in) refl (omega arith) (begun_read lead_in)
