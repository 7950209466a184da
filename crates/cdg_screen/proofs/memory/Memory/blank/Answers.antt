use Rattle.std.proofs.Common.{List, ℕ, replicate}
use Rattle.std.proofs.lemmas.List.{get_or-replicate, length-replicate}
use Rattle.cdg_screen.proofs.MemoryRows.{zeros-is_memory, zeros-becomes}
use Rattle.cdg_screen.proofs.memory.Memory.blank.Goals as goal

pub invariant_of-result : goal.invariant_of-result
invariant_of-result c =
    zeros-is_memory _ (length-replicate {A = List ℕ} 216 (replicate 300 0))
    (λ y lt. get_or-replicate 216 y _ _ lt)

pub returns : goal.returns
returns c = zeros-becomes _ (λ y lt. get_or-replicate 216 y _ _ lt)
