use Rattle.std.proofs.Common.{◌≡◌, ◌+◌, ◌*◌, ◌<◌, length, take, flat_map, All}
use Rattle.bit_lists.specs.Counting.{below}
use Rattle.cdtext_packs.specs.LeadIn.{lead_in_slot}
use Rattle.cdtext_packs.proofs.lead_in_texts.lead_in_symbols.Given as goal

abbrev pub invariant-loop-k : goal.invariant-loop-k
invariant-loop-k l = record {
  size : length l.symbols ≡ 96;
  slots : take (24 * l.k) l.symbols ≡ flat_map (λ k. lead_in_slot l.packs (4 * l.l + k)) (below l.k);
  bound : All (λ s. s < 64) (take (24 * l.k) l.symbols);
}
