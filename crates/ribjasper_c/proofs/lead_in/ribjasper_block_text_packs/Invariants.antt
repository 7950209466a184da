use Rattle.std.proofs.Common.{◌≡◌, ℕ, ◌<◌, ◌*◌, length, take, drop}
use Rattle.cdtext_packs.specs.LeadIn.{pack_at}
use Rattle.ribjasper_c.proofs.lead_in.ribjasper_block_text_packs.Given as goal

abbrev pub invariant-loop-k : goal.invariant-loop-k
invariant-loop-k l = record {
  block : l.block-2 ≡ l.fn.block;
  size : length l.packs ≡ 72;
  done : (j : ℕ) → j < l.k → take 18 (drop (18 * j) l.packs) ≡ pack_at l.fn.block j;
}
