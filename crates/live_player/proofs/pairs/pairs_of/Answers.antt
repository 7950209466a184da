use Rattle.std.proofs.Common.{ℕ, List, [], length, refl, replicate, ap, arith}
use Rattle.std.proofs.lemmas.List.{get_or-replicate}
use Rattle.live_player.proofs.pairs.pairs_of.Goals as goal

pub loop-n-init : goal.loop-n-init
loop-n-init c = record {
  size = refl;
  sizes = λ n lt. ap length (get_or-replicate {A = List ℕ} 256 n (replicate 8 0) [] lt);
  bytes = λ n lt. absurd (omega (arith, lt));
}
