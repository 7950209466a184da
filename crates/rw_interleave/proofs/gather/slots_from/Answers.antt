use Rattle.std.proofs.Common.{ℕ, arith, refl}
use Rattle.std.proofs.lemmas.List.{get_or-replicate}
use Rattle.rw_interleave.proofs.gather.slots_from.Goals as goal

pub loop-i-init : goal.loop-i-init
loop-i-init c = record {
  size = refl;
  zeros = λ n lt. get_or-replicate {A = ℕ} 168 n 0 0 (omega (arith, lt, c.requires));
  rest = λ n from lt. absurd (omega (arith, from, lt));
}
