use Rattle.std.proofs.Common.{replicate, Some, refl, arith}
use Rattle.rw_code.proofs.CodewordLemmas.{idle_is_codeword}
use Rattle.rw_code.proofs.Differing.{differences_self}
use Rattle.rw_merge.specs.Agreement.{IsAgreed}
use Rattle.rw_merge.specs.Steps.{AreAgreements}
use Rattle.rw_merge.proofs.Readings.{first_agreed}
use Rattle.rw_merge.proofs.packs.Packs.set_idle.Goals as goal

zeros_agreed : IsAgreed (replicate 24 0) (replicate 24 0) (replicate 24 0)
zeros_agreed =
    first_agreed (replicate 24 0) (replicate 24 0) idle_is_codeword
    (omega (arith, differences_self (replicate 24 0)))

pub returns : goal.returns
unfolding AreAgreements
returns c = (
  replicate 4 (Some (replicate 24 0)),
  (zeros_agreed, (zeros_agreed, (zeros_agreed, (zeros_agreed, tt)))),
  c.set_zeros.ensures,
  refl,
  omega arith,
)
