use Rattle.std.proofs.Common.{sym, subst}
use Rattle.rw_code.specs.Codeword.{IsCodeword}
use Rattle.rw_code.proofs.CodewordLemmas.{idle_is_codeword}
use Rattle.rw_code.proofs.pack.Pack.idle.Goals as goal

pub invariant_of-result : goal.invariant_of-result
invariant_of-result c = subst IsCodeword (sym c.default.ensures) idle_is_codeword
