use Rattle.std.proofs.Common.{◌≡◌, ℕ, ◌+◌, ◌*◌, List, subst, ap, ◌∙◌, arith}
use Rattle.rw_code.specs.Codeword.{IsCodeword, differences}
use Rattle.rw_code.specs.Packs.{idle_pack}
use Rattle.rw_merge.specs.Agreement.{equally_wrong}
use Rattle.rw_merge.proofs.agreement.is_idle_agreed.Goals as goal

pub returns-clause-agreed : goal.returns-clause-agreed
returns-clause-agreed c _ =
    let a = c.args.a.now in
    let b = c.args.b.now in
    let same : c.word-idle.result ≡ idle_pack = c.word-idle.ensures.same ∙ c.idle.ensures in
    let counted = ap (λ (w : List ℕ). 2 * equally_wrong a b w + differences a b) same in
    record {
      is_codeword = subst IsCodeword same c.word-idle.ensures.codeword;
      few = omega (arith, counted, c.penalty.ensures.count, c.if-penalty-gt-MAX_PENALTY.false);
    }
