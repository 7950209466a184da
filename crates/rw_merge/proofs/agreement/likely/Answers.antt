use Rattle.std.proofs.Common.{sym, subst}
use Rattle.rw_merge.specs.Agreement.{IsAgreed}
use Rattle.rw_merge.proofs.Readings.{first_agreed, second_agreed}
use Rattle.rw_merge.proofs.agreement.likely.Goals as goal

pub returns-in-Some : goal.returns-in-Some
returns-in-Some c =
    let (codeword, same) = c.in-Some.ensures in
    subst (IsAgreed c.args.a.now c.args.b.now) (sym same)
    (first_agreed c.args.a.now c.args.b.now codeword c.requires)

pub returns-in-Some-check : goal.returns-in-Some-check
returns-in-Some-check c =
    let (codeword, same) = c.in-Some-check.ensures in
    subst (IsAgreed c.args.a.now c.args.b.now) (sym same)
    (second_agreed c.args.a.now c.args.b.now codeword c.requires)
