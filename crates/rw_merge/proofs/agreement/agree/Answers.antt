use Rattle.std.proofs.Common.{◌≡◌, sym, subst, ap, ◌∙◌, arith}
use Rattle.rw_code.specs.Codeword.{differences}
use Rattle.rw_code.proofs.Differing.{differences_none, differences_self}
use Rattle.rw_merge.specs.Agreement.{IsAgreed}
use Rattle.rw_merge.proofs.Readings.{agreed_equal, only_one_agreed, reads_agreed}
use Rattle.rw_merge.proofs.agreement.agree.Goals as goal

pub returns-then-apart-gt-MAX_PENALTY-clause-agreed : goal.returns-then-apart-gt-MAX_PENALTY-clause-agreed
returns-then-apart-gt-MAX_PENALTY-clause-agreed c w agreed =
    omega (arith, agreed.few, c.differing-apart.ensures.count, c.if-apart-gt-MAX_PENALTY.true)

pub agree_apart-requires : goal.agree_apart-requires
agree_apart-requires c = record {
  differ = λ same.
      let none : differences c.args.a.now c.args.b.now ≡ 0 =
      ap (differences c.args.a.now) (sym same) ∙ differences_self c.args.a.now in
      omega (arith, none, c.differing-apart.ensures.count);
  few = omega (arith, c.differing-apart.ensures.count, c.if-apart-gt-MAX_PENALTY.false);
  word = c.differing-apart.ensures.first;
}

pub returns-in_default-clause-agreed : goal.returns-in_default-clause-agreed
returns-in_default-clause-agreed c w agreed =
    let sizes = c.differing-apart.ensures.first.size ∙ sym c.differing-apart.ensures.second.size in
    let same : c.args.a.now ≡ c.args.b.now =
    differences_none c.args.a.now c.args.b.now sizes (omega (arith, c.differing-apart.ensures.count)) in
    c.in_default.ensures.reads w
    (reads_agreed c.args.a.now c.args.b.now w c.in_default.ensures.word same agreed)

pub returns-clause-agreed : goal.returns-clause-agreed
returns-clause-agreed c =
    let sizes = c.differing-apart.ensures.first.size ∙ sym c.differing-apart.ensures.second.size in
    let same : c.args.a.now ≡ c.args.b.now =
    differences_none c.args.a.now c.args.b.now sizes (omega (arith, c.differing-apart.ensures.count)) in
    agreed_equal c.args.a.now c.args.b.now _ c.in-Some.ensures.word same c.in-Some.ensures.reads.0

pub returns-then-apart-gt0-clause-only : goal.returns-then-apart-gt0-clause-only
returns-then-apart-gt0-clause-only c one other =
    only_one_agreed _ _ one other c.differing-apart.ensures.first c.differing-apart.ensures.second

pub returns-in_default-clause-only : goal.returns-in_default-clause-only
returns-in_default-clause-only c one other =
    only_one_agreed _ _ one other c.differing-apart.ensures.first c.differing-apart.ensures.second

pub returns-clause-only : goal.returns-clause-only
returns-clause-only c one other =
    only_one_agreed _ _ one other c.differing-apart.ensures.first c.differing-apart.ensures.second

pub returns-then-is_idle_agreed-clause-agreed : goal.returns-then-is_idle_agreed-clause-agreed
returns-then-is_idle_agreed-clause-agreed c =
    subst (IsAgreed c.args.a.now c.args.b.now) (sym c.idle.ensures)
    (c.is_idle_agreed.ensures.agreed c.if-is_idle_agreed.true)

pub returns-then-is_idle_agreed-clause-only : goal.returns-then-is_idle_agreed-clause-only
returns-then-is_idle_agreed-clause-only c one other =
    only_one_agreed _ _ one other c.is_idle_agreed.ensures.words.0 c.is_idle_agreed.ensures.words.1
