use Rattle.std.proofs.Common.{◌<◌, [], length, ap, ◌∙◌, refl, subst₂, arith}
use Rattle.std.specs.Prelude.{is_none}
use Rattle.std.proofs.lemmas.List.{get_or_default}
use Rattle.std.proofs.lemmas.List.Sums.{count_by-le-length}
use Rattle.rw_merge.specs.Agreement.{IsAgreement}
use Rattle.rw_merge.proofs.Words.{agreement_of, agreements-nil, found_next, found_whole}
use Rattle.rw_merge.proofs.packs.Packs.set_agreed.Goals as goal

pub loop-i-init : goal.loop-i-init
loop-i-init c = record {
  size = omega (arith, ap length c.new-self.ensures);
  few_bad = omega arith;
  packs = record {
    found = [];
    all = agreements-nil;
    text_is = c.new-self.ensures;
    bad_is = refl;
    few = omega arith;
  };
}

pub loop-i-preserved : goal.loop-i-preserved
loop-i-preserved c =
    let xs = c.args.first.now in
    let ys = c.args.second.now in
    let i = c.loop-i.i in
    let before = c.loop-i.invariant in
    let lt : i < length xs = c.loop-i-test.true in
    let lt' : i < length ys = omega (arith, c.requires.same, lt) in
    let agreement =
    subst₂ (λ x y. IsAgreement x y c.agree.result) (c.index-first-i.is ∙ get_or_default xs i _ [] lt)
    (c.index-second-i.is ∙ get_or_default ys i _ [] lt')
    (agreement_of _ _ c.agree.result c.agree.ensures.agreed) in
    let found =
    found_next xs ys i _ _ _ _ c.agree.result before.packs lt lt' agreement c.add.ensures.bytes
    c.add.ensures.bad in
    record {
      size = omega (arith, c.add.ensures.size, before.size);
      few_bad = omega (arith, found.bad_is, found.few, count_by-le-length is_none found.found);
      packs = found;
    }

pub returns : goal.returns
returns c =
    found_whole c.args.first.now c.args.second.now c.loop-i.i _ _ c.loop-i.invariant.packs
    (omega (arith, c.loop-i-test.false, c.loop-i.auto.i-end)) c.requires.same
    (omega (arith, c.loop-i.auto.i-end, c.requires.few))
