use Rattle.std.proofs.Common.{◌≡◌, ◌≢◌, ◌∙◌, subst}
use Rattle.rw_code.specs.Codeword.{IsWord}
use Rattle.rw_mend.proofs.Same.{other_is, same_is, reported_other, reported_same}
use Rattle.rw_mend.proofs.choice.is_same.Goals as goal

pub returns-then-eq : goal.returns-then-eq
returns-then-eq c =
    let same : c.args.one.now ≡ c.args.other.now =
    reported_same c.args.one.now c.args.other.now c.bytes.result c.bytes-2.result c.eq.result
    (c.bytes.ensures.same ∙ c.word.ensures.same) (c.bytes-2.ensures.same ∙ c.word-2.ensures.same) c.eq.ensures
    c.if-eq.true in
    record {
      reported = same_is c.args.one.now c.args.other.now same;
      same = λ _. same;
      other = λ is. cc;
    }

pub returns : goal.returns
returns c =
    let is = c.bytes.ensures.same ∙ c.word.ensures.same in
    let is' = c.bytes-2.ensures.same ∙ c.word-2.ensures.same in
    let differ : c.args.one.now ≢ c.args.other.now =
    reported_other c.args.one.now c.args.other.now c.bytes.result c.bytes-2.result c.eq.result is is'
    c.eq.ensures
    c.if-eq.false in
    record {
      reported = other_is c.args.one.now c.args.other.now (subst IsWord is c.bytes.ensures.word)
          (subst IsWord is' c.bytes-2.ensures.word) differ;
      same = λ is. cc;
      other = λ _. differ;
    }
