use Rattle.std.proofs.Common.{◌≡◌, ◌<◌, length, get_or, sym, ap, ◌∙◌, inl, inr, arith, rules}
use Rattle.std.proofs.lemmas.Bool.{cases_lt}
use Rattle.rw_merge.proofs.Readings.{differences_equal_from, differences_other_from, nothing_from}
use Rattle.rw_merge.proofs.counting.next_difference.Goals as goal

pub returns-then-first-i : goal.returns-then-first-i
returns-then-first-i c =
    let before = c.loop-i.invariant in
    let x_size : length c.args.first.now ≡ 24 = search rules in
    let y_size : length c.args.second.now ≡ 24 = search rules in
    let lt : c.loop-i.i < length c.args.first.now = omega (arith, c.loop-i-test.true) in
    record {
      later = before.later;
      within = c.loop-i-test.true;
      differ = c.if-first-i.true;
      equal = before.equal;
      count =
          before.count
          ∙ differences_other_from c.args.first.now c.args.second.now c.loop-i.i (x_size ∙ sym y_size) lt
          c.if-first-i.true;
    }

pub loop-i-preserved : goal.loop-i-preserved
loop-i-preserved c =
    let before = c.loop-i.invariant in
    let x_size : length c.args.first.now ≡ 24 = search rules in
    let y_size : length c.args.second.now ≡ 24 = search rules in
    let lt : c.loop-i.i < length c.args.first.now = omega (arith, c.loop-i-test.true) in
    record {
      later = omega (arith, before.later);
      within = omega (arith, c.loop-i-test.true);
      equal = λ k le lt.
          elim (cases_lt k c.loop-i.i) [
            | inl less ↦ before.equal k le less
            | inr after ↦
                let here : c.loop-i.i ≡ k = omega arith in
                ap (λ n. get_or c.args.first.now n 0) (sym here)
                ∙ c.if-first-i.false
                ∙ ap (λ n. get_or c.args.second.now n 0) here
          ];
      count =
          before.count
          ∙ differences_equal_from c.args.first.now c.args.second.now c.loop-i.i (x_size ∙ sym y_size) lt
          c.if-first-i.false;
    }

pub returns : goal.returns
returns c =
    let done = c.loop-i.invariant in
    let x_size : length c.args.first.now ≡ 24 = search rules in
    let y_size : length c.args.second.now ≡ 24 = search rules in
    record {
      equal = λ k le lt. done.equal k le (omega (arith, c.loop-i-test.false, lt));
      none =
          done.count
          ∙ nothing_from c.args.first.now c.args.second.now c.loop-i.i (omega (arith, c.loop-i-test.false))
          (omega (arith, c.loop-i-test.false));
    }
