use Rattle.std.proofs.Common.{◌<◌, true, sym, subst, ◌∙◌}
use Rattle.std.proofs.lemmas.Option.{none-some, cond_some}
use Rattle.rw_code.specs.Syndromes.{IsError, IsEntry}
use Rattle.rw_code.proofs.SyndromeLemmas.{lane-lt, only_entry}
use Rattle.rw_code.proofs.Locating.{one_sum}
use Rattle.rw_code.proofs.correction.one_error.Goals as goal

pub returns-in_default : goal.returns-in_default
returns-in_default c = λ i e wrong.
    let sum = one_sum c.args.syndromes.lanes i e _ c.sums-zeroth.ensures wrong in
    none-some i (c.in_default.ensures.only i (subst (IsError i) (sym sum.0) wrong.is_error) sum.1)

pub returns-then-entry-syndromes : goal.returns-then-entry-syndromes
returns-then-entry-syndromes c = λ i e wrong.
    let sum = one_sum c.args.syndromes.lanes i e _ c.sums-zeroth.ensures wrong in
    let at =
    (cond_some true _ _ (c.in-Some.ensures.only i (subst (IsError i) (sym sum.0) wrong.is_error) sum.1)).1 in
    let part : IsEntry i e c.entry.result =
    subst (λ n. IsEntry n e c.entry.result) at (subst (λ n. IsEntry c.in-Some.position n c.entry.result)
    (c.value.ensures.value ∙ sum.0) c.entry.ensures) in
    c.if-entry-syndromes.true (only_entry i e c.entry.result c.args.syndromes.lanes part wrong.entry)

pub returns : goal.returns
returns c =
    let zeroth = c.sums-zeroth.result.zeroth in
    record {
      is_error = record {
        place = c.in-Some.ensures.error.0;
        below = subst (λ n. n < 64) (sym c.sums-zeroth.ensures.zeroth) (lane-lt 0 c.args.syndromes.lanes);
        wrong = c.in-Some.ensures.error.1;
      };
      entry =
          subst (IsEntry c.in-Some.position zeroth) c.if-entry-syndromes.false
          (subst (λ n. IsEntry c.in-Some.position n c.entry.result) c.value.ensures.value c.entry.ensures);
    }
