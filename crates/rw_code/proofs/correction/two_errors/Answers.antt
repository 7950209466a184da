use Rattle.std.proofs.Common.{◌<◌, ℕ, true, ap, ap₂, sym, subst, subst₂, ◌∙◌, bit_xor}
use Rattle.std.proofs.lemmas.Option.{none-some, cond_some}
use Rattle.rw_code.specs.Syndromes.{IsError}
use Rattle.rw_code.specs.declared.correction.Places.{Places}
use Rattle.rw_code.proofs.SyndromeLemmas.{only_entry}
use Rattle.rw_code.proofs.Locating.{two_sums, two_locator, two_entries}
use Rattle.rw_code.proofs.correction.two_errors.Goals as goal

abbrev first_of : Places → ℕ
first_of places = places.first

abbrev second_of : Places → ℕ
second_of places = places.second

pub returns-in_default : goal.returns-in_default
returns-in_default c = λ i e j f wrong.
    none-some _ (c.in_default.ensures.only i j wrong.apart wrong.second.place (two_locator
    c.args.syndromes.lanes i e j f c.sums-sums.result c.of.result c.sums-sums.ensures c.of.ensures wrong))

pub returns-in_default-errors_at : goal.returns-in_default-errors_at
returns-in_default-errors_at c = λ i e j f wrong.
    let lanes = c.args.syndromes.lanes in
    let sums = c.sums-sums.result in
    let same = (cond_some true _ _ (c.in-Some.ensures.only i j wrong.apart wrong.second.place
    (two_locator lanes i e j f sums c.of.result c.sums-sums.ensures c.of.ensures wrong))).1 in
    none-some _ (c.in_default-errors_at.ensures.only e f (two_sums lanes i e j f sums c.in-Some.places
    c.sums-sums.ensures wrong (ap first_of same) (ap second_of same)))

pub returns-then-part-syndromes : goal.returns-then-part-syndromes
returns-then-part-syndromes c = λ i e j f wrong.
    let lanes = c.args.syndromes.lanes in
    let sums = c.sums-sums.result in
    let places = (cond_some true _ _ (c.in-Some.ensures.only i j wrong.apart wrong.second.place
    (two_locator lanes i e j f sums c.of.result c.sums-sums.ensures c.of.ensures wrong))).1 in
    let errors = (cond_some true _ _ (c.in-Some-errors_at.ensures.only e f (two_sums lanes i e j f sums
    c.in-Some.places c.sums-sums.ensures wrong (ap first_of places) (ap second_of places)))).1 in
    c.if-part-syndromes.true (sym (two_entries lanes i e j f c.in-Some.places c.in-Some-errors_at.errors _ _
    wrong (ap first_of places) (ap second_of places) errors c.entry.ensures c.entry-2.ensures))

pub returns : goal.returns
returns c =
    let some = c.in-Some-errors_at.ensures.some in
    let errors = c.in-Some-errors_at.errors in
    record {
      apart = subst₂ (λ m n. m < n) (sym some.0) (sym some.1) c.in-Some.ensures.places.0;
      first = subst (λ n. IsError n errors.first.value) (sym some.0) some.2;
      second = subst (λ n. IsError n errors.second.value) (sym some.1) some.3;
      sum =
          λ p q p_is q_is. sym c.if-part-syndromes.false
          ∙ ap₂ bit_xor (only_entry _ _ _ _ c.entry.ensures p_is) (only_entry _ _ _ _ c.entry-2.ensures q_is);
    }
