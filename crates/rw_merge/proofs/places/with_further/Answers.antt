use Rattle.std.proofs.Common.{refl, sym, ◌∙◌, arith}
use Rattle.std.proofs.lemmas.Bool.{false≢true}
use Rattle.rw_merge.proofs.Wrong.{AreLeft, no_further, some_further}
use Rattle.rw_merge.proofs.places.with_further.Goals as goal
use Rattle.rw_merge.proofs.places.with_further.Goals.{then-third-first-via-then-third-first, then-third-first-via-else-third-first+then-third-second}

pub returns-then-is_zero : goal.returns-then-is_zero
returns-then-is_zero c = (
  c.with_unused.ensures.apart,
  λ further errors are.
      let left : AreLeft errors c.args.first c.args.second c.without-left.result.zeroth
      c.without-left.result.first =
      let left2 =
      c.without-left.ensures 2 _ (omega arith) (c.without.ensures 3 errors (omega arith) are.have_sums) in
      record { zeroth = left2.zeroth (omega arith); first = left2.first (omega arith) } in
      let none =
      no_further c.args.sums.now c.args.first c.args.second further _ _ errors c.requires.first
      c.requires.second.0 are left (c.if-is_zero.ensures.0 refl) in
      record {
        is_word = are.is_word;
        have_sums = are.have_sums;
        outside =
            λ i lt out. none i lt (λ same. out.0 (same ∙ sym c.with_unused.ensures.first))
            (λ same. out.1.0 (same ∙ sym c.with_unused.ensures.second));
      },
)

pub returns-in_default : goal.returns-in_default
returns-in_default c further errors are =
    let left : AreLeft errors c.args.first c.args.second c.without-left.result.zeroth
    c.without-left.result.first =
    let left2 =
    c.without-left.ensures 2 _ (omega arith) (c.without.ensures 3 errors (omega arith) are.have_sums) in
    record { zeroth = left2.zeroth (omega arith); first = left2.first (omega arith) } in
    let (within, not_first, not_second, leads) =
    some_further c.args.sums.now c.args.first c.args.second further _ _ errors c.requires.first are left
    (λ none. false≢true (c.if-is_zero.ensures.1 none)) in
    c.in_default.ensures further within leads

pub returns-then-third-first : goal.returns-then-third-first
returns-then-third-first c further errors are =
    let left : AreLeft errors c.args.first c.args.second c.without-left.result.zeroth
    c.without-left.result.first =
    let left2 =
    c.without-left.ensures 2 _ (omega arith) (c.without.ensures 3 errors (omega arith) are.have_sums) in
    record { zeroth = left2.zeroth (omega arith); first = left2.first (omega arith) } in
    let (within, not_first, not_second, leads) =
    some_further c.args.sums.now c.args.first c.args.second further _ _ errors c.requires.first are left
    (λ none. false≢true (c.if-is_zero.ensures.1 none)) in
    let is = c.in-Some.ensures.1 further within leads in
    elim c.then-third-first.branch [
      | then-third-first-via-then-third-first w ↦ not_first (is ∙ w.if-third-first.true)
      | then-third-first-via-else-third-first+then-third-second w ↦ not_second (is ∙ w.if-third-second.true)
    ]

pub returns : goal.returns
returns c = (
  c.with_unused-2.ensures.apart,
  λ further errors are.
      let left : AreLeft errors c.args.first c.args.second c.without-left.result.zeroth
      c.without-left.result.first =
      let left2 =
      c.without-left.ensures 2 _ (omega arith) (c.without.ensures 3 errors (omega arith) are.have_sums) in
      record { zeroth = left2.zeroth (omega arith); first = left2.first (omega arith) } in
      let (within, not_first, not_second, leads) =
      some_further c.args.sums.now c.args.first c.args.second further _ _ errors c.requires.first are left
      (λ none. false≢true (c.if-is_zero.ensures.1 none)) in
      let is = c.in-Some.ensures.1 further within leads in
      record {
        is_word = are.is_word;
        have_sums = are.have_sums;
        outside = λ i lt out.
            are.outside i lt (
              λ same. out.0 (same ∙ sym c.with_unused-2.ensures.first),
              (
                λ same. out.1.0 (same ∙ sym c.with_unused-2.ensures.second),
                (λ same. out.1.1.0 (same ∙ is ∙ sym c.with_unused-2.ensures.third), tt),
              ),
            );
      },
)
