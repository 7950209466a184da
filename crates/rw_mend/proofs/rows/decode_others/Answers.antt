use Rattle.std.proofs.Common.{◌≡◌, ◌∙◌, ◌<◌, ◌-◌, ◌+◌, ◌/◌, subst, subst₂, sym, refl, ap, arith, get_or, length, ℕ, below_more}
use Rattle.std.proofs.Math.ListN.{set, length-set}
use Rattle.std.proofs.lemmas.List.{get_or-set_other, get_or-set_same}
use Rattle.rw_mend.specs.Choice.{candidate_of_reading}
use Rattle.rw_mend.specs.declared.candidates.Candidate.TheVariants.{Silent}
use Rattle.rw_mend.specs.Readings.{program_in}
use Rattle.rw_mend.specs.Rows.{no_history}
use Rattle.rw_mend.specs.Histories.{AreSameFrom, IsHistory}
use Rattle.rw_mend.specs.Candidates.{candidate_of}
use Rattle.rw_mend.specs.Words.{reading_at}
use Rattle.rw_mend.proofs.rows.decode_others.Goals as goal

pub loop-r-init : goal.loop-r-init
loop-r-init c =
    let readings = c.args.readings.now in
    let n = c.args.n in
    let histories = c.args.histories.now in
    let same_from = c.args.same_from.now in
    record {
      least = omega arith;
      histories_size = refl;
      row_size = c.requires.row_size;
      same_size = refl;
      untouched = λ k lt. refl;
      same_untouched = λ k lt. refl;
      histories =
          λ k lt.
          let first : 0 ≡ k = omega (arith, lt) in
          subst (λ j. IsHistory (program_in readings j) n (get_or histories j no_history)) first
          (subst₂ (λ p t. IsHistory p n t) c.requires.program (sym c.requires.first_history)
          c.requires.history);
      same =
          λ k lt.
          let first : 0 ≡ k = omega (arith, lt) in
          subst
          (λ j. AreSameFrom (program_in readings 0) (program_in readings j) ((n + 7) / 4 + 1)
          (get_or same_from j 0)) first (record { each = λ b low within. refl });
      decoded =
          λ k lt.
          let first : 0 ≡ k = omega (arith, lt) in
          subst
          (λ j. candidate_of_reading c.args.row.now.candidates j
          ≡ candidate_of (reading_at (program_in readings j) n))
          first
          (c.requires.first_candidate ∙ c.requires.candidate
          ∙ ap (λ p. candidate_of (reading_at p n)) c.requires.program);
    }

pub decode_beside-requires-clause-history : goal.decode_beside-requires-clause-history
decode_beside-requires-clause-history c some =
    let r = c.loop-r.r in
    subst₂ (λ p t. IsHistory p (c.args.n - 1) t) (sym c.program.ensures.program)
    (sym (c.loop-r.invariant.untouched r (omega arith)))
    (c.requires.histories r some c.loop-r.invariant.least c.loop-r-test.true)

pub decode_beside-requires-clause-same : goal.decode_beside-requires-clause-same
decode_beside-requires-clause-same c =
    let readings = c.args.readings.now in
    let r = c.loop-r.r in
    let blocks = (c.args.n + 6) / 4 + 1 in
    subst (λ f. AreSameFrom f c.program.result.now blocks (get_or c.loop-r.same_from r 0))
    (sym c.requires.program)
    (subst₂ (λ p from. AreSameFrom (program_in readings 0) p blocks from) (sym c.program.ensures.program)
    (sym (c.loop-r.invariant.same_untouched r (omega arith)))
    (c.requires.same.each r c.loop-r-test.true))

pub loop-r-preserved : goal.loop-r-preserved
loop-r-preserved c =
    let readings = c.args.readings.now in
    let n = c.args.n in
    let r = c.loop-r.r in
    let histories = c.loop-r.histories in
    let same_from = c.loop-r.same_from in
    let candidates = c.loop-r.row.candidates in
    let new = c.decode_beside.new in
    let was = c.loop-r.invariant in
    let blocks : ℕ = (n + 7) / 4 + 1 in
    let lt : r < readings.count = c.loop-r-test.true in
    let long : r < length histories = omega (arith, was.histories_size, lt, c.requires.histories_size) in
    let wide : r < length same_from = omega (arith, was.same_size, lt, c.requires.same_size) in
    let first : c.args.first.now.program.now ≡ program_in readings 0 = c.requires.program in
    let program : c.program.result.now ≡ program_in readings r = c.program.ensures.program in
    record {
      least = omega arith;
      histories_size = length-set histories r new.history ∙ was.histories_size;
      row_size = length-set candidates r new.candidate ∙ was.row_size;
      same_size = length-set same_from r new.same_from ∙ was.same_size;
      untouched =
          λ k later.
          get_or-set_other histories r k new.history no_history (λ e. omega (arith, e, later))
          ∙ was.untouched k (omega (arith, later));
      same_untouched =
          λ k later.
          get_or-set_other same_from r k new.same_from 0 (λ e. omega (arith, e, later))
          ∙ was.same_untouched k (omega (arith, later));
      histories = below_more
          (λ k. IsHistory (program_in readings k) n (get_or (set histories r new.history) k no_history)) r
          (λ k before. subst (λ t. IsHistory (program_in readings k) n t)
          (sym (get_or-set_other histories r k new.history no_history (λ e. omega (arith, e, before))))
          (was.histories k before))
          (subst₂ (λ p t. IsHistory p n t) program
          (sym (get_or-set_same histories r new.history no_history long))
          c.decode_beside.ensures.history);
      same = below_more
          (λ k. AreSameFrom (program_in readings 0) (program_in readings k) blocks
          (get_or (set same_from r new.same_from) k 0)) r
          (λ k before. subst (λ f. AreSameFrom (program_in readings 0) (program_in readings k) blocks f)
          (sym (get_or-set_other same_from r k new.same_from 0 (λ e. omega (arith, e, before))))
          (was.same k before))
          (subst (λ f. AreSameFrom f (program_in readings r) blocks
          (get_or (set same_from r new.same_from) r 0)) first
          (subst₂ (λ p f. AreSameFrom c.args.first.now.program.now p blocks f) program
          (sym (get_or-set_same same_from r new.same_from 0 wide)) c.decode_beside.ensures.same));
      decoded = below_more
          (λ k. candidate_of_reading (set candidates r new.candidate) k
          ≡ candidate_of (reading_at (program_in readings k) n)) r
          (λ k before. get_or-set_other candidates r k new.candidate Silent (λ e. omega (arith, e, before))
          ∙ was.decoded k before)
          (get_or-set_same candidates r new.candidate Silent
          (omega (arith, c.loop-r.invariant.row_size, lt, c.requires.readings.few))
          ∙ c.decode_beside.ensures.candidate ∙ ap (λ p. candidate_of (reading_at p n)) program);
    }

pub returns-clause-same : goal.returns-clause-same
returns-clause-same c = record {
  each = λ r lt. c.loop-r.invariant.same r (omega (arith, lt, c.loop-r-test.false));
}
