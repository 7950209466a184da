use Rattle.std.proofs.Common.{◌<◌, ◌+◌, length, get_or, sym, ◌∙◌, subst, arith, below_more}
use Rattle.std.proofs.Math.ListN.{set, length-set}
use Rattle.std.proofs.lemmas.List.{get_or_default, get_or-set_other, get_or-set_same}
use Rattle.rw_mend.specs.Readings.{programs_in}
use Rattle.rw_mend.specs.Rows.{no_history}
use Rattle.rw_mend.specs.Silences.{IsSilence, no_silence}
use Rattle.rw_mend.specs.Histories.{IsHistory}
use Rattle.rw_mend.specs.declared.candidates.Candidate.TheVariants.{Silent}
use Rattle.rw_mend.proofs.Reading.{count_is, program_at}
use Rattle.rw_mend.proofs.silences.advance_all.Goals as goal

pub advance-requires-clause-given : goal.advance-requires-clause-given
advance-requires-clause-given c =
    c.index-row-r.is
    ∙ get_or_default c.args.row.now c.loop-r.r c.index-row-r.result Silent c.loop-r-test.true
    ∙ c.requires.row.each c.loop-r.r
    (omega (arith, c.loop-r-test.true, c.requires.count, count_is c.args.readings.now))

pub advance-requires-clause-before : goal.advance-requires-clause-before
advance-requires-clause-before c =
    subst (IsSilence c.args.words (programs_in c.args.readings.now) c.loop-r.r c.args.n)
    (sym (c.loop-r.invariant.later c.loop-r.r (omega arith)))
    (c.requires.before.each c.loop-r.r
    (omega (arith, c.loop-r-test.true, c.requires.count, count_is c.args.readings.now)))

pub advance-requires-clause-history : goal.advance-requires-clause-history
advance-requires-clause-history c =
    let readings = c.args.readings.now in
    let r = c.loop-r.r in
    let among : r < readings.count = omega (arith, c.loop-r-test.true, c.requires.count) in
    subst (λ p. IsHistory p c.args.n (get_or c.args.histories.now r no_history)) (program_at readings r among)
    (c.requires.histories.each r (omega (arith, among, count_is readings)))

pub loop-r-preserved : goal.loop-r-preserved
loop-r-preserved c =
    let programs = programs_in c.args.readings.now in
    let r = c.loop-r.r in
    let silences = c.loop-r.silences in
    let new = c.advance.new.self in
    let is = c.loop-r.invariant in
    let long : r < length silences =
    omega (arith, is.size, c.loop-r-test.true, c.requires.count, c.requires.size) in
    record {
      size = length-set silences r new ∙ is.size;
      done = below_more
          (λ k. IsSilence c.args.words programs k (c.args.n + 1) (get_or (set silences r new) k no_silence)) r
          (λ k lt. subst (IsSilence c.args.words programs k (c.args.n + 1))
          (sym (get_or-set_other silences r k new no_silence (λ e. omega (arith, e, lt)))) (is.done k lt))
          (subst (IsSilence c.args.words programs r (c.args.n + 1))
          (sym (get_or-set_same silences r new no_silence long)) c.advance.ensures.silence);
      later =
          λ k lt.
          get_or-set_other silences r k new no_silence (λ e. omega (arith, e, lt))
          ∙ is.later k (omega (arith, lt));
      calm = c.advance.ensures.calm;
    }

pub returns-clause-silences : goal.returns-clause-silences
returns-clause-silences c = record {
  each =
      λ r lt.
      c.loop-r.invariant.done r
      (omega (arith, lt, c.loop-r-test.false, c.requires.count, count_is c.args.readings.now));
}

pub returns-clause-calm : goal.returns-clause-calm
returns-clause-calm c = record {
  none = λ m from to. c.loop-r.invariant.calm.none m (omega (arith, from)) to;
}
