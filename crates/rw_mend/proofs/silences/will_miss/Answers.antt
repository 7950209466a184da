use Rattle.std.proofs.Common.{rules, ◌≡◌, suc, true, false, ap, sym, ◌∙◌, subst, subst₂, List, ℕ, inl, inr, arith}
use Rattle.std.proofs.lemmas.Bool.{cases_eq, false≢true}
use Rattle.std.proofs.lemmas.Bool.Decides.{leb_tells}
use Rattle.rw_mend.specs.Drops.{Misses}
use Rattle.rw_mend.specs.Readings.{program_in, programs_in}
use Rattle.rw_mend.specs.Histories.{IsHistory}
use Rattle.rw_mend.specs.Candidates.{is_quiet_candidate, candidate_of}
use Rattle.rw_mend.specs.Words.{given_at, reading_at}
use Rattle.rw_mend.proofs.Missing.{match_not, match_true}
use Rattle.rw_mend.proofs.Reading.{count_is, program_at}
use Rattle.rw_mend.proofs.silences.will_miss.Goals as goal

pub returns-then-misses_here : goal.returns-then-misses_here
returns-then-misses_here c =
    let readings = c.args.readings.now in
    let programs = programs_in readings in
    let size = count_is readings ∙ sym c.requires.count in
    let holds : c.misses_here.result ≡ true = search rules in
    record {
      will = record {
        word = c.args.n;
        from = omega arith;
        within = c.requires.within;
        quiet =
            λ k from to.
            subst (λ j. is_quiet_candidate (given_at programs c.args.r j) ≡ true) (omega (arith, from, to))
            c.requires.quiet;
        misses = match_true c.misses_here.result (Misses programs c.args.r c.args.n) holds
            (c.misses_here.ensures.reported programs size c.requires.row);
      };
      calm = c.misses_here.ensures.calm programs size c.requires.row c.requires.calm;
    }

pub loop-m-init : goal.loop-m-init
loop-m-init c =
    let readings = c.args.readings.now in
    let programs = programs_in readings in
    let size = count_is readings ∙ sym c.requires.count in
    let fails : c.misses_here.result ≡ false = search rules in
    let none : ¬ Misses programs c.args.r c.args.n =
    match_not c.misses_here.result (Misses programs c.args.r c.args.n) fails
    (c.misses_here.ensures.reported programs size c.requires.row) in
    record {
      from = omega arith;
      quiet =
          λ k from to.
          subst (λ j. is_quiet_candidate (given_at programs c.args.r j) ≡ true) (omega (arith, from, to))
          c.requires.quiet;
      none = λ k from to misses.
          none (subst (λ j. Misses programs c.args.r j) (omega (arith, from, to)) misses);
      history = subst (λ k. IsHistory (program_in readings c.args.r) k c.args.history.now) (omega arith)
          c.requires.history;
      calm = c.misses_here.ensures.calm programs size c.requires.row c.requires.calm;
    }

pub returns-then-not-is_quiet_at-clause-will : goal.returns-then-not-is_quiet_at-clause-will
returns-then-not-is_quiet_at-clause-will c will =
    let readings = c.args.readings.now in
    let programs = programs_in readings in
    let r = c.args.r in
    let m = c.loop-m.m in
    let is = c.program-program.ensures.program ∙ sym (program_at readings r c.requires.reading) in
    let fails : c.is_quiet_at.result ≡ false = search rules in
    let loud : is_quiet_candidate (given_at programs r m) ≡ false =
    ap (λ p. is_quiet_candidate (candidate_of (reading_at p m))) (sym is)
    ∙ sym c.is_quiet_at.ensures
    ∙ fails in
    elim (leb_tells (suc will.word) m) [
      | inl before ↦ c.loop-m.invariant.none will.word will.from (omega (arith, before.1)) will.misses
      | inr past ↦
          false≢true
          (sym loud ∙ will.quiet m (omega (arith, c.loop-m.invariant.from)) (omega (arith, past.1)))
    ]

pub returns-then-misses_at-clause-will : goal.returns-then-misses_at-clause-will
returns-then-misses_at-clause-will c =
    let readings = c.args.readings.now in
    let programs = programs_in readings in
    let r = c.args.r in
    let m = c.loop-m.m in
    let is = c.program-program.ensures.program ∙ sym (program_at readings r c.requires.reading) in
    let quiet : c.is_quiet_at.result ≡ true = search rules in
    let here : is_quiet_candidate (given_at programs r m) ≡ true =
    ap (λ p. is_quiet_candidate (candidate_of (reading_at p m))) (sym is)
    ∙ sym c.is_quiet_at.ensures
    ∙ quiet in
    let holds : c.misses_at.result ≡ true = search rules in
    record {
      word = m;
      from = omega (arith, c.loop-m.invariant.from);
      within = c.loop-m-test.true;
      quiet =
          λ k from to.
          elim (cases_eq k m) [
            | inl same ↦ subst (λ j. is_quiet_candidate (given_at programs r j) ≡ true) (sym same) here
            | inr differs ↦ c.loop-m.invariant.quiet k from (omega (arith, to, differs))
          ];
      misses = match_true c.misses_at.result (Misses programs r m) holds c.misses_at.ensures.reported;
    }

pub misses_at-requires-clause-quiet : goal.misses_at-requires-clause-quiet
misses_at-requires-clause-quiet c =
    let readings = c.args.readings.now in
    let m = c.loop-m.m in
    let is = c.program-program.ensures.program ∙ sym (program_at readings c.args.r c.requires.reading) in
    let quiet : c.is_quiet_at.result ≡ true = search rules in
    ap (λ p. is_quiet_candidate (candidate_of (reading_at p m))) (sym is) ∙ sym c.is_quiet_at.ensures ∙ quiet

pub misses_at-requires-clause-calm : goal.misses_at-requires-clause-calm
misses_at-requires-clause-calm c = record {
  none = λ k from to. c.loop-m.invariant.calm.none k (omega (arith, from, c.loop-m.invariant.from)) to;
}

pub loop-m-preserved : goal.loop-m-preserved
loop-m-preserved c =
    let readings = c.args.readings.now in
    let programs = programs_in readings in
    let r = c.args.r in
    let m = c.loop-m.m in
    let is = c.program-program.ensures.program ∙ sym (program_at readings r c.requires.reading) in
    let quiet : c.is_quiet_at.result ≡ true = search rules in
    let here : is_quiet_candidate (given_at programs r m) ≡ true =
    ap (λ p. is_quiet_candidate (candidate_of (reading_at p m))) (sym is)
    ∙ sym c.is_quiet_at.ensures
    ∙ quiet in
    let fails : c.misses_at.result ≡ false = search rules in
    let none : ¬ Misses programs r m =
    match_not c.misses_at.result (Misses programs r m) fails c.misses_at.ensures.reported in
    record {
      from = omega (arith, c.loop-m.invariant.from);
      quiet =
          λ k from to.
          elim (cases_eq k m) [
            | inl same ↦ subst (λ j. is_quiet_candidate (given_at programs r j) ≡ true) (sym same) here
            | inr differs ↦ c.loop-m.invariant.quiet k from (omega (arith, to, differs))
          ];
      none =
          λ k from to misses.
          elim (cases_eq k m) [
            | inl same ↦ none (subst (λ j. Misses programs r j) same misses)
            | inr differs ↦ c.loop-m.invariant.none k from (omega (arith, to, differs)) misses
          ];
      history =
          subst₂ (λ (p : List ℕ) (k : ℕ). IsHistory p k c.advance.new.self) c.program-program.ensures.program
          (omega arith) c.advance.ensures;
      calm = c.misses_at.ensures.calm c.args.n c.loop-m.invariant.calm;
    }

pub returns-clause-will : goal.returns-clause-will
returns-clause-will c will =
    c.loop-m.invariant.none will.word will.from (omega (arith, will.within, c.loop-m-test.false)) will.misses
