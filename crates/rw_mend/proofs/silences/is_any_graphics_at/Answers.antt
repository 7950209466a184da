use Rattle.std.proofs.Common.{rules, ◌≡◌, true, false, ap, sym, ◌∙◌, arith, below_more}
use Rattle.std.proofs.lemmas.Bool.{false≢true}
use Rattle.rw_mend.specs.Readings.{programs_in}
use Rattle.rw_mend.specs.Candidates.{is_graphics_candidate, candidate_of}
use Rattle.rw_mend.specs.Words.{given_at, reading_at}
use Rattle.rw_mend.proofs.Reading.{count_is, program_at}
use Rattle.rw_mend.proofs.silences.is_any_graphics_at.Goals as goal

pub returns-then-is_graphics_at : goal.returns-then-is_graphics_at
returns-then-is_graphics_at c =
    let holds : c.is_graphics_at.result ≡ true = search rules in
    let s = c.loop-s.s in
    let is = c.program.ensures.program ∙ sym (program_at c.args.readings.now s c.loop-s-test.true) in
    record {
      reading = s;
      within = omega (arith, c.loop-s-test.true, count_is c.args.readings.now);
      graphics =
          ap (λ p. is_graphics_candidate (candidate_of (reading_at p c.args.m))) (sym is)
          ∙ sym c.is_graphics_at.ensures ∙ holds;
    }

pub loop-s-preserved : goal.loop-s-preserved
loop-s-preserved c =
    let fails : c.is_graphics_at.result ≡ false = search rules in
    let s = c.loop-s.s in
    let is = c.program.ensures.program ∙ sym (program_at c.args.readings.now s c.loop-s-test.true) in
    record {
      none = below_more
          (λ k. is_graphics_candidate (given_at (programs_in c.args.readings.now) k c.args.m) ≡ false) s
          c.loop-s.invariant.none
          (ap (λ p. is_graphics_candidate (candidate_of (reading_at p c.args.m))) (sym is)
          ∙ sym c.is_graphics_at.ensures ∙ fails);
    }

pub returns : goal.returns
returns c graphics =
    false≢true
    (sym (c.loop-s.invariant.none graphics.reading
    (omega (arith, graphics.within, c.loop-s-test.false, count_is c.args.readings.now)))
    ∙ graphics.graphics)
