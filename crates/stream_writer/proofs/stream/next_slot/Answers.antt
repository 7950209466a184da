use Rattle.std.proofs.Common.{ℕ, ◌+◌, List, sym, ap, subst, ◌∙◌, arith}
use Rattle.rw_code.proofs.CodewordLemmas.{idle_is_codeword}
use Rattle.rw_interleave.specs.Spreading.{spread_next}
use Rattle.rw_code.specs.Packs.{idle_pack}
use Rattle.stream_writer.specs.Given.{AreQuiet, TakesPack}
use Rattle.stream_writer.proofs.Quiet.{loud, one_quiet, still_quiet}
use Rattle.stream_writer.proofs.stream.next_slot.Goals as goal

pub returns-then-quiet-lt-ALL_QUIET-clause-quiet : goal.returns-then-quiet-lt-ALL_QUIET-clause-quiet
returns-then-quiet-lt-ALL_QUIET-clause-quiet g c =
    subst (λ (xs : List (List ℕ)). AreQuiet xs (c.args.quiet.now + 1))
    (sym (c.put_slot.ensures.next ∙ ap (spread_next c.args.spread.now) c.idle.ensures))
    (one_quiet c.args.spread.now c.args.quiet.now c.requires.quiet
    (omega (arith, c.if-quiet-lt-ALL_QUIET.true)))

pub returns-else-quiet-lt-ALL_QUIET-clause-slot : goal.returns-else-quiet-lt-ALL_QUIET-clause-slot
returns-else-quiet-lt-ALL_QUIET-clause-slot g c =
    let Comes : ℕ → List ℕ → Type 0 = g.P.PackSource.comes c.args.source.now in (
      idle_pack,
      subst (λ slot. TakesPack Comes c.args.spread.now c.args.spread.now slot idle_pack)
          (sym c.requires.zeros)
          (still_quiet Comes c.args.spread.now c.args.quiet.now c.requires.quiet
          (omega (arith, c.if-quiet-lt-ALL_QUIET.false)) c.in_default.ensures.pack idle_is_codeword),
    )

pub returns-clause-quiet : goal.returns-clause-quiet
returns-clause-quiet g c =
    subst (λ (xs : List (List ℕ)). AreQuiet xs 0) (sym c.put_slot-2.ensures.next)
    (loud c.args.spread.now c.args.quiet.now c.in-Some.pack c.requires.quiet)
