use Rattle.std.proofs.Common.{◌≡◌, ℕ, ◌+◌, List, refl, arith, subst}
use Rattle.stream_writer.specs.Given.{ComesLater}
use Rattle.stream_writer.proofs.Slots.{none_written, none_later, slot_more, slot_zeros, all_taken, all_small, later_more}
use Rattle.stream_writer.proofs.stream.put_slots.Goals as goal

pub loop-k-init : goal.loop-k-init
loop-k-init g c = record {
  written =
      none_written (g.P.PackSource.comes c.args.source.now) c.args.spread.now c.args.symbols.now
      c.requires.zeros;
  quiet = c.requires.quiet;
  later = none_later _;
}

pub loop-k-preserved : goal.loop-k-preserved
loop-k-preserved g c =
    let so_far = c.loop-k.invariant in
    let Comes : ℕ → List ℕ → Type 0 = g.P.PackSource.comes c.args.source.now in
    let Now : ℕ → List ℕ → Type 0 = g.P.PackSource.comes c.loop-k.source in
    let taken = c.next_slot.ensures.slot in
    record {
      written =
          slot_more Comes Now c.args.spread.now c.loop-k.spread c.next_slot.new.spread
          c.loop-k.k c.loop-k.symbols taken.0 c.next_slot.new.slot so_far.written c.loop-k-test.true
          so_far.later
          taken.1.comes taken.1.codeword taken.1.after_is taken.1.slot_is c.next_slot.ensures.word.size
          c.next_slot.ensures.word.symbols;
      quiet = c.next_slot.ensures.quiet;
      later =
          later_more Comes Now (g.P.PackSource.comes c.next_slot.new.source) c.loop-k.k 1 (c.loop-k.k + 1)
          so_far.later c.next_slot.ensures.later refl;
    }

pub next_slot-requires-clause-zeros : goal.next_slot-requires-clause-zeros
next_slot-requires-clause-zeros g c =
    slot_zeros c.loop-k.symbols c.loop-k.k c.loop-k-test.true c.loop-k.invariant.written.rest

pub returns-clause-symbols : goal.returns-clause-symbols
returns-clause-symbols g c = all_taken _ _ _ c.loop-k.k _ c.loop-k.invariant.written (omega arith)

pub returns-clause-bound : goal.returns-clause-bound
returns-clause-bound g c = all_small _ _ _ c.loop-k.k _ c.loop-k.invariant.written (omega arith)

pub returns-clause-later : goal.returns-clause-later
returns-clause-later g c =
    let all : c.loop-k.k ≡ 4 = omega arith in
    subst (λ n. ComesLater (g.P.PackSource.comes c.args.source.now) n (g.P.PackSource.comes c.loop-k.source))
    all c.loop-k.invariant.later
