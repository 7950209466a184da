use Rattle.std.proofs.Common.{arith, rules, ◌∙◌, refl}
use Rattle.cdg_io.proofs.Bytes.{Appends-on}
use Rattle.cdg_io.proofs.buffers.write_front.Goals as goal

pub overflow_add-written : goal.overflow_add-written
overflow_add-written g c =
    let (some, within, put) = c.in-Wrote.ensures.wrote c.in-Wrote.count refl in
    search (rules, arith, within, c.loop-written.invariant.within)

pub loop-written-smaller-in-Wrote : goal.loop-written-smaller-in-Wrote
loop-written-smaller-in-Wrote g c =
    let (some, within, put) = c.in-Wrote.ensures.wrote c.in-Wrote.count refl in
    let same = c.in-Wrote.ensures.interrupts (λ is. (cc)) in
    omega (arith, some, within, same, c.loop-written-test.true)

pub loop-written-preserved-in-Wrote : goal.loop-written-preserved-in-Wrote
loop-written-preserved-in-Wrote g c =
    let (some, within, put) = c.in-Wrote.ensures.wrote c.in-Wrote.count refl in
    record {
      within = search (rules, arith, within);
      put = Appends-on _ _ _ _ _ _ c.loop-written.invariant.put put;
      quiet = c.in-Wrote.ensures.faults (λ is. (cc)) ∙ c.loop-written.invariant.quiet;
    }
