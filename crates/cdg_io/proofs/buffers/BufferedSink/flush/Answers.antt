use Rattle.std.proofs.Common.{◌≤◌, ◌-◌, ℕ, List, length, take, ap, sym, arith, length-take-le}
use Rattle.std.proofs.lemmas.Grind.{common_steps}
use Rattle.std.proofs.lemmas.List.{length-take}
use Rattle.cdg_io.proofs.buffers.BufferedSink.flush.Goals as goal

-- what was written is a part of the waiting bytes
written_fits : (written end : ℕ) (bytes : List ℕ) → written ≤ length (take end bytes) → written ≤ end
written_fits written end bytes within = omega (arith, length-take end bytes)

-- and the bytes that still wait fit
rest_fits : (end written room : ℕ) → end ≤ room → end - written ≤ room
rest_fits end written room fits = omega arith

pub slice_bounds-write_front-end : goal.slice_bounds-write_front-end
slice_bounds-write_front-end g c =
    sym (length-take-le c.self.inside.end c.deref.result.now
    (omega (arith, ap length c.deref.ensures.value, c.self.invariant.2)))

pub move_to_front-requires : goal.move_to_front-requires
move_to_front-requires g c = (
  written_fits _ _ c.deref.result.now c.write_front-written.ensures.within,
  omega (arith, c.deref_mut.ensures.len, c.self.invariant.2),
)

pub overflow_sub-self : goal.overflow_sub-self
overflow_sub-self g c = written_fits _ _ c.deref.result.now c.write_front-written.ensures.within

pub invariant_of-self : goal.invariant_of-self
invariant_of-self g c =
    (c.self.invariant.0, c.self.invariant.1, rest_fits _ c.write_front-written.result _ c.self.invariant.2)

pub invariant_of-self-2 : goal.invariant_of-self-2
invariant_of-self-2 g c =
    (c.self.invariant.0, c.self.invariant.1, rest_fits _ c.write_front-written.result _ c.self.invariant.2)

pub returns-clause-bytes : goal.returns-clause-bytes
returns-clause-bytes g c = grind (arith, common_steps)

pub returns-then-self-gt0-clause-bytes : goal.returns-then-self-gt0-clause-bytes
returns-then-self-gt0-clause-bytes g c = grind (arith, common_steps)
