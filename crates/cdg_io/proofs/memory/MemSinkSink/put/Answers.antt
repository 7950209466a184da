use Rattle.std.proofs.Common.{◌≡◌, ◌+◌, ◌-◌, ◌^◌, ℕ, List, length, min, inl, inr, Contains, refl, ap, sym, ◌∙◌, subst, rules, arith, length-take-le}
use Rattle.std.proofs.lemmas.List.{length-take}
use Rattle.cdg_io.specs.Memory.{SinkInMemory, may_move, next_number}
use Rattle.cdg_io.proofs.Stops.{rose_by_one}
use Rattle.cdg_io.proofs.memory.MemSinkSink.put.Goals as goal
use Rattle.cdg_io.proofs.memory.MemSinkSink.put.Goals.{then-room-eq0-via-then-room-eq0, then-room-eq0-via-else-room-eq0+then-is_listed}

-- the number of a call is listed
listed : (inside now : SinkInMemory) (fails : List ℕ) → inside ≡ now → fails ≡ inside.fails
    → Contains fails inside.calls
    → Contains now.fails now.calls
listed inside now fails same is has =
    subst (λ (s : SinkInMemory). Contains s.fails s.calls) same
    (subst (λ (xs : List ℕ). Contains xs inside.calls) is has)

pub overflow_sub-room : goal.overflow_sub-room
overflow_sub-room c = omega (arith, c.len.ensures, c.self.invariant.0)

-- ---- The call fails.

pub invariant_of-self : goal.invariant_of-self
invariant_of-self c = c.self.invariant

pub returns-then-room-eq0-clause-fails : goal.returns-then-room-eq0-clause-fails
returns-then-room-eq0-clause-fails c = (
  λ _. elim c.then-room-eq0.branch [
    | then-room-eq0-via-then-room-eq0 w ↦ inr (
        let size : c.len.result ≡ length c.self.inside.bytes.items = search rules in
        omega (
          arith,
          size,
          w.if-room-eq0.true,
          c.self.invariant.0,
          c.len.ensures,
          ap (λ (s : SinkInMemory). length s.held) c.self.view_is,
          ap (λ (s : SinkInMemory). s.room) c.self.view_is,
        )
        )
    | then-room-eq0-via-else-room-eq0+then-is_listed w ↦ inl (
        listed _ c.args.self.now w.deref.result.now c.self.view_is w.deref.ensures.value
        (w.if-is_listed.ensures.0 (search rules))
        )
  ],
  λ _. refl,
)

pub returns-then-room-eq0-clause-bound : goal.returns-then-room-eq0-clause-bound
returns-then-room-eq0-clause-bound c = tt

pub returns-then-room-eq0-clause-bytes : goal.returns-then-room-eq0-clause-bytes
returns-then-room-eq0-clause-bytes c = ap (λ (v : SinkInMemory). v.held) c.self.view_is

pub returns-then-room-eq0-clause-counted : goal.returns-then-room-eq0-clause-counted
returns-then-room-eq0-clause-counted c =
    c.saturating_add-self-inside-then-room-eq0.ensures
    ∙ ap (λ (v : SinkInMemory). min (v.faults + 1) (2 ^ 64 - 1)) c.self.view_is

pub returns-then-room-eq0-clause-cause : goal.returns-then-room-eq0-clause-cause
returns-then-room-eq0-clause-cause c =
    let same : c.self.inside.faults ≡ c.args.self.now.faults =
    ap (λ (v : SinkInMemory). v.faults) c.self.view_is in
    record {
      later = omega (arith, same);
      failed = rose_by_one _ _ (returns-then-room-eq0-clause-counted c);
      same = tt;
    }

pub returns-then-room-eq0-clause-takes : goal.returns-then-room-eq0-clause-takes
returns-then-room-eq0-clause-takes c = tt

pub returns-then-room-eq0-clause-number : goal.returns-then-room-eq0-clause-number
returns-then-room-eq0-clause-number c =
    c.saturating_add-self-inside.ensures ∙ ap (λ (v : SinkInMemory). next_number v.calls) c.self.view_is

pub returns-then-room-eq0-clause-same : goal.returns-then-room-eq0-clause-same
returns-then-room-eq0-clause-same c = (
  ap (λ (v : SinkInMemory). v.cuts) c.self.view_is,
  ap (λ (v : SinkInMemory). v.fails) c.self.view_is,
  ap (λ (v : SinkInMemory). v.room) c.self.view_is,
)

-- ---- It accepts some bytes.

pub returns-clause-counted : goal.returns-clause-counted
returns-clause-counted c = ap (λ (v : SinkInMemory). v.faults) c.self.view_is

pub returns-clause-cause : goal.returns-clause-cause
returns-clause-cause c =
    let same = returns-clause-counted c in
    record { later = omega (arith, same); failed = tt; same = same }

pub returns-clause-number : goal.returns-clause-number
returns-clause-number c =
    c.saturating_add-self-inside.ensures ∙ ap (λ (v : SinkInMemory). next_number v.calls) c.self.view_is

pub returns-clause-same : goal.returns-clause-same
returns-clause-same c = (
  ap (λ (v : SinkInMemory). v.cuts) c.self.view_is,
  ap (λ (v : SinkInMemory). v.fails) c.self.view_is,
  ap (λ (v : SinkInMemory). v.room) c.self.view_is,
)

pub returns-clause-takes : goal.returns-clause-takes
returns-clause-takes c =
    let n = length c.args.piece.now in
    let size : c.len.result ≡ length c.self.inside.bytes.items = search rules in
    c.min-count.ensures
    ∙ ap (λ (k : ℕ). min k (c.self.inside.room - c.len.result)) (c.most_of.ensures.most
    ∙ ap (λ (cuts : List ℕ). may_move cuts c.self.inside.calls n) c.deref-2.ensures.value)
    ∙ ap (λ (k : ℕ). min (may_move c.self.inside.cuts.items c.self.inside.calls n) (c.self.inside.room - k))
    size
    ∙ ap (λ (s : SinkInMemory). min (may_move s.cuts s.calls n) (s.room - length s.held)) c.self.view_is

pub returns-clause-bound : goal.returns-clause-bound
returns-clause-bound c = (
  omega (arith, c.min-count.ensures, c.most_of.ensures.some, c.if-room-eq0.false),
  omega (arith, c.min-count.ensures, c.most_of.ensures.within),
)

pub slice_bounds-extend_from_slice-end : goal.slice_bounds-extend_from_slice-end
slice_bounds-extend_from_slice-end c =
    sym (length-take-le c.min-count.result c.args.piece.now
    (omega (arith, c.min-count.ensures, c.most_of.ensures.within)))

pub unwrap-requires : goal.unwrap-requires
unwrap-requires c =
    c.extend_from_slice.ensures.succeeds (omega (
      arith,
      length-take c.min-count.result c.args.piece.now,
      c.min-count.ensures,
      c.len.ensures,
      c.self.invariant.0,
      c.self.invariant.1,
    ))
