use Rattle.std.proofs.Common.{arith, ap, sym, rules, tests, ℕ, ◌≡◌, true, false}
use Rattle.std.specs.Prelude.{nat_le}
use Rattle.std.specs.List.Sorted.{IsPartitionPoint}
use Rattle.std.proofs.lemmas.List.Sorted.{IsPartitionPoint-from_clause}
use Rattle.toc_model.specs.Places.{TrackPlace}
use Rattle.toc_model.proofs.Lines.{lines_partitioned, index_of_begun, index_of_none}
use Rattle.toc_model.proofs.place.Place.index_at.Goals as goal

pub returns-clause-index : goal.returns-clause-index
returns-clause-index c =
    let same = c.deref.ensures.value in
    let point : IsPartitionPoint (λ (l : ℕ × ℕ). nat_le l.1 c.args.block ≡ true)
    (λ (l : ℕ × ℕ). nat_le l.1 c.args.block ≡ false) c.deref.result.now c.partition_point-begun.result =
    IsPartitionPoint-from_clause (λ (l : ℕ × ℕ). nat_le l.1 c.args.block) c.deref.result.now
    c.partition_point-begun.result c.partition_point-begun.ensures.partitioned
    (rw same (lines_partitioned c.self.inside.lines.items c.args.block c.self.invariant.lines))
    (λ a r f k. search (rules, tests)) in
    index_of_begun c.args.self.now c.self.inside.lines.items c.args.block c.partition_point-begun.result
    c.index.result.now
    (ap (λ (p : TrackPlace). p.lines) (sym c.self.view_is)) (rw same at point) (omega arith)
    (omega (arith, c.partition_point-begun.ensures.bound, c.deref.ensures.len)) c.index.ensures

pub returns-then-begun-eq0-clause-index : goal.returns-then-begun-eq0-clause-index
returns-then-begun-eq0-clause-index c =
    let same = c.deref.ensures.value in
    let point : IsPartitionPoint (λ (l : ℕ × ℕ). nat_le l.1 c.args.block ≡ true)
    (λ (l : ℕ × ℕ). nat_le l.1 c.args.block ≡ false) c.deref.result.now c.partition_point-begun.result =
    IsPartitionPoint-from_clause (λ (l : ℕ × ℕ). nat_le l.1 c.args.block) c.deref.result.now
    c.partition_point-begun.result c.partition_point-begun.ensures.partitioned
    (rw same (lines_partitioned c.self.inside.lines.items c.args.block c.self.invariant.lines))
    (λ a r f k. search (rules, tests)) in
    index_of_none c.args.self.now c.self.inside.lines.items c.args.block c.partition_point-begun.result
    (ap (λ (p : TrackPlace). p.lines) (sym c.self.view_is)) (rw same at point) c.if-begun-eq0.true
