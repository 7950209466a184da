use Rattle.std.proofs.Common.{◌≡◌, ◌∙◌, ap, ◌+◌, ◌-◌, ◌%◌, ◌<◌, ◌≤◌, ℕ, [], get_or, length, subst, sym, inl, inr, arith}
use Rattle.std.proofs.lemmas.Bool.{cases_lt}
use Rattle.std.proofs.lemmas.List.{get_or_past}
use Rattle.cdg_screen.proofs.MemoryRows.{at_is}
use Rattle.cdg_screen.proofs.WholeRows.{front_columns, turned_columns}
use Rattle.cdg_screen.proofs.memory.Memory.copy_columns.Goals as goal

pub returns-then-rest-gt0-clause-pixels : goal.returns-then-rest-gt0-clause-pixels
returns-then-rest-gt0-clause-pixels c i lt =
    let g = c.self.invariant in
    let left = c.self.inside.left in
    let n = c.wrapped.result in
    let row = get_or c.self.inside.rows n [] in
    let size : length row ≡ 300 = g.widths n (omega (arith, c.wrapped.ensures)) in
    let first : ℕ = c.wrapped-first.result in
    let count : ℕ = c.min-count.result in
    let rest : ℕ = length c.args.columns.now - count in
    let full : first + count ≡ 300 = omega (arith, c.min-count.ensures) in
    let x_lt : c.args.x + i < 300 = omega (arith, lt, c.requires.width) in
    let front =
    λ (early : i < count).
    front_columns row c.write_at.new.columns c.args.columns.now c.args.x left first count
    (first + count - first) i size g.left_below c.wrapped-first.ensures (omega (arith, full))
    (omega arith) x_lt early
    (c.write_at.ensures i) in
    let there =
    turned_columns row c.write_at.new.columns c.write_at-then-rest-gt0.new.columns c.args.x left first count
    rest i
    size g.left_below c.wrapped-first.ensures full x_lt (omega (arith, lt))
    (omega (arith, c.requires.width)) front
    (c.write_at-then-rest-gt0.ensures i) in
    rw (← c.self.view_is)
    (rw (at_is c.self.inside.rows left c.self.inside.top (c.args.x + i) c.args.y)
    (there
    ∙ ap (λ m. get_or (get_or c.self.inside.rows m []) ((c.args.x + i + left) % 300) 0) c.wrapped.ensures))

pub returns-then-rest-gt0-clause-range : goal.returns-then-rest-gt0-clause-range
returns-then-rest-gt0-clause-range c i = elim (cases_lt i (length c.args.columns.now)) [
  | inl lt ↦
      let g = c.self.invariant in
      let left = c.self.inside.left in
      let n = c.wrapped.result in
      let row = get_or c.self.inside.rows n [] in
      let size : length row ≡ 300 = g.widths n (omega (arith, c.wrapped.ensures)) in
      let first : ℕ = c.wrapped-first.result in
      let count : ℕ = c.min-count.result in
      let rest : ℕ = length c.args.columns.now - count in
      let full : first + count ≡ 300 = omega (arith, c.min-count.ensures) in
      let x_lt : c.args.x + i < 300 = omega (arith, lt, c.requires.width) in
      let front =
      λ (early : i < count). front_columns row c.write_at.new.columns c.args.columns.now c.args.x left first
      count (first + count - first) i size g.left_below c.wrapped-first.ensures (omega (arith, full))
      (omega arith) x_lt early
      (c.write_at.ensures i) in
      let there =
      turned_columns row c.write_at.new.columns c.write_at-then-rest-gt0.new.columns c.args.x left first count
      rest i size g.left_below c.wrapped-first.ensures full x_lt (omega (arith, lt))
      (omega (arith, c.requires.width)) front
      (c.write_at-then-rest-gt0.ensures i) in
      subst (λ v. v < 16) (sym there) (g.colours n ((c.args.x + i + left) % 300))
  | inr past ↦
      subst (λ v. v < 16)
      (sym (get_or_past {X = ℕ} c.write_at-then-rest-gt0.new.columns i 0
      (omega (arith, past, c.write_at.auto.columns, c.write_at-then-rest-gt0.auto.columns))))
      (omega arith)
]

pub returns-else-rest-gt0-clause-pixels : goal.returns-else-rest-gt0-clause-pixels
returns-else-rest-gt0-clause-pixels c i lt =
    let g = c.self.invariant in
    let left = c.self.inside.left in
    let n = c.wrapped.result in
    let row = get_or c.self.inside.rows n [] in
    let size : length row ≡ 300 = g.widths n (omega (arith, c.wrapped.ensures)) in
    let first : ℕ = c.wrapped-first.result in
    let count : ℕ = c.min-count.result in
    let fits : first + count ≤ 300 = omega (arith, c.min-count.ensures) in
    let there =
    front_columns row c.write_at.new.columns c.args.columns.now c.args.x left first count
    (first + count - first) i size g.left_below c.wrapped-first.ensures fits (omega arith)
    (omega (arith, lt, c.requires.width)) (omega (arith, lt)) (c.write_at.ensures i) in
    rw (← c.self.view_is)
    (rw (at_is c.self.inside.rows left c.self.inside.top (c.args.x + i) c.args.y)
    (there
    ∙ ap (λ m. get_or (get_or c.self.inside.rows m []) ((c.args.x + i + left) % 300) 0) c.wrapped.ensures))

pub returns-else-rest-gt0-clause-range : goal.returns-else-rest-gt0-clause-range
returns-else-rest-gt0-clause-range c i = elim (cases_lt i (length c.args.columns.now)) [
  | inl lt ↦
      let g = c.self.invariant in
      let left = c.self.inside.left in
      let n = c.wrapped.result in
      let row = get_or c.self.inside.rows n [] in
      let size : length row ≡ 300 = g.widths n (omega (arith, c.wrapped.ensures)) in
      let first : ℕ = c.wrapped-first.result in
      let count : ℕ = c.min-count.result in
      let fits : first + count ≤ 300 = omega (arith, c.min-count.ensures) in
      let there =
      front_columns row c.write_at.new.columns c.args.columns.now c.args.x left first count
      (first + count - first) i size g.left_below c.wrapped-first.ensures fits (omega arith)
      (omega (arith, lt, c.requires.width)) (omega (arith, lt)) (c.write_at.ensures i) in
      subst (λ v. v < 16) (sym there) (g.colours n ((c.args.x + i + left) % 300))
  | inr past ↦
      subst (λ v. v < 16)
      (sym (get_or_past {X = ℕ} c.write_at.new.columns i 0 (omega (arith, past, c.write_at.auto.columns))))
      (omega arith)
]
