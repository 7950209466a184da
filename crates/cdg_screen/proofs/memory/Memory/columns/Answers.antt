use Rattle.std.proofs.Common.{◌≡◌, ◌∙◌, ap, ◌+◌, ◌-◌, ◌%◌, ◌<◌, ℕ, [], drop, get_or, length, subst, sym, take, inl, inr, arith}
use Rattle.std.proofs.lemmas.Bool.{cases_lt}
use Rattle.std.proofs.lemmas.List.{get_or-drop, get_or-take, get_or_past}
use Rattle.cdg_screen.proofs.MemoryRows.{at_is}
use Rattle.cdg_screen.proofs.WholeRows.{length-part}
use Rattle.cdg_screen.proofs.memory.Memory.columns.Goals as goal

pub returns-clause-size : goal.returns-clause-size
returns-clause-size c =
    let first : ℕ = c.wrapped-first.result in
    let row = get_or c.self.inside.rows c.wrapped.result [] in
    let size : length row ≡ 300 =
    c.self.invariant.widths c.wrapped.result (omega (arith, c.wrapped.ensures)) in
    length-part row first (first + c.args.count - first) (omega (arith, size)) ∙ omega arith

pub returns-clause-pixels : goal.returns-clause-pixels
returns-clause-pixels c i lt =
    let left = c.self.inside.left in
    let first : ℕ = c.wrapped-first.result in
    let row = get_or c.self.inside.rows c.wrapped.result [] in
    let k : ℕ = first + c.args.count - first in
    let place : first + i ≡ (c.args.x + i + left) % 300 =
    omega (arith, lt, c.wrapped-first.ensures, c.self.invariant.left_below, c.requires.width) in
    rw (← c.self.view_is)
    (rw (at_is c.self.inside.rows left c.self.inside.top (c.args.x + i) c.args.y)
    (get_or-take k (drop first row) i 0 (omega (arith, lt))
    ∙ get_or-drop first row i 0
    ∙ ap (λ m. get_or row m 0) place
    ∙ ap (λ m. get_or (get_or c.self.inside.rows m []) ((c.args.x + i + left) % 300) 0) c.wrapped.ensures))

pub returns-clause-range : goal.returns-clause-range
returns-clause-range c i =
    let first : ℕ = c.wrapped-first.result in
    let row = get_or c.self.inside.rows c.wrapped.result [] in
    let k : ℕ = first + c.args.count - first in
    let size : length row ≡ 300 =
    c.self.invariant.widths c.wrapped.result (omega (arith, c.wrapped.ensures)) in
    let long : length (take k (drop first row)) ≡ k = length-part row first k (omega (arith, size)) in
    elim (cases_lt i k) [
      | inl lt ↦
          subst (λ v. v < 16) (sym (get_or-take k (drop first row) i 0 lt ∙ get_or-drop first row i 0))
          (c.self.invariant.colours c.wrapped.result (first + i))
      | inr past ↦
          subst (λ v. v < 16)
          (sym (get_or_past {X = ℕ} (take k (drop first row)) i 0 (omega (arith, past, long))))
          (omega arith)
    ]
