use Rattle.std.proofs.Common.{◌≡◌, ◌∙◌, ◌+◌, ◌<◌, ◌≤◌, ℕ, List, ap, get_or, sym, arith}
use Rattle.cdg_screen.specs.Memory.{at, Kept}
use Rattle.cdg_screen.proofs.WholeRows.{then_within, window_row}
use Rattle.cdg_screen.proofs.plain.PlainScreen.columns.Goals as goal

pub returns : goal.returns
returns c =
    let kept : Kept = record {
      memory = c.self.inside.memory;
      border = c.self.inside.border;
      colours = c.self.inside.colours;
      levels = c.self.inside.levels;
      h = c.self.inside.h;
      v = c.self.inside.v;
    } in
    let x = c.args.x in
    let y = c.args.y in
    let columns : List ℕ = c.in_ok-columns.columns.now in
    let across : ℕ = c.from.result in
    let down : ℕ = c.from-2.result in
    let top : 12 ≤ y = omega arith in
    let bottom : y < 204 = omega arith in
    record {
      size = c.in_ok-columns.ensures.size;
      pixels = λ i lt.
          let right : x + i < 300 = omega (arith, lt) in
          let from : 6 ≤ x + i = omega arith in
          let within : x + i < 294 = omega (arith, lt) in
          let place : x + across + i ≡ x + i + across = omega arith in
          let shown : get_or columns i 0 ≡ at kept.memory (x + i + across) (y + down) =
          c.in_ok-columns.ensures.pixels i lt ∙ ap (λ k. at kept.memory k (y + down)) place in
          rw (← c.self.view_is)
          (window_row kept (x + i) y across down (get_or columns i 0) (get_or columns i 0) c.from.ensures
          c.from-2.ensures right top bottom c.self.invariant.h_most c.self.invariant.v_most (λ _ _. shown)
          (sym (then_within 6 294 (x + i) (get_or columns i 0) kept.border from within)));
      range = c.in_ok-columns.ensures.range;
    }
