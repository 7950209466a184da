use Rattle.std.specs.Prelude.{min}
use Rattle.std.proofs.Common.{◌≡◌, ◌⊎◌, ◌+◌, ◌-◌, ◌<◌, ◌∙◌, ℕ, drop, get_or, length, subst, sym, take, ap, inl, inr, arith}
use Rattle.std.proofs.lemmas.Bool.{cases_lt}
use Rattle.std.proofs.lemmas.List.{get_or_past}
use Rattle.cdg_screen.specs.Memory.{at, Kept, seen}
use Rattle.cdg_screen.proofs.WholeRows.{columns_are, length-part, small_between, then_within, window_row}
use Rattle.cdg_screen.proofs.Window.{border_pixel, no_column}
use Rattle.cdg_screen.proofs.plain.PlainScreen.write_columns.Goals as goal
use Rattle.cdg_screen.proofs.plain.PlainScreen.write_columns.Goals.{then-y-lt-TILE_HEIGHT-via-then-y-lt-TILE_HEIGHT, then-y-lt-TILE_HEIGHT-via-else-y-lt-TILE_HEIGHT+then-y, then-y-lt-TILE_HEIGHT-via-else-y-lt-TILE_HEIGHT+else-y+then-left-right}

pub returns-clause-pixels : goal.returns-clause-pixels
returns-clause-pixels c i lt =
    let kept : Kept = record {
      memory = c.self.inside.memory;
      border = c.self.inside.border;
      colours = c.self.inside.colours;
      levels = c.self.inside.levels;
      h = c.self.inside.h;
      v = c.self.inside.v;
    } in
    let x = c.args.x in
    let end : ℕ = length c.args.columns.now in
    let left : ℕ = c.min-left.result in
    let right : ℕ = c.min-right.result in
    let first = c.fill-2.new.columns in
    let copied = c.copy_columns.new.columns in
    let order : left < right =
    omega (
      arith,
      c.min-left.ensures,
      c.saturating_sub.ensures,
      c.min-right.ensures,
      c.saturating_sub-2.ensures,
      c.if-left-right.false,
    ) in
    let left_is : left ≡ 6 - x =
    omega (
      arith,
      c.min-left.ensures,
      c.saturating_sub.ensures,
      c.min-right.ensures,
      c.saturating_sub-2.ensures,
      order,
    ) in
    let right_is : right ≡ min (294 - x) end =
    omega (arith, c.min-right.ensures, c.saturating_sub-2.ensures) in
    let one_size : length first ≡ end = c.fill-2.auto.columns in
    let given : length (take (right - left) (drop left first)) ≡ right - left =
    length-part first left (right - left) (omega (arith, one_size, right_is, order)) in
    let two_size : length copied ≡ right - left = c.copy_columns.auto.columns ∙ given in
    let are =
    columns_are x left right end i c.self.inside.border c.args.columns.now first copied c.fill-3.new.columns
    left_is right_is order one_size two_size lt (c.fill-2.ensures i) (c.fill-3.ensures i) in
    rw (← c.self.view_is)
    (window_row kept (x + i) c.args.y c.from.result c.from-2.result (get_or copied (i - left) 0) _
    c.from.ensures c.from-2.ensures (omega (arith, lt, c.requires.width))
    (omega (arith, c.if-y-lt-TILE_HEIGHT.false)) (omega (arith, c.if-y.false)) c.self.invariant.h_most
    c.self.invariant.v_most
    (λ from within.
    c.copy_columns.ensures.pixels (i - left) (omega (arith, given, from, within, left_is, right_is, lt))
    ∙ ap (λ k. at c.self.inside.memory k (c.args.y + c.from-2.result)) (omega (arith, from, left_is)))
    are)

pub returns-clause-range : goal.returns-clause-range
returns-clause-range c i = elim (cases_lt i (length c.args.columns.now)) [
  | inl lt ↦
      let x = c.args.x in
      let end : ℕ = length c.args.columns.now in
      let left : ℕ = c.min-left.result in
      let right : ℕ = c.min-right.result in
      let first = c.fill-2.new.columns in
      let copied = c.copy_columns.new.columns in
      let order : left < right =
      omega (
        arith,
        c.min-left.ensures,
        c.saturating_sub.ensures,
        c.min-right.ensures,
        c.saturating_sub-2.ensures,
        c.if-left-right.false,
      ) in
      let left_is : left ≡ 6 - x =
      omega (
        arith,
        c.min-left.ensures,
        c.saturating_sub.ensures,
        c.min-right.ensures,
        c.saturating_sub-2.ensures,
        order,
      ) in
      let right_is : right ≡ min (294 - x) end =
      omega (arith, c.min-right.ensures, c.saturating_sub-2.ensures) in
      let one_size : length first ≡ end = c.fill-2.auto.columns in
      let given : length (take (right - left) (drop left first)) ≡ right - left =
      length-part first left (right - left) (omega (arith, one_size, right_is, order)) in
      let two_size : length copied ≡ right - left = c.copy_columns.auto.columns ∙ given in
      let are =
      columns_are x left right end i c.self.inside.border c.args.columns.now first copied c.fill-3.new.columns
      left_is right_is order one_size two_size lt (c.fill-2.ensures i) (c.fill-3.ensures i) in
      small_between _ _ _ 6 294 (x + i) are (c.copy_columns.ensures.range (i - left))
      c.self.invariant.border_below
  | inr past ↦
      subst (λ v. v < 16)
      (sym (get_or_past {X = ℕ} c.fill-3.new.columns i 0 (omega (
        arith,
        past,
        c.fill-3.auto.columns,
        c.copy_columns.auto.columns,
        c.fill-2.auto.columns,
      ))))
      (omega arith)
]

pub returns-then-y-lt-TILE_HEIGHT-clause-pixels : goal.returns-then-y-lt-TILE_HEIGHT-clause-pixels
returns-then-y-lt-TILE_HEIGHT-clause-pixels c i lt =
    let kept : Kept = record {
      memory = c.self.inside.memory;
      border = c.self.inside.border;
      colours = c.self.inside.colours;
      levels = c.self.inside.levels;
      h = c.self.inside.h;
      v = c.self.inside.v;
    } in
    let x = c.args.x in
    let y = c.args.y in
    let end = length c.args.columns.now in
    let border : get_or c.fill.new.columns i 0 ≡ c.self.inside.border =
    c.fill.ensures i ∙ then_within 0 end i _ _ (omega arith) lt in
    let outside : (y < 12) ⊎ ((203 < y) ⊎ ((x + i < 6) ⊎ (293 < x + i))) =
    elim c.then-y-lt-TILE_HEIGHT.branch [
      | then-y-lt-TILE_HEIGHT-via-then-y-lt-TILE_HEIGHT w ↦ inl w.if-y-lt-TILE_HEIGHT.true
      | then-y-lt-TILE_HEIGHT-via-else-y-lt-TILE_HEIGHT+then-y w ↦ inr (inl (omega (arith, w.if-y.true)))
      | then-y-lt-TILE_HEIGHT-via-else-y-lt-TILE_HEIGHT+else-y+then-left-right w ↦
          inr (inr (no_column x i end c.min-left.result c.min-right.result lt
          (c.min-left.ensures ∙ ap (λ n. min n end) c.saturating_sub.ensures)
          (c.min-right.ensures ∙ ap (λ n. min n end) c.saturating_sub-2.ensures) w.if-left-right.true))
    ] in
    rw (← c.self.view_is)
    (border_pixel (seen kept) (x + i) y (get_or c.fill.new.columns i 0) border outside)

pub returns-then-y-lt-TILE_HEIGHT-clause-range : goal.returns-then-y-lt-TILE_HEIGHT-clause-range
returns-then-y-lt-TILE_HEIGHT-clause-range c i = elim (cases_lt i (length c.args.columns.now)) [
  | inl lt ↦
      subst (λ v. v < 16)
      (sym (c.fill.ensures i ∙ then_within 0 (length c.args.columns.now) i _ _ (omega arith) lt))
      c.self.invariant.border_below
  | inr past ↦
      subst (λ v. v < 16)
      (sym (get_or_past {X = ℕ} c.fill.new.columns i 0 (omega (arith, past, c.fill.auto.columns))))
      (omega arith)
]
