use Rattle.std.proofs.Common.{◌+◌, ◌-◌, ◌<◌, ◌∙◌, ℕ, [], List, drop, get_or, take, ap₂, sym}
use Rattle.std.specs.Prelude.{slice_index}
use Rattle.cdg_screen.specs.Memory.{MemoryRows, drawn_over, line_colour}
use Rattle.cdg_screen.proofs.KeptLines.{kept_six, six_at, six_kept}
use Rattle.cdg_screen.proofs.memory.Memory.keeps_line.Goals as goal

pub returns : goal.returns
returns c =
    let g = c.self.invariant in
    let rows = c.self.inside.rows in
    let left = c.self.inside.left in
    let top = c.self.inside.top in
    let memory : MemoryRows = record { rows = rows; left = left; top = top } in
    let x = c.args.x in
    let y = c.args.y in
    let first : ℕ = c.wrapped-first.result in
    let r : ℕ = c.wrapped.result in
    let colour = λ (i : ℕ).
    line_colour (slice_index c.args.colours 0) (slice_index c.args.colours 1) c.args.line i in
    let drawn = λ (i old : ℕ). drawn_over c.args.exclusive (colour i) old in
    let pixel = λ (i : ℕ). slice_index c.line_pixels-pixels.result i in
    let row : List ℕ = take (first + 6 - first) (drop first (get_or rows r [])) in
    let there =
    λ (i : ℕ) (lt : i < 6).
    six_at rows left top x y first r i g.left_below g.left_whole c.requires.whole c.requires.width
    c.wrapped-first.ensures c.wrapped.ensures lt in
    rw (← c.self.view_is) (
      (λ holds. six_kept memory x y drawn (λ i lt.
          sym (there i lt)
          ∙ c.leaves.ensures.0 holds i lt
          ∙ ap₂ (drawn_over c.args.exclusive) (c.line_pixels-pixels.ensures.pixels i lt) (there i lt))),
      λ kept. c.leaves.ensures.1 (λ i lt.
          there i lt
          ∙ kept_six memory x y drawn c.requires.width c.requires.height kept i lt
          ∙ ap₂ (drawn_over c.args.exclusive) (sym (c.line_pixels-pixels.ensures.pixels i lt))
          (sym (there i lt))),
    )
