use Rattle.std.proofs.Common.{refl, ◌≡◌, ◌+◌, ◌*◌, ◌%◌, ◌<◌, [], get_or, ap, sym, ◌∙◌, arith}
use Rattle.std.specs.Prelude.{slice_index}
use Rattle.std.proofs.lemmas.List.Elements.{All-drop, All-take}
use Rattle.cdg_screen.specs.Memory.{MemoryRows, drawn_over}
use Rattle.cdg_screen.proofs.TileLines.{row-below, line-is_memory, line-becomes}
use Rattle.cdg_screen.proofs.memory.Memory.draw_line.Goals as goal

pub draw_over-requires-clause-others : goal.draw_over-requires-clause-others
draw_over-requires-clause-others c =
    let g = c.self.invariant in
    let row : get_or c.self.inside.rows c.args.row [] ≡ get_or c.self.inside.rows c.args.row [] = refl in
    All-take (λ p. p < 16) _ _ (All-drop (λ p. p < 16) c.args.left (get_or c.self.inside.rows c.args.row [])
    (row-below c.self.inside.rows _ _ _ c.args.row g row))

pub invariant_of-self : goal.invariant_of-self
invariant_of-self c =
    let g = c.self.invariant in
    let row : get_or c.self.inside.rows c.args.row [] ≡ get_or c.self.inside.rows c.args.row [] = refl in
    line-is_memory c.self.inside.rows (get_or c.self.inside.rows c.args.row []) c.draw_over.new.others
    c.self.inside.left c.self.inside.top _ _ g c.requires.row (omega arith) row c.draw_over.ensures.count
    c.draw_over.ensures.range

pub returns-clause-drawn : goal.returns-clause-drawn
returns-clause-drawn c column y column_le y_lt left_is row_is =
    let g = c.self.invariant in
    let row : get_or c.self.inside.rows c.args.row [] ≡ get_or c.self.inside.rows c.args.row [] = refl in
    let left : c.args.left ≡ (6 * column + c.self.inside.left) % 300 =
    left_is ∙ ap (λ (memory : MemoryRows). (6 * column + memory.left) % 300) (sym c.self.view_is) in
    let row_is' : c.args.row ≡ (y + c.self.inside.top) % 216 =
    row_is ∙ ap (λ (memory : MemoryRows). (y + memory.top) % 216) (sym c.self.view_is) in
    rw (← c.self.view_is) (line-becomes c.self.inside.rows (get_or c.self.inside.rows c.args.row [])
    c.draw_over.new.others c.self.inside.left c.self.inside.top column y c.args.left c.args.row
    (λ i old. drawn_over c.args.exclusive (slice_index c.args.pixels.now i) old) g column_le y_lt left row_is'
    row c.draw_over.ensures.count c.draw_over.ensures.drawn)
