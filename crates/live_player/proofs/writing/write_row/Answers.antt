use Rattle.std.proofs.Common.{◌+◌, ◌∙◌, arith}
use Rattle.cdg_screen.specs.Memory.{seen}
use Rattle.live_player.proofs.Rows.{line_shows}
use Rattle.live_player.proofs.writing.write_row.Goals as goal

pub returns-in-Some : goal.returns-in-Some
returns-in-Some c =
    let part = c.args.part.now in
    let columns = c.in-Some.columns.now in
    let are = c.in-Some.ensures in
    line_shows c.args.format (seen c.args.screen.now) c.args.table.now columns c.write_colours.new.line
    part.left
    part.width (part.top + c.args.j) are.size are.pixels are.range c.requires.bytes c.write_colours.ensures

pub returns-in-None : goal.returns-in-None
returns-in-None c =
    let part = c.args.part.now in
    let pixels = c.write_columns.new.columns in
    line_shows c.args.format (seen c.args.screen.now) c.args.table.now pixels c.write_colours-in-None.new.line
    part.left
    part.width (part.top + c.args.j) (c.write_columns.auto.columns ∙ c.requires.room)
    (λ i lt. c.write_columns.ensures.pixels i (omega (arith, lt, c.requires.room)))
    c.write_columns.ensures.range c.requires.bytes c.write_colours-in-None.ensures
