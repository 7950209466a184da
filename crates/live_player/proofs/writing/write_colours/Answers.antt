use Rattle.std.proofs.Common.{◌*◌, ◌∙◌, length, ap}
use Rattle.live_player.specs.Formats.{pixel_size}
use Rattle.live_player.proofs.Rows.{four_bytes, of_size}
use Rattle.live_player.proofs.writing.write_colours.Goals as goal

pub write_few-requires-clause-size : goal.write_few-requires-clause-size
write_few-requires-clause-size c =
    c.requires.size ∙ ap (λ s. s * length c.args.pixels.now) (ap pixel_size c.in-Rgb565.is)

pub returns-in-Rgb565 : goal.returns-in-Rgb565
returns-in-Rgb565 c =
    of_size c.args.format 2 c.args.pixels.now c.args.table.now c.write_few.new.line
    (ap pixel_size c.in-Rgb565.is) c.write_few.ensures

pub returns-in-Rgb : goal.returns-in-Rgb
returns-in-Rgb c =
    of_size c.args.format 3 c.args.pixels.now c.args.table.now c.write_few-in-Rgb.new.line
    (ap pixel_size c.in-Rgb.is) c.write_few-in-Rgb.ensures

pub write_fours-requires-clause-size : goal.write_fours-requires-clause-size
write_fours-requires-clause-size c =
    let four = four_bytes c.args.format c.requires.format c.in_default.not-Rgb565 c.in_default.not-Rgb in
    c.requires.size ∙ ap (λ s. s * length c.args.pixels.now) four

pub returns-in_default : goal.returns-in_default
returns-in_default c =
    of_size c.args.format 4 c.args.pixels.now c.args.table.now c.write_fours.new.line
    (four_bytes c.args.format c.requires.format c.in_default.not-Rgb565 c.in_default.not-Rgb)
    c.write_fours.ensures
