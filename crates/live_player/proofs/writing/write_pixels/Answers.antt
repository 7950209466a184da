use Rattle.std.proofs.Common.{◌*◌, ap, arith}
use Rattle.cdg_screen.specs.Memory.{seen}
use Rattle.live_player.specs.Formats.{pixel_size}
use Rattle.live_player.proofs.Rows.{part_shows}
use Rattle.live_player.proofs.writing.write_pixels.Goals as goal

pub part_of_screen-requires-clause-apart : goal.part_of_screen-requires-clause-apart
part_of_screen-requires-clause-apart c =
    omega (arith, c.requires.apart, ap (λ f. pixel_size f * c.args.part.now.width) c.in-Indexed.is)

pub part_of_screen-requires-clause-room : goal.part_of_screen-requires-clause-room
part_of_screen-requires-clause-room c j lt =
    omega (arith, c.requires.room j lt, ap (λ f. pixel_size f * c.args.part.now.width) c.in-Indexed.is)

pub returns-in-Indexed : goal.returns-in-Indexed
returns-in-Indexed c =
    part_shows c.args.format (seen c.args.screen.now) c.args.part.now c.args.stride c.args.out.now
    c.part_of_screen.new.pixels c.in-Indexed.is c.part_of_screen.ensures
