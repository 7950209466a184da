use Rattle.ribjasper_c.proofs.Ones.{shown}
use Rattle.ribjasper_c.proofs.pixels.shown_pixels.Goals as goal

pub returns : goal.returns
returns c =
    shown c.args.live.now _ c.shows_its_blocks.ensures.last c.shows_its_blocks.ensures.so_far
    c.shows_its_packs.ensures c.write_pixels.ensures
