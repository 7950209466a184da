use Rattle.std.proofs.Common.{rules}
use Rattle.ribjasper_c.proofs.Ones.{shown_as}
use Rattle.ribjasper_c.proofs.showing.write_shown.Goals as goal

pub returns : goal.returns
returns g c =
    shown_as c.args.live.now _ c.shows_its_blocks.ensures.last c.shows_its_blocks.ensures.so_far
    c.shows_its_packs.ensures (λ now stands. search rules)
