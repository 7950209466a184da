use Rattle.std.proofs.Common.{sym, ◌∙◌}
use Rattle.cdg_instructions.specs.Meaning.{meaning}
use Rattle.live_player.specs.Changes.{join, touched_change}
use Rattle.live_player.proofs.seeing.draw_tile_seen.Goals as goal

pub returns-clause-draws : goal.returns-clause-draws
returns-clause-draws c = c.draw.ensures (meaning c.args.symbols.now) c.tile_of-tile.ensures.draws

pub returns-clause-sees : goal.returns-clause-sees
returns-clause-sees c =
    let watch = c.args.watch.now in
    let touched = sym c.tile_of-tile.ensures.touches in
    let offsets = sym (c.tile_of-tile.ensures.stays (watch.across, watch.down)) in
    c.see_tile.ensures
    ∙ (λ i. record {
      change = join watch.change (touched_change (touched i) watch.across watch.down);
      across = (offsets i).0;
      down = (offsets i).1;
    })
