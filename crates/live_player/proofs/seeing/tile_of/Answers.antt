use Rattle.std.proofs.Common.{◌==◌, List, ℕ, ap, get_or, sym, ◌∙◌}
use Rattle.cdg_instructions.specs.declared.effect.Effect.TheVariants.{Draw}
use Rattle.live_player.proofs.TilePacks.{tile_effect, tile_in, tile_stays, tile_touches}
use Rattle.live_player.proofs.seeing.tile_of.Goals as goal

pub returns-clause-draws : goal.returns-clause-draws
returns-clause-draws c =
    tile_effect c.args.symbols.now c.requires.mode c.requires.code
    ∙ ap (λ (ls : List ℕ).
    Draw (record (tile_in c.args.symbols.now (get_or c.args.symbols.now 1 0 == 38)) { lines = ls }))
    (sym c.lines_of.ensures.lines)

pub returns-clause-touches : goal.returns-clause-touches
returns-clause-touches c = tile_touches c.args.symbols.now c.requires.mode c.requires.code

pub returns-clause-stays : goal.returns-clause-stays
returns-clause-stays c = tile_stays c.args.symbols.now c.requires.mode c.requires.code
