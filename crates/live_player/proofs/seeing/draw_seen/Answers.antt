use Rattle.std.proofs.Common.{List, ℕ, [], ◌∷◌, ap, ◌∙◌}
use Rattle.cdg_instructions.specs.Meaning.{meaning}
use Rattle.cdg_screen.specs.Memory.{seen}
use Rattle.cdg_screen.specs.Standing.{standing_after}
use Rattle.live_player.specs.Changes.{sees}
use Rattle.live_player.specs.Lives.{instruction_of}
use Rattle.live_player.proofs.seeing.draw_seen.Goals as goal

pub returns-then-is_tile-clause-draws : goal.returns-then-is_tile-clause-draws
unfolding instruction_of
returns-then-is_tile-clause-draws c =
    c.draw_tile_seen.ensures.draws
    ∙ ap (λ (word : List ℕ). standing_after (seen c.args.screen.now) (meaning word ∷ []))
    (c.bytes-symbols.ensures.same ∙ c.new.ensures)

pub returns-then-is_tile-clause-sees : goal.returns-then-is_tile-clause-sees
unfolding instruction_of
returns-then-is_tile-clause-sees c =
    c.draw_tile_seen.ensures.sees
    ∙ ap (λ (word : List ℕ). sees c.args.watch.now (meaning word))
    (c.bytes-symbols.ensures.same ∙ c.new.ensures)
