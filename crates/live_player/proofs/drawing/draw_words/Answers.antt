use Rattle.std.proofs.Common.{◌∙◌, List, ℕ, ap, sym, map}
use Rattle.cdg_screen.specs.Memory.{seen}
use Rattle.cdg_screen.specs.Standing.{standing_after}
use Rattle.rw_code.specs.Finding.{finding}
use Rattle.rw_interleave.specs.Stream.{bad_count}
use Rattle.live_player.specs.Lives.{instructions_of}
use Rattle.live_player.proofs.drawing.draw_words.Goals as goal

pub returns-in-None-clause-drawn : goal.returns-in-None-clause-drawn
returns-in-None-clause-drawn c =
    c.idle_words_draw_nothing.ensures.drawn
    ∙ ap (λ (l : List (List ℕ)). standing_after (seen c.args.screen.now) (instructions_of l))
    (sym c.in-None.ensures)

pub returns-in-None-clause-bad : goal.returns-in-None-clause-bad
returns-in-None-clause-bad c =
    c.idle_words_draw_nothing.ensures.bad
    ∙ ap (λ (l : List (List ℕ)). bad_count (map finding l)) (sym c.in-None.ensures)
