use Rattle.std.proofs.Common.{◌+◌, ◌-◌, ◌^◌, List, ℕ, ap, map, sym, ◌∙◌}
use Rattle.std.specs.Prelude.{min}
use Rattle.arrayvec.specs.ArrayVec.{ArrayVec}
use Rattle.cdg_io.specs.Run.{run_state}
use Rattle.cdg_screen.specs.Memory.{seen}
use Rattle.cdg_screen.specs.Standing.{standing_after}
use Rattle.rw_code.specs.Finding.{finding}
use Rattle.rw_interleave.specs.Stream.{bad_count}
use Rattle.live_player.specs.Changes.{sees}
use Rattle.live_player.specs.Lives.{bad_counted, drawn_for, instructions_of}
use Rattle.live_player.proofs.LiveViews.{nothing_drawn}
use Rattle.live_player.proofs.seeing.play_busy.Goals as goal

pub returns-in-Some-clause-draws : goal.returns-in-Some-clause-draws
returns-in-Some-clause-draws c =
    c.draw_words_seen-none_near.ensures.drawn
    ∙ ap
    (λ (words : ArrayVec (List ℕ)). standing_after (seen c.args.screen.now) (instructions_of words.items))
    c.into_words-words.ensures
    ∙ ap (λ o. standing_after (seen c.args.screen.now) (drawn_for o))
    (sym c.in-Some.is ∙ c.feed-came.ensures.gives)

pub returns-in-Some-clause-bad : goal.returns-in-Some-clause-bad
returns-in-Some-clause-bad c =
    c.saturating_add.ensures
    ∙ ap (λ n. min (c.args.bad.now + n) (2 ^ 32 - 1)) (c.draw_words_seen-none_near.ensures.bad
    ∙ ap (λ (words : ArrayVec (List ℕ)). bad_count (map finding words.items)) c.into_words-words.ensures)
    ∙ ap (λ o. bad_counted c.args.bad.now o) (sym c.in-Some.is ∙ c.feed-came.ensures.gives)

pub returns-in-Some-clause-sees : goal.returns-in-Some-clause-sees
returns-in-Some-clause-sees c =
    c.draw_words_seen-none_near.ensures.sees
    ∙ ap (λ (words : ArrayVec (List ℕ)). run_state sees c.args.watch.now (instructions_of words.items))
    c.into_words-words.ensures
    ∙ ap (λ o. run_state sees c.args.watch.now (drawn_for o)) (sym c.in-Some.is ∙ c.feed-came.ensures.gives)

pub returns-in-None-clause-draws : goal.returns-in-None-clause-draws
returns-in-None-clause-draws c =
    nothing_drawn _ c.args.words.now c.args.block.now c.what_stands_is_whole.ensures
    (sym c.in-None.is ∙ c.feed-came.ensures.gives)

pub returns-in-None-clause-bad : goal.returns-in-None-clause-bad
returns-in-None-clause-bad c =
    ap (λ o. bad_counted c.args.bad.now o) (sym c.in-None.is ∙ c.feed-came.ensures.gives)

pub returns-in-None-clause-sees : goal.returns-in-None-clause-sees
returns-in-None-clause-sees c =
    ap (λ o. run_state sees c.args.watch.now (drawn_for o)) (sym c.in-None.is ∙ c.feed-came.ensures.gives)
