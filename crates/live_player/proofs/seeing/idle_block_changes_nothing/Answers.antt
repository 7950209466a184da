use Rattle.std.proofs.Common.{◌∙◌, ap, arith}
use Rattle.cdg_io.specs.Run.{run_state}
use Rattle.cdg_screen.specs.Memory.{seen}
use Rattle.cdg_screen.specs.Standing.{standing_after}
use Rattle.live_player.specs.Changes.{sees}
use Rattle.live_player.specs.Lives.{bad_counted, drawn_for}
use Rattle.live_player.proofs.Idle.{idle_sees}
use Rattle.live_player.proofs.LiveViews.{idle_bad, idle_words_drawn}
use Rattle.live_player.proofs.seeing.idle_block_changes_nothing.Goals as goal

pub returns-clause-draws : goal.returns-clause-draws
returns-clause-draws c =
    idle_words_drawn _ c.what_stands_is_whole.ensures c.idle_is_codeword.ensures
    ∙ ap (λ o. standing_after (seen c.args.screen.now) (drawn_for o)) c.requires.idle.1

pub returns-clause-bad : goal.returns-clause-bad
returns-clause-bad c =
    idle_bad c.args.bad.now (omega arith) c.idle_is_codeword.ensures
    ∙ ap (λ o. bad_counted c.args.bad.now o) c.requires.idle.1

pub returns-clause-sees : goal.returns-clause-sees
returns-clause-sees c =
    idle_sees c.args.watch.now c.requires.within c.idle_is_codeword.ensures
    ∙ ap (λ o. run_state sees c.args.watch.now (drawn_for o)) c.requires.idle.1
