use Rattle.std.proofs.Common.{subst, sym}
use Rattle.live_player.specs.Changes.{IsWithinScreen}
use Rattle.live_player.specs.Lives.{drawn_for}
use Rattle.live_player.specs.declared.watch.Watch.{Watch}
use Rattle.stream_stages.specs.Steps.{words_give}
use Rattle.live_player.proofs.Idle.{within_after}
use Rattle.live_player.proofs.seeing.play_seen.Goals as goal

pub returns-else-stays_idle-clause-within : goal.returns-else-stays_idle-clause-within
returns-else-stays_idle-clause-within c =
    subst (λ (w : Watch). IsWithinScreen w.change) (sym c.play_busy.ensures.sees)
    (within_after c.args.watch.now (drawn_for (words_give c.args.words.now c.args.block.now)) c.requires)
