use Rattle.std.proofs.Common.{List, ℕ, ap, refl}
use Rattle.stream_stages.specs.declared.block_words.BlockWords.{BlockWords}
use Rattle.live_player.proofs.LiveViews.{begun}
use Rattle.live_player.proofs.live.LivePlayer.begin.Goals as goal

pub returns : goal.returns
returns c =
    let words : List (List ℕ) → BlockWords =
    λ gather. record { form = c.args.form; lead_in = c.args.lead_in; gather = gather } in
    begun c.args.form c.args.lead_in _ (ap words c.reset.ensures) c.reset-2.ensures refl refl refl
