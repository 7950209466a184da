use Rattle.std.proofs.Common.{refl, ◌∙◌}
use Rattle.live_player.proofs.LiveViews.{begun}
use Rattle.live_player.proofs.plain.PlainPlayer.begin.Goals as goal

pub returns : goal.returns
returns c =
    begun c.args.form c.args.lead_in _ (c.of-self.ensures ∙ c.begin.ensures) c.reset.ensures refl refl refl
