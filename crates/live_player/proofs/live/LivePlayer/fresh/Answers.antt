use Rattle.std.proofs.Common.{refl}
use Rattle.raw_subcode.specs.declared.form.Form.TheVariants.{Raw}
use Rattle.live_player.proofs.LiveViews.{begun}
use Rattle.live_player.proofs.live.LivePlayer.fresh.Goals as goal

pub returns : goal.returns
returns c = begun Raw 0 _ c.new.ensures c.blank.ensures refl refl refl
