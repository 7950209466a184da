use Rattle.std.proofs.Common.{All, refl, subst, sym}
use Rattle.live_player.specs.Lives.{HasPlayed}
use Rattle.live_player.specs.Lives.Given.{Fed}
use Rattle.live_player.specs.Marks.{given_first, IsMark}
use Rattle.ribjasper_c.proofs.seeking.ribjasper_player_seek.Goals as goal

pub returns-clause-there : goal.returns-clause-there
returns-clause-there c done marks = (
  c.seek_block.new.player,
  refl,
  subst (λ form.
      HasPlayed form c.args.lead_in (given_first Fed c.args.to c.args.blocks.now) c.seek_block.new.player)
      c.form_of.ensures
      (c.seek_block.ensures.there
      (subst (λ form. All (IsMark Fed form c.args.lead_in c.args.blocks.now) c.args.marks.now)
      (sym c.form_of.ensures) marks)),
)

pub returns-clause-marks : goal.returns-clause-marks
returns-clause-marks c marks =
    subst (λ form. All (IsMark Fed form c.args.lead_in c.args.blocks.now) c.seek_block.new.marks)
    c.form_of.ensures
    (c.seek_block.ensures.marks
    (subst (λ form. All (IsMark Fed form c.args.lead_in c.args.blocks.now) c.args.marks.now)
    (sym c.form_of.ensures) marks))
