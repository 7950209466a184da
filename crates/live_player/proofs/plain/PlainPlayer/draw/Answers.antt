use Rattle.std.proofs.Common.{[], ◌∷◌, ap, refl, ◌∙◌}
use Rattle.cdg_screen.specs.Memory.{seen}
use Rattle.cdg_screen.specs.Standing.{standing_after}
use Rattle.live_player.proofs.LiveViews.{drawn_more}
use Rattle.live_player.specs.Plain.{player_of}
use Rattle.live_player.proofs.plain.PlainPlayer.draw.Goals as goal

pub returns-clause-draws : goal.returns-clause-draws
returns-clause-draws c = record {
  gathers = refl;
  draws =
      c.obey.ensures
      ∙ ap (λ i. standing_after (seen c.args.self.now.screen) (i ∷ [])) c.read_pack.ensures.instruction;
  lead_in = refl;
  counts = refl;
  bad = refl;
}

pub returns-clause-drawn : goal.returns-clause-drawn
returns-clause-drawn c form lead_in given played =
    let draws = returns-clause-draws c in
    drawn_more form lead_in given c.args.pack.now (player_of c.args.self.now) _ draws.gathers draws.draws
    draws.lead_in draws.counts draws.bad played
