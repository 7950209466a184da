use Rattle.std.proofs.Common.{◌≢◌, ◌%◌, ◌∙◌, get_or, refl, subst, sym, true≢false}
use Rattle.cdg_screen.specs.Memory.{seen}
use Rattle.cdg_screen.specs.Standing.{IsWholeStanding}
use Rattle.cdg_screen.specs.declared.plain.PlainScreen.{PlainScreen}
use Rattle.live_player.specs.Lives.{instruction_of, standing_on}
use Rattle.live_player.proofs.Quiet.{is_quiet, quiet_sees, quiet_stays}
use Rattle.live_player.proofs.feeding.draw_next.Goals as goal

pub returns-else-has_graphics-clause-draws : goal.returns-else-has_graphics-clause-draws
returns-else-has_graphics-clause-draws g c =
    let other : get_or c.args.pack.now 0 0 % 64 ≢ 9 =
    λ is. true≢false (sym (c.has_graphics.ensures.1 is) ∙ c.if-has_graphics.false) in
    record {
      gathers = refl;
      draws =
          quiet_stays (standing_on (g.P.AnyPlayer.played c.args.player.now)) (instruction_of c.args.pack.now)
          (subst (λ (s : PlainScreen). IsWholeStanding (seen s)) c.shown.ensures
          c.what_stands_is_whole.ensures)
          (is_quiet c.args.pack.now other);
      lead_in = refl;
      counts = refl;
      bad = refl;
    }

pub returns-else-has_graphics-clause-sees : goal.returns-else-has_graphics-clause-sees
returns-else-has_graphics-clause-sees g c =
    let other : get_or c.args.pack.now 0 0 % 64 ≢ 9 =
    λ is. true≢false (sym (c.has_graphics.ensures.1 is) ∙ c.if-has_graphics.false) in
    quiet_sees c.args.watch.now (instruction_of c.args.pack.now) c.requires (is_quiet c.args.pack.now other)
