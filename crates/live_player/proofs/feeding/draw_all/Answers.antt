use Rattle.std.proofs.Common.{◌≡◌, ◌∙◌, ◌+◌, ◌++◌, ◌<◌, [], ◌∷◌, List, ℕ, length, get_or, map, refl, reverse, take, ap, sym, subst, arith}
use Rattle.std.proofs.lemmas.List.{map-append, take_all}
use Rattle.cdg_io.specs.Run.{run_state}
use Rattle.cdg_io.proofs.Runs.{run_state-append}
use Rattle.cdg_screen.specs.Standing.{Standing, standing_after}
use Rattle.cdg_screen.proofs.Turns.{in_turn}
use Rattle.live_player.specs.Lives.{Given, Drawn, HasPlayed, instruction_of, standing_on}
use Rattle.live_player.specs.Changes.{changes_on, sees, watch_from, KeepsUnchanged}
use Rattle.live_player.specs.Taken.{DrawsPacks}
use Rattle.live_player.specs.declared.change.ScreenChange.{ScreenChange}
use Rattle.live_player.specs.declared.watch.Watch.{Watch}
use Rattle.live_player.proofs.LiveViews.{drawn_on}
use Rattle.live_player.proofs.Seen.{given_more, one_more}
use Rattle.live_player.proofs.feeding.draw_all.Goals as goal

pub loop-pack-preserved : goal.loop-pack-preserved
loop-pack-preserved g c =
    let before_all = g.P.AnyPlayer.played c.args.player.now in
    let now = g.P.AnyPlayer.played c.loop-pack.player in
    let after = g.P.AnyPlayer.played c.draw_next.new.player in
    let packs = c.args.packs.now in
    let i = c.loop-pack.pack-index in
    let pack = get_or packs i [] in
    let start : Standing = standing_on before_all in
    let watch : Watch = watch_from start.h start.v in
    let before = map instruction_of (take i packs) in
    let lt : i < length packs = omega arith in
    let more = one_more packs i [] lt in
    let instrs : before ++ instruction_of pack ∷ [] ≡ map instruction_of (take (i + 1) packs) =
    sym (map-append instruction_of (take i packs) (pack ∷ [])) ∙ ap (map instruction_of) (sym more) in
    record {
      reported =
          c.draw_next.ensures.sees
          ∙ ap (λ (w : Watch). sees w (instruction_of pack)) c.loop-pack.invariant.reported
          ∙ sym (run_state-append sees watch before (instruction_of pack ∷ []))
          ∙ ap (run_state sees watch) instrs;
      draws = record {
        gathers = c.draw_next.ensures.draws.gathers ∙ c.loop-pack.invariant.draws.gathers;
        draws =
            c.draw_next.ensures.draws.draws
            ∙ ap (λ (s : Standing). standing_after s (instruction_of pack ∷ []))
            c.loop-pack.invariant.draws.draws
            ∙ sym (in_turn start before (instruction_of pack ∷ []))
            ∙ ap (standing_after start) instrs;
        lead_in = c.draw_next.ensures.draws.lead_in ∙ c.loop-pack.invariant.draws.lead_in;
        counts = c.draw_next.ensures.draws.counts ∙ c.loop-pack.invariant.draws.counts;
        bad = c.draw_next.ensures.draws.bad ∙ c.loop-pack.invariant.draws.bad;
      };
      drawn =
          λ form lead_in given played. subst (λ (all : List Given). HasPlayed form lead_in all after)
          (sym (ap (λ (l : List (List ℕ)). map Drawn (reverse l) ++ given) more
          ∙ given_more Drawn (take i packs) pack given))
          (drawn_on pack now after c.draw_next.ensures.draws form lead_in
          (map Drawn (reverse (take i packs)) ++ given)
          (c.loop-pack.invariant.drawn form lead_in given played));
      within = c.draw_next.ensures.within;
    }

pub loop-pack-init : goal.loop-pack-init
loop-pack-init g c = record {
  reported = c.watch_of-watch.ensures.from;
  draws = record {
    gathers = refl;
    draws = sym c.watch_of-watch.ensures.whole;
    lead_in = refl;
    counts = refl;
    bad = refl;
  };
  drawn = λ form lead_in given played. played;
  within = c.watch_of-watch.ensures.within;
}

pub returns : goal.returns
returns g c =
    let first = g.P.AnyPlayer.played c.args.player.now in
    let after = g.P.AnyPlayer.played c.loop-pack.player in
    let packs : List (List ℕ) = c.args.packs.now in
    let i : ℕ = c.loop-pack.pack-index in
    let start : Standing = standing_on first in
    let instrs = map instruction_of (take i packs) in
    let whole : take i packs ≡ packs = take_all i packs (omega arith) in
    record {
      draws = subst (λ (l : List (List ℕ)). DrawsPacks l first after) whole c.loop-pack.invariant.draws;
      drawn =
          λ form lead_in given played.
          subst (λ (l : List (List ℕ)). HasPlayed form lead_in (map Drawn (reverse l) ++ given) after) whole
          (c.loop-pack.invariant.drawn form lead_in given played);
      reports = record {
        reported =
            ap (λ (w : Watch). w.change) c.loop-pack.invariant.reported
            ∙ ap (λ (l : List (List ℕ)). changes_on start (map instruction_of l)) whole;
        stands =
            c.loop-pack.invariant.draws.draws
            ∙ ap (λ (l : List (List ℕ)). standing_after start (map instruction_of l)) whole;
        keeps =
            subst (λ (it : ScreenChange). KeepsUnchanged it start (standing_on after))
            (sym (ap (λ (w : Watch). w.change) c.loop-pack.invariant.reported))
            (subst (λ (s : Standing). KeepsUnchanged (changes_on start instrs) start s)
            (sym c.loop-pack.invariant.draws.draws)
            (c.unchanged_stays.ensures start instrs c.watch_of-watch.ensures.whole));
      };
    }
