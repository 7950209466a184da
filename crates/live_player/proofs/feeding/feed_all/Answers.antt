use Rattle.std.proofs.Common.{◌≡◌, ◌∙◌, ◌+◌, ◌++◌, ◌<◌, [], List, ℕ, append-nil, append_assoc, length, get_or, map, refl, reverse, take, ap, sym, subst, arith}
use Rattle.std.proofs.lemmas.List.{take_all}
use Rattle.cdg_io.specs.Run.{run_state}
use Rattle.cdg_io.proofs.Runs.{run_state-append}
use Rattle.cdg_instructions.specs.declared.instr.Instr.{Instr}
use Rattle.cdg_screen.specs.Standing.{Standing, standing_after}
use Rattle.cdg_screen.proofs.Turns.{in_turn}
use Rattle.stream_stages.specs.Steps.{words_give}
use Rattle.live_player.specs.Lives.{Given, Fed, HasPlayed, drawn_for, instructions_in, standing_on}
use Rattle.live_player.specs.Changes.{changes_on, sees, watch_from, AreDrawnFor, KeepsUnchanged}
use Rattle.live_player.specs.declared.change.ScreenChange.{ScreenChange}
use Rattle.live_player.specs.declared.watch.Watch.{Watch}
use Rattle.live_player.specs.Taken.{instructions_from, TakesBlocks}
use Rattle.stream_stages.specs.declared.block_words.BlockWords.{BlockWords}
use Rattle.live_player.proofs.LiveViews.{drawn_next, fed_on}
use Rattle.live_player.proofs.Seen.{given_more, instructions_more, one_more, takes_more}
use Rattle.live_player.proofs.feeding.feed_all.Goals as goal

pub loop-block-init : goal.loop-block-init
loop-block-init g c =
    let before = g.P.AnyPlayer.played c.args.player.now in
    record {
      reported = (
        c.watch_of-watch.ensures.from,
        sym c.watch_of-watch.ensures.whole,
        λ form lead_in given played. sym (append-nil (instructions_in form lead_in given)),
      );
      takes = refl;
      fed = λ form lead_in given played. played;
      within = c.watch_of-watch.ensures.within;
    }

pub loop-block-preserved : goal.loop-block-preserved
loop-block-preserved g c =
    let first = g.P.AnyPlayer.played c.args.player.now in
    let now = g.P.AnyPlayer.played c.loop-block.player in
    let after = g.P.AnyPlayer.played c.play_block.new.self in
    let blocks = c.args.blocks.now in
    let i = c.loop-block.block-index in
    let block = get_or blocks i [] in
    let start : Standing = standing_on first in
    let watch : Watch = watch_from start.h start.v in
    let gathered : BlockWords = first.words in
    let before : List Instr = instructions_from gathered (take i blocks) in
    let drawn : List Instr = drawn_for (words_give now.words block) in
    let lt : i < length blocks = omega arith in
    let more = one_more blocks i [] lt in
    let instrs : before ++ drawn ≡ instructions_from gathered (take (i + 1) blocks) =
    sym (instructions_more (take i blocks) block first now
    c.loop-block.invariant.takes)
    ∙ ap (instructions_from gathered) (sym more) in
    record {
      reported = (
        c.play_block.ensures.sees
            ∙ ap (λ (w : Watch). run_state sees w drawn) c.loop-block.invariant.reported.0
            ∙ sym (run_state-append sees watch before drawn)
            ∙ ap (run_state sees watch) instrs,
        c.play_block.ensures.takes.draws
            ∙ ap (λ (s : Standing). standing_after s drawn) c.loop-block.invariant.reported.1
            ∙ sym (in_turn start before drawn)
            ∙ ap (standing_after start) instrs,
        λ form lead_in given played.
            ap (instructions_in form lead_in) (ap (λ (l : List (List ℕ)). map Fed (reverse l) ++ given) more
            ∙ given_more Fed (take i blocks) block given)
            ∙ drawn_next form lead_in (map Fed (reverse (take i blocks)) ++ given) block now
            c.play_block.ensures.size
            (c.loop-block.invariant.fed form lead_in given played)
            ∙ ap (λ (l : List Instr). l ++ drawn)
            (c.loop-block.invariant.reported.2 form lead_in given played)
            ∙ append_assoc (instructions_in form lead_in given) before drawn
            ∙ ap (λ (l : List Instr). instructions_in form lead_in given ++ l) instrs,
      );
      takes = subst (λ (l : List (List ℕ)). TakesBlocks l first after) (sym more)
          (takes_more (take i blocks) block first now after
          c.loop-block.invariant.takes c.play_block.ensures.takes);
      fed =
          λ form lead_in given played.
          subst (λ (all : List Given). HasPlayed form lead_in all after)
          (sym (ap (λ (l : List (List ℕ)). map Fed (reverse l) ++ given) more
          ∙ given_more Fed (take i blocks) block given))
          (fed_on block now after c.play_block.ensures.size c.play_block.ensures.takes form lead_in
          (map Fed (reverse (take i blocks)) ++ given)
          (c.loop-block.invariant.fed form lead_in given played));
      within = c.play_block.ensures.within;
    }

pub returns : goal.returns
returns g c =
    let first = g.P.AnyPlayer.played c.args.player.now in
    let after = g.P.AnyPlayer.played c.loop-block.player in
    let blocks : List (List ℕ) = c.args.blocks.now in
    let i : ℕ = c.loop-block.block-index in
    let start : Standing = standing_on first in
    let instrs : List Instr = instructions_from first.words (take i blocks) in
    let whole : take i blocks ≡ blocks = take_all i blocks (omega arith) in
    record {
      takes = subst (λ (l : List (List ℕ)). TakesBlocks l first after) whole c.loop-block.invariant.takes;
      fed =
          λ form lead_in given played.
          subst (λ (l : List (List ℕ)). HasPlayed form lead_in (map Fed (reverse l) ++ given) after) whole
          (c.loop-block.invariant.fed form lead_in given played);
      drawn =
          subst (λ (l : List (List ℕ)). AreDrawnFor l first (instructions_from first.words l)) whole
          c.loop-block.invariant.reported.2;
      reports = record {
        reported =
            ap (λ (w : Watch). w.change) c.loop-block.invariant.reported.0
            ∙ ap (λ (l : List (List ℕ)). changes_on start (instructions_from first.words l)) whole;
        stands =
            c.loop-block.invariant.reported.1
            ∙ ap (λ (l : List (List ℕ)). standing_after start (instructions_from first.words l)) whole;
        keeps =
            subst (λ (it : ScreenChange). KeepsUnchanged it start (standing_on after))
            (sym (ap (λ (w : Watch). w.change) c.loop-block.invariant.reported.0))
            (subst (λ (s : Standing). KeepsUnchanged (changes_on start instrs) start s)
            (sym c.loop-block.invariant.reported.1)
            (c.unchanged_stays.ensures start instrs c.watch_of-watch.ensures.whole));
      };
    }
