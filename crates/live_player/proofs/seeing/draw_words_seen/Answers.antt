use Rattle.std.proofs.Common.{◌<◌, ◌∙◌, ◌∷◌, [], List, ℕ, ap, sym, refl, map, arith, take}
use Rattle.std.proofs.lemmas.List.{take_all, length-map, length-take-le}
use Rattle.std.proofs.lemmas.List.Sums.{count_by-le-length}
use Rattle.std.specs.Prelude.{is_none}
use Rattle.cdg_io.specs.Run.{run_state}
use Rattle.cdg_io.proofs.Runs.{run_state-append}
use Rattle.cdg_screen.specs.Memory.{seen}
use Rattle.cdg_screen.specs.Standing.{standing_after}
use Rattle.rw_code.specs.Finding.{finding}
use Rattle.rw_interleave.specs.Stream.{bad_count}
use Rattle.stream_stages.proofs.Recovers.{take_one_more}
use Rattle.live_player.specs.Changes.{sees}
use Rattle.live_player.specs.Lives.{instructions_of}
use Rattle.live_player.specs.declared.watch.Watch.{Watch}
use Rattle.live_player.proofs.LiveViews.{instructions_append, word_counted, word_drawn}
use Rattle.live_player.proofs.seeing.draw_words_seen.Goals as goal

pub loop-word-init : goal.loop-word-init
loop-word-init c = record { drawn = sym c.what_stands_is_whole.ensures; bad = refl; reported = refl }

pub loop-word-preserved : goal.loop-word-preserved
loop-word-preserved c =
    let items = c.as_slice-word-items.result.now in
    let i = c.loop-word.word-index in
    let few : i < 4 = omega (arith, c.as_slice-word-items.ensures.fits) in
    let none_near = count_by-le-length is_none (map finding (take i items)) in
    let size = length-map (take i items) finding in
    let taken = length-take-le i items (omega arith) in
    let more = take_one_more items i _ (omega arith) c.word-item.is in
    record {
      drawn =
          word_drawn (seen c.args.screen.now) _ _ (take i items) _ c.loop-word.invariant.drawn
          c.draw_word_seen.ensures.screen
          ∙ ap (λ (l : List (List ℕ)). standing_after (seen c.args.screen.now) (instructions_of l))
          (sym more);
      bad =
          word_counted _ _ (take i items) _ c.loop-word.invariant.bad
          (omega (arith, c.loop-word.invariant.bad, none_near, size, taken, few)) c.draw_word_seen.ensures.bad
          ∙ ap (λ (l : List (List ℕ)). bad_count (map finding l)) (sym more);
      reported =
          c.draw_word_seen.ensures.sees
          ∙ ap (λ (w : Watch). run_state sees w (instructions_of (c.word-item.result ∷ [])))
          c.loop-word.invariant.reported
          ∙ sym (run_state-append sees c.args.watch.now (instructions_of (take i items))
          (instructions_of (c.word-item.result ∷ [])))
          ∙ ap (run_state sees c.args.watch.now) (sym (instructions_append (take i items)
          (c.word-item.result ∷ [])))
          ∙ ap (λ (l : List (List ℕ)). run_state sees c.args.watch.now (instructions_of l)) (sym more);
    }

pub returns-clause-drawn : goal.returns-clause-drawn
returns-clause-drawn c =
    c.loop-word.invariant.drawn
    ∙ ap (λ (l : List (List ℕ)). standing_after (seen c.args.screen.now) (instructions_of l))
    (take_all c.loop-word.word-index c.as_slice-word-items.result.now (omega arith)
    ∙ c.as_slice-word-items.ensures.value)

pub returns-clause-bad : goal.returns-clause-bad
returns-clause-bad c =
    c.loop-word.invariant.bad
    ∙ ap (λ (l : List (List ℕ)). bad_count (map finding l))
    (take_all c.loop-word.word-index c.as_slice-word-items.result.now (omega arith)
    ∙ c.as_slice-word-items.ensures.value)

pub returns-clause-sees : goal.returns-clause-sees
returns-clause-sees c =
    c.loop-word.invariant.reported
    ∙ ap (λ (l : List (List ℕ)). run_state sees c.args.watch.now (instructions_of l))
    (take_all c.loop-word.word-index c.as_slice-word-items.result.now (omega arith)
    ∙ c.as_slice-word-items.ensures.value)
