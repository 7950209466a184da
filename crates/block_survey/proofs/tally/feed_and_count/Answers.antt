use Rattle.std.proofs.Common.{◌≡◌, ◌∷◌, List, ℕ, ap, ap₂, sym, subst, ◌∙◌}
use Rattle.live_player.specs.Lives.{blocks_in}
use Rattle.live_player.specs.Lives.Given.{Fed}
use Rattle.live_player.proofs.Slots.{form_stays}
use Rattle.stream_stages.specs.Steps.{fresh_words}
use Rattle.raw_subcode.specs.declared.form.Form.{Form}
use Rattle.block_survey.specs.Tallies.{tallied, IsTallyOf}
use Rattle.block_survey.specs.declared.tally.PlayerTally.{PlayerTally}
use Rattle.block_survey.proofs.Tallies.{block_more}
use Rattle.block_survey.proofs.tally.feed_and_count.Goals as goal

pub returns-clause-tallies : goal.returns-clause-tallies
returns-clause-tallies c form lead_in given played so_far =
    let block = c.args.block.now in
    let tally = c.args.tally.now in
    let same : c.args.live.now.words.form ≡ form =
    ap (λ w. w.form) played.gathers ∙ form_stays (fresh_words form lead_in) (blocks_in given) in
    let words : c.as_slice.result.now ≡ c.take-words.result.items = c.as_slice.ensures.value in
    subst (λ (t : PlayerTally). IsTallyOf form lead_in (Fed block ∷ given) t)
    (sym (c.count.ensures ∙ ap₂ (λ (f : Form) (w : List (List ℕ)). tallied f w block tally) same words))
    (block_more form lead_in given block c.take-words.result.items tally so_far
    (c.take-words.ensures.words form lead_in given played))
