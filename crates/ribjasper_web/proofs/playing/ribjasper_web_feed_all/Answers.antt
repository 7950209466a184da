use Rattle.std.proofs.Common.{◌≡◌, ◌<◌, ◌≤◌, ◌/◌, ◌+◌, ◌∷◌, [], ◌++◌, ℕ, List, length, map, reverse, take, ap, refl, subst, sym, ◌∙◌, arith}
use Rattle.std.proofs.lemmas.List.{take_all, take_more}
use Rattle.raw_subcode.specs.Channels.{blocks_of}
use Rattle.block_survey.proofs.EndedWords.{length-blocks}
use Rattle.live_player.specs.Lives.{Fed, HasPlayed}
use Rattle.live_player.specs.Plain.{player_of}
use Rattle.live_player.specs.Taken.{TakesBlocks}
use Rattle.live_player.proofs.Seen.{given_more, takes_more}
use Rattle.ribjasper_web.proofs.playing.ribjasper_web_feed_all.Goals as goal

pub loop-b-init : goal.loop-b-init
loop-b-init c = record { takes = refl; fed = λ begun lead_in given played. played }

pub loop-b-preserved : goal.loop-b-preserved
loop-b-preserved c =
    let blocks : List (List ℕ) = blocks_of c.form_of-form.result c.args.stream.now in
    let b : ℕ = c.loop-b.b in
    let lt : b < length blocks =
    omega (
      arith,
      length-blocks c.form_of-form.result c.args.stream.now,
      subst (λ size. b < length c.args.stream.now / size) c.unit_bytes.ensures c.loop-b-test.true,
    ) in
    let more : take (b + 1) blocks ≡ take b blocks ++ c.block_at-block.result ∷ [] =
    take_more blocks b [] lt ∙ ap (λ x. take b blocks ++ x ∷ []) (sym c.block_at-block.ensures) in
    let before = player_of c.args.player.now in
    let after = player_of c.feed.new.self in
    record {
      takes = subst (λ (l : List (List ℕ)). TakesBlocks l before after) (sym more)
          (takes_more (take b blocks) c.block_at-block.result before (player_of c.loop-b.player) after
          c.loop-b.invariant.takes c.feed.ensures.takes);
      fed = λ begun lead_in given played.
          subst (λ g. HasPlayed begun lead_in g after)
          (sym (given_more Fed (take b blocks) c.block_at-block.result given)
          ∙ ap (λ l. map Fed (reverse l) ++ given) (sym more))
          (c.feed.ensures.fed begun lead_in (map Fed (reverse (take b blocks)) ++ given)
          (c.loop-b.invariant.fed begun lead_in given played));
    }

pub returns-clause-takes : goal.returns-clause-takes
returns-clause-takes c =
    let form = c.form_of-form.result in
    let bytes = c.args.stream.now in
    let b : ℕ = c.loop-b.b in
    let past : length (blocks_of form bytes) ≤ b =
    omega (
      arith,
      length-blocks form bytes,
      subst (λ size. length bytes / size ≤ b) c.unit_bytes.ensures c.loop-b-test.false,
    ) in
    subst (λ f. TakesBlocks (blocks_of f bytes) (player_of c.args.player.now) (player_of c.loop-b.player))
    c.form_of-form.ensures
    (subst (λ l. TakesBlocks l (player_of c.args.player.now) (player_of c.loop-b.player))
    (take_all b (blocks_of form bytes) past) c.loop-b.invariant.takes)

pub returns-clause-fed : goal.returns-clause-fed
returns-clause-fed c begun lead_in given played =
    let form = c.form_of-form.result in
    let bytes = c.args.stream.now in
    let b : ℕ = c.loop-b.b in
    let past : length (blocks_of form bytes) ≤ b =
    omega (
      arith,
      length-blocks form bytes,
      subst (λ size. length bytes / size ≤ b) c.unit_bytes.ensures c.loop-b-test.false,
    ) in
    subst
    (λ f.
    HasPlayed begun lead_in (map Fed (reverse (blocks_of f bytes)) ++ given) (player_of c.loop-b.player))
    c.form_of-form.ensures
    (subst (λ l. HasPlayed begun lead_in (map Fed (reverse l) ++ given) (player_of c.loop-b.player))
    (take_all b (blocks_of form bytes) past) (c.loop-b.invariant.fed begun lead_in given played))
