use Rattle.std.proofs.Common.{◌≡◌, ◌-◌, ◌^◌, [], List, ℕ, refl, ap, sym, rules}
use Rattle.std.specs.Prelude.{min}
use Rattle.block_survey.specs.Rows.{bad_words, wrong_count}
use Rattle.live_player.specs.Lives.{stream_words}
use Rattle.live_player.proofs.Words.{no_words_yet}
use Rattle.block_survey.proofs.tally.PlayerTally.nothing.Goals as goal

pub returns : goal.returns
returns c form lead_in =
    let none : stream_words form lead_in [] ≡ [] = no_words_yet form lead_in in
    let wrong : (n : ℕ) → 0 ≡ min (wrong_count n (stream_words form lead_in [])) (2 ^ 64 - 1) =
    λ n. ap (λ (words : List (List ℕ)). min (wrong_count n words) (2 ^ 64 - 1)) (sym none) in
    record {
      blocks = refl;
      clean = wrong 0;
      one = wrong 1;
      two = wrong 2;
      bad = ap (λ (words : List (List ℕ)). min (bad_words words) (2 ^ 64 - 1)) (sym none);
      frames = refl;
      bad_frames = refl;
      frame_block = refl;
      frame = search rules;
    }
