use Rattle.std.proofs.Common.{◌++◌, List, ℕ, ap, sym, ◌∙◌}
use Rattle.arrayvec.specs.ArrayVec.{ArrayVec}
use Rattle.live_player.specs.Lives.{blocks_in, stream_words}
use Rattle.live_player.proofs.LiveViews.{fed_more}
use Rattle.live_player.proofs.Words.{given_words, no_words}
use Rattle.live_player.proofs.live.LivePlayer.take.Goals as goal

pub returns-in-Some-clause-fed : goal.returns-in-Some-clause-fed
returns-in-Some-clause-fed c form lead_in given played =
    fed_more form lead_in given c.args.block.now c.args.self.now c.step.new.self c.told-block
    c.step.ensures.gathers c.step.ensures.draws c.step.ensures.lead_in c.step.ensures.blocks
    c.step.ensures.bad played

pub returns-in-Some-clause-words : goal.returns-in-Some-clause-words
returns-in-Some-clause-words c form lead_in given played =
    given_words form lead_in (blocks_in given) c.args.block.now c.args.self.now.words c.in-Some.words
    c.told-block played.sized played.gathers (sym c.in-Some.is ∙ c.step.ensures.gives)
    ∙ ap (λ (words : ArrayVec (List ℕ)). stream_words form lead_in (blocks_in given) ++ words.items)
    (sym c.into_words.ensures)

pub returns-in-None-clause-fed : goal.returns-in-None-clause-fed
returns-in-None-clause-fed c form lead_in given played =
    fed_more form lead_in given c.args.block.now c.args.self.now c.step.new.self c.told-block
    c.step.ensures.gathers c.step.ensures.draws c.step.ensures.lead_in c.step.ensures.blocks
    c.step.ensures.bad played

pub returns-in-None-clause-words : goal.returns-in-None-clause-words
returns-in-None-clause-words c form lead_in given played =
    no_words form lead_in (blocks_in given) c.args.block.now c.args.self.now.words c.told-block
    played.sized
    played.gathers (sym c.in-None.is ∙ c.step.ensures.gives)
    ∙ ap (λ (l : List (List ℕ)). stream_words form lead_in (blocks_in given) ++ l) (sym c.new.ensures)
