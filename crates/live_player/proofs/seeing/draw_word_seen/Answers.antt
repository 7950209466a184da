use Rattle.std.proofs.Common.{◌∙◌, [], ◌∷◌, List, ℕ, ap}
use Rattle.std.specs.declared.option.Option.{Option}
use Rattle.cdg_io.specs.Run.{run_state}
use Rattle.cdg_instructions.specs.declared.instr.Instr.{Instr}
use Rattle.cdg_instructions.proofs.Meaning.{only_meaning}
use Rattle.cdg_screen.specs.Memory.{seen}
use Rattle.cdg_screen.specs.Standing.{standing_after}
use Rattle.stream_stages.specs.Drawn.{entry_drawn}
use Rattle.stream_stages.proofs.Recovers.{found_some, found_none, bad_some, bad_none}
use Rattle.live_player.specs.Changes.{sees}
use Rattle.live_player.specs.Lives.{meant_by}
use Rattle.live_player.proofs.seeing.draw_word_seen.Goals as goal

pub returns-in-Some-clause-screen : goal.returns-in-Some-clause-screen
returns-in-Some-clause-screen c =
    c.obey.ensures
    ∙ ap (λ (i : Instr). standing_after (seen c.args.screen.now) (i ∷ []))
    (only_meaning c.in-Some.fixed.pack c.read-instr.result c.read-instr.ensures.meaning)
    ∙ ap (entry_drawn (seen c.args.screen.now))
    (found_some c.args.word.now _ c.correct.ensures.word c.in-Some.ensures.reads.0)

pub returns-in-Some-clause-bad : goal.returns-in-Some-clause-bad
returns-in-Some-clause-bad c =
    bad_some _ _ _ (found_some c.args.word.now _ c.correct.ensures.word c.in-Some.ensures.reads.0)

pub returns-in-Some-clause-sees : goal.returns-in-Some-clause-sees
returns-in-Some-clause-sees c =
    c.see.ensures
    ∙ ap (sees c.args.watch.now)
    (only_meaning c.in-Some.fixed.pack c.read-instr.result c.read-instr.ensures.meaning)
    ∙ ap (λ (found : Option (List ℕ)). run_state sees c.args.watch.now (meant_by (found ∷ [])))
    (found_some c.args.word.now _ c.correct.ensures.word c.in-Some.ensures.reads.0)

pub returns-in-None-clause-screen : goal.returns-in-None-clause-screen
returns-in-None-clause-screen c =
    ap (entry_drawn (seen c.args.screen.now))
    (found_none c.args.word.now c.correct.ensures.word c.in-None.ensures.reads)

pub returns-in-None-clause-bad : goal.returns-in-None-clause-bad
returns-in-None-clause-bad c =
    c.saturating_add.ensures
    ∙ bad_none _ _ (found_none c.args.word.now c.correct.ensures.word c.in-None.ensures.reads)

pub returns-in-None-clause-sees : goal.returns-in-None-clause-sees
returns-in-None-clause-sees c =
    ap (λ (found : Option (List ℕ)). run_state sees c.args.watch.now (meant_by (found ∷ [])))
    (found_none c.args.word.now c.correct.ensures.word c.in-None.ensures.reads)
