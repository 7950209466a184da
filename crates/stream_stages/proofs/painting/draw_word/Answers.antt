use Rattle.cdg_screen.specs.Memory.{seen}
use Rattle.std.proofs.Common.{List, [], ◌∷◌, ℕ, sym, ap, ◌∙◌}
use Rattle.cdg_instructions.specs.Meaning.{meaning}
use Rattle.cdg_screen.specs.Standing.{standing_after}
use Rattle.stream_stages.specs.Drawn.{entry_drawn}
use Rattle.stream_stages.proofs.Recovers.{found_itself, bad_some}
use Rattle.stream_stages.proofs.painting.draw_word.Goals as goal

pub returns-then-is_idle-clause-screen : goal.returns-then-is_idle-clause-screen
returns-then-is_idle-clause-screen c =
    let word = c.args.word.now in
    let screen = (seen c.args.screen.now) in
    let (zeros, is_codeword) = c.is_idle.ensures c.if-is_idle.true in
    c.idle_packs_draw_nothing.ensures
    ∙ ap (λ (w : List ℕ). standing_after screen (meaning w ∷ [])) (sym zeros)
    ∙ ap (entry_drawn screen) (found_itself word is_codeword)

pub returns-then-is_idle-clause-bad : goal.returns-then-is_idle-clause-bad
returns-then-is_idle-clause-bad c =
    let facts = c.is_idle.ensures c.if-is_idle.true in
    bad_some _ _ _ (found_itself c.args.word.now facts.1)
