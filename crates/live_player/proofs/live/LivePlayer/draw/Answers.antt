use Rattle.std.proofs.Common.{◌≡◌, [], ◌∷◌, List, ℕ, map, ◌%◌, ap, ◌∙◌, refl, subst}
use Rattle.cdg_instructions.specs.Instruction.{Means}
use Rattle.cdg_instructions.specs.declared.instr.Instr.{Instr}
use Rattle.cdg_instructions.proofs.Meaning.{only_meaning}
use Rattle.cdg_screen.specs.Memory.{seen}
use Rattle.cdg_screen.specs.Standing.{standing_after}
use Rattle.live_player.specs.Lives.{instruction_of}
use Rattle.live_player.proofs.LiveViews.{drawn_more}
use Rattle.live_player.proofs.live.LivePlayer.draw.Goals as goal

drawn : (c : goal.After-obey)
    → seen c.obey.new.self
    ≡ standing_after (seen c.args.self.now.screen) (instruction_of c.args.pack.now ∷ [])
unfolding instruction_of
drawn c =
    let read : c.read_word.result ≡ instruction_of c.args.pack.now =
    only_meaning (map (λ byte. byte % 64) c.args.pack.now) c.read_word.result
    (subst (λ (word : List ℕ). Means word c.read_word.result) c.new.ensures c.read_word.ensures.meaning) in
    c.obey.ensures
    ∙ ap (λ (i : Instr). standing_after (seen c.args.self.now.screen) (i ∷ [])) read

pub returns-clause-draws : goal.returns-clause-draws
returns-clause-draws c = record { gathers = refl; draws = drawn c; lead_in = refl; counts = refl; bad = refl }

pub returns-clause-drawn : goal.returns-clause-drawn
returns-clause-drawn c form lead_in given played =
    drawn_more form lead_in given c.args.pack.now c.args.self.now _ refl (drawn c) refl refl refl played
