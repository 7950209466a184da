use Rattle.std.proofs.Common.{List, ℕ, map, ◌%◌, subst}
use Rattle.cdg_instructions.specs.Instruction.{Means}
use Rattle.cdg_instructions.proofs.Meaning.{only_meaning}
use Rattle.live_player.specs.Lives.{instruction_of}
use Rattle.live_player.proofs.seeing.read_pack.Goals as goal

pub returns-clause-instruction : goal.returns-clause-instruction
unfolding instruction_of
returns-clause-instruction c =
    only_meaning (map (λ byte. byte % 64) c.args.pack.now) c.read_word.result
    (subst (λ (word : List ℕ). Means word c.read_word.result) c.new.ensures c.read_word.ensures.meaning)
