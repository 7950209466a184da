use Rattle.std.proofs.Common.{subst, List, ℕ}
use Rattle.cdg_instructions.specs.Instruction.{Means}
use Rattle.cdg_instructions.proofs.Meaning.{only_meaning}
use Rattle.raw_subcode.specs.Channels.{symbols_of}
use Rattle.cdg_press.specs.Steps.{pack_instruction}
use Rattle.cdg_press.proofs.thinner.instruction.Goals as goal

pub returns-clause-meaning : goal.returns-clause-meaning
unfolding pack_instruction
returns-clause-meaning c =
    only_meaning (symbols_of c.args.bytes.now) c.read_word.result
    (subst (λ (word : List ℕ). Means word c.read_word.result) c.new.ensures c.read_word.ensures.meaning)
