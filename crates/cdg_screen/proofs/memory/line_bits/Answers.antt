use Rattle.std.proofs.Common.{◌∙◌, ap, get_or}
use Rattle.std.proofs.lemmas.Nat.{and_mask}
use Rattle.cdg_screen.specs.declared.line_table.TheConstants.{LINES}
use Rattle.cdg_screen.proofs.Lines.{line_is}
use Rattle.cdg_screen.proofs.memory.line_bits.Goals as goal

pub returns-clause-bits : goal.returns-clause-bits
returns-clause-bits c =
    let e = ap (λ k. get_or LINES k 0) (c.from.ensures ∙ and_mask c.args.line 6) in
    (line_is c.args.line _ e).0

pub returns-clause-bound : goal.returns-clause-bound
returns-clause-bound c =
    let e = ap (λ k. get_or LINES k 0) (c.from.ensures ∙ and_mask c.args.line 6) in
    (line_is c.args.line _ e).1
