use Rattle.std.proofs.Common.{◌∙◌, arith}
use Rattle.std.proofs.lemmas.List.{take_all}
use Rattle.cdg_workload.proofs.needle.sixteen_of.Goals as goal

pub returns : goal.returns
returns c = c.in-Some.ensures.cases.same ∙ take_all 16 c.args.row.now (omega (arith, c.requires))
