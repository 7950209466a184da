use Rattle.std.proofs.Common.{◌++◌, ap, ◌∙◌, arith, append-nil}
use Rattle.std.proofs.lemmas.List.{drop_all}
use Rattle.cdg_workload.proofs.needle.put_sixteen.Goals as goal

pub returns-in-Some : goal.returns-in-Some
returns-in-Some c =
    ap (λ l. c.args.bytes.now ++ l) (drop_all 16 c.args.row.now (omega (arith, c.requires)))
    ∙ append-nil c.args.bytes.now
