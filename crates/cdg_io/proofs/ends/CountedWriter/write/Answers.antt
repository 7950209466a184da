use Rattle.std.proofs.Common.{ℕ, subst, Result, rules}
use Rattle.std.specs.Io.{WritesAtMost}
use Rattle.std.specs.Io.KnownBytes.{WriteAppends}
use Rattle.std.specs.declared.io.Error.{Error}
use Rattle.cdg_io.proofs.Waiting.{nothing_written}
use Rattle.cdg_io.proofs.ends.CountedWriter.write.Goals as goal

pub returns-clause-wrote : goal.returns-clause-wrote
returns-clause-wrote g c = λ n is.
    let (answer, some) = (c.of.ensures.wrote n).0 ((c.count.ensures.wrote n).0 is) in
    let before = g.W.Write.contents c.args.self.now.inner in
    let bound =
    subst (λ (r : Result ℕ Error). WritesAtMost r c.args.bytes.now) answer c.write-answer.ensures.bound in
    let bytes =
    subst
    (λ (r : Result ℕ Error).
    WriteAppends before (g.W.Write.contents c.count.new.self.inner) r c.args.bytes.now)
    answer (search rules) in
    (some, bound, bytes)

pub returns-clause-keeps : goal.returns-clause-keeps
returns-clause-keeps g c = λ none.
    nothing_written _ _ c.write-answer.result c.args.bytes.now (search rules)
    (λ n some answer. none n ((c.count.ensures.wrote n).1 ((c.of.ensures.wrote n).1 (answer, some))))
