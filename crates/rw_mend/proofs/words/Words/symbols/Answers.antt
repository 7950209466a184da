use Rattle.std.proofs.Common.{◌+◌, ◌*◌, arith}
use Rattle.std.specs.Prelude.{None}
use Rattle.std.proofs.lemmas.List.FromFn.{fill_by_all}
use Rattle.rw_mend.specs.Symbols.{held_symbol}
use Rattle.rw_mend.proofs.words.Words.symbols.Goals as goal

pub returns : goal.returns
returns c =
    fill_by_all (λ k. held_symbol c.args.self.now c.args.text.now (96 * c.args.b + k)) c.loop-k.symbols 96
    None
    c.loop-k.invariant.size (λ k lt. c.loop-k.invariant.each k (omega (arith, lt, c.loop-k-test.false)))
