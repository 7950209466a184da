use Rattle.std.proofs.Common.{◌≡◌, true, is_none, sym, arith, rules}
use Rattle.cdtext_packs.specs.Kept.{with_number}
use Rattle.cdtext_packs.proofs.KeptPacks.{find_below, find_below_none}
use Rattle.cdtext_packs.proofs.reading.first_missing.Goals as goal

pub returns-then-is_none : goal.returns-then-is_none
returns-then-is_none c =
    let here : is_none (with_number c.args.kept.now c.loop-number.number) ≡ true = search rules in
    sym (find_below (λ n. is_none (with_number c.args.kept.now n)) c.args.count c.loop-number.number
    c.loop-number-test.true c.loop-number.invariant here)

pub returns : goal.returns
returns c =
    let end : c.loop-number.number ≡ c.args.count = omega arith in
    sym (find_below_none (λ n. is_none (with_number c.args.kept.now n)) c.args.count
    (λ k less. c.loop-number.invariant k (omega arith)))
