use Rattle.std.proofs.Common.{◌≡◌, ℕ, ◌<◌, List, take, ◌+◌, get_or, bit_xor, sym, ap, ap₂, ◌∙◌, arith}
use Rattle.std.proofs.lemmas.List.{take_all}
use Rattle.gf64.specs.Field.{product, alpha_power}
use Rattle.rw_code.specs.Codeword.{IsWord, weighted_sum}
use Rattle.rw_code.proofs.SumLemmas.{weighted_sum_more, weighted_sum_none}
use Rattle.rw_merge.proofs.elimination.sum.Goals as goal

one_more : (j i power sum part symbol new : ℕ) (xs : List ℕ) → IsWord xs → i < 24 → power ≡ alpha_power j
    → sum ≡ weighted_sum j (take i xs) → part ≡ product power sum → symbol ≡ get_or xs i 0
    → new ≡ bit_xor part symbol
    → new ≡ weighted_sum j (take (i + 1) xs)
one_more j i power sum part symbol new xs is_word lt power_is sum_is part_is symbol_is new_is =
    new_is
    ∙ ap₂ bit_xor (part_is ∙ ap₂ product power_is sum_is) symbol_is
    ∙ sym (weighted_sum_more j xs i is_word.symbols (omega (arith, is_word.size)))

pub loop-i-init : goal.loop-i-init
loop-i-init c = c.default-sum.ensures ∙ sym (weighted_sum_none c.args.j)

pub loop-i-preserved : goal.loop-i-preserved
loop-i-preserved c =
    one_more c.args.j c.loop-i.i _ _ _ _ _ c.args.word.now c.requires c.loop-i-test.true c.alpha-power.ensures
    c.loop-i.invariant c.mul.ensures c.get.ensures c.add-sum.ensures.sum

pub returns : goal.returns
returns c =
    c.loop-i.invariant
    ∙ ap (weighted_sum c.args.j) (take_all c.loop-i.i c.args.word.now (omega (arith, c.requires.size)))
