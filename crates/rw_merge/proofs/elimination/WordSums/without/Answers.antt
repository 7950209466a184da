use Rattle.std.proofs.Common.{◌≡◌, ℕ, suc, List, bit_xor, sym, ap₂, ◌∙◌, arith}
use Rattle.gf64.specs.Field.{product}
use Rattle.rw_code.specs.Codeword.{weighted_sum}
use Rattle.rw_merge.specs.Elimination.{cleared}
use Rattle.rw_merge.proofs.Sums.{weighted_sum-cleared}
use Rattle.rw_merge.proofs.elimination.WordSums.without.Goals as goal

-- a sum after a share is removed, as the code computes it
taken_out : (j x power next this part sum : ℕ) (es : List ℕ) → power ≡ x → next ≡ weighted_sum (suc j) es
    → this ≡ weighted_sum j es → part ≡ product power this → sum ≡ bit_xor next part
    → sum ≡ weighted_sum j (cleared x es)
taken_out j x power next this part sum es power_is next_is this_is part_is sum_is =
    sum_is ∙ ap₂ bit_xor next_is (part_is ∙ ap₂ product power_is this_is) ∙ sym (weighted_sum-cleared j x es)

pub returns : goal.returns
returns c n word lt sums = record {
  zeroth =
      λ some. taken_out 0 _ _ _ _ _ _ word c.power_at-power.ensures (sums.first (omega arith))
      (sums.zeroth (omega arith)) c.mul.ensures c.add.ensures.sum;
  first =
      λ some. taken_out 1 _ _ _ _ _ _ word c.power_at-power.ensures (sums.second (omega arith))
      (sums.first (omega arith)) c.mul-2.ensures c.add-2.ensures.sum;
  second =
      λ some. taken_out 2 _ _ _ _ _ _ word c.power_at-power.ensures (sums.third (omega arith))
      (sums.second (omega arith)) c.mul-3.ensures c.add-3.ensures.sum;
  third = λ some. absurd (omega arith);
}
