use Rattle.std.proofs.Common.{◌≡◌, ◌∙◌, sym, arith, rules}
use Rattle.rw_merge.proofs.Sums.{only_power, power_is_ratio}
use Rattle.rw_merge.proofs.places.further_position.Goals as goal

pub returns-then-eq : goal.returns-then-eq
returns-then-eq c =
    let same : c.power_at.result ≡ c.mul-ratio.result = search rules in (
      c.loop-j-test.true,
      λ k lt at. only_power _ _ _ _ k c.loop-j.j c.inv.ensures c.mul-ratio.ensures lt c.loop-j-test.true
          (sym c.power_at.ensures ∙ same) at,
    )

pub returns : goal.returns
returns c k lt at =
    c.loop-j.invariant k (omega (arith, c.loop-j-test.false, lt))
    (power_is_ratio _ _ _ _ k c.inv.ensures c.mul-ratio.ensures at)
