use Rattle.std.proofs.Common.{◌≡◌, [], ◌∷◌, subst, bit_xor}
use Rattle.gf64.specs.Field.{product, alpha_power}
use Rattle.rw_code.specs.Syndromes.{ContinuesTo}
use Rattle.rw_code.proofs.Parity.{first_continues}
use Rattle.rw_code.proofs.pack.FirstParity.push.Goals as goal

pub returns : goal.returns
returns c =
    let old = c.args.self in
    let f = c.add-feedback.result in
    let new : bit_xor old.low (product (alpha_power 6) f) ∷ product (alpha_power 1) f ∷ []
    ≡ c.add.result ∷ c.mul-2.result ∷ [] =
    cc in
    subst (ContinuesTo 2 (old.high ∷ old.low ∷ []) c.args.symbol) new
    (first_continues old.high old.low c.args.symbol f c.add-feedback.ensures.sum c.add-feedback.ensures.below)
