use Rattle.std.proofs.Common.{◌≡◌, ◌≢◌, ℕ, ◌<◌, ◌-◌, bit_xor, sym, ap₂, ◌∙◌, arith}
use Rattle.std.proofs.lemmas.Nat.{xor_lt}
use Rattle.gf64.specs.Field.{product, alpha_power}
use Rattle.gf64.proofs.FieldLaws.{product-lt, product_cancel, alpha_power-lt}
use Rattle.rw_code.proofs.Errors.{powers_apart}
use Rattle.rw_merge.proofs.Sums.{error_found}
use Rattle.rw_merge.proofs.elimination.WordSums.error_at.Goals as goal

-- the sum of the powers of two different positions is not 0, nor is a product of such sums
scales : (i a b c : ℕ) → i < 24 → (a < 24) × (a ≢ i) → (b < 24) × (b ≢ i) → (c < 24) × (c ≢ i)
    → product (product (bit_xor (alpha_power (23 - i)) (alpha_power (23 - a)))
    (bit_xor (alpha_power (23 - i)) (alpha_power (23 - b))))
    (bit_xor (alpha_power (23 - i)) (alpha_power (23 - c)))
    ≢ 0
scales i a b c lt a_is b_is c_is none =
    let last = product_cancel _ _ (product-lt _ _) (xor_lt 6 _ _ (alpha_power-lt _) (alpha_power-lt _))
    (λ both. powers_apart i b lt b_is.0 b_is.1 (product_cancel _ _
    (xor_lt 6 _ _ (alpha_power-lt _) (alpha_power-lt _)) (xor_lt 6 _ _ (alpha_power-lt _) (alpha_power-lt _))
    (powers_apart i a lt a_is.0 a_is.1) both)) none in
    powers_apart i c lt c_is.0 c_is.1 last

scale_is : (i a b c x x_a x_b x_c s_a s_b s_ab s_c s : ℕ) → x ≡ alpha_power (23 - i)
    → x_a ≡ alpha_power (23 - a) → x_b ≡ alpha_power (23 - b) → x_c ≡ alpha_power (23 - c)
    → s_a ≡ bit_xor x x_a → s_b ≡ bit_xor x x_b → s_ab ≡ product s_a s_b → s_c ≡ bit_xor x x_c
    → s ≡ product s_ab s_c
    → s
    ≡ product (product (bit_xor (alpha_power (23 - i)) (alpha_power (23 - a)))
    (bit_xor (alpha_power (23 - i)) (alpha_power (23 - b))))
    (bit_xor (alpha_power (23 - i)) (alpha_power (23 - c)))
scale_is i a b c x x_a x_b x_c s_a s_b s_ab s_c s e e_a e_b e_c f_a f_b f_ab f_c f =
    f
    ∙ ap₂ product (f_ab ∙ ap₂ product (f_a ∙ ap₂ bit_xor e e_a) (f_b ∙ ap₂ bit_xor e e_b))
    (f_c ∙ ap₂ bit_xor e e_c)

pub inv-requires : goal.inv-requires
inv-requires c none =
    let is =
    scale_is c.args.at c.args.one c.args.two c.args.three _ _ _ _ _ _ _ _ _ c.power_at-power.ensures
    c.power_at.ensures c.power_at-2.ensures c.power_at-3.ensures c.add.ensures.sum c.add-2.ensures.sum
    c.mul.ensures c.add-3.ensures.sum c.mul-scale.ensures in
    scales c.args.at c.args.one c.args.two c.args.three c.requires.at c.requires.one c.requires.two
    c.requires.three (sym is ∙ none)

pub returns : goal.returns
returns c errors are =
    let is =
    scale_is c.args.at c.args.one c.args.two c.args.three _ _ _ _ _ _ _ _ _ c.power_at-power.ensures
    c.power_at.ensures c.power_at-2.ensures c.power_at-3.ensures c.add.ensures.sum c.add-2.ensures.sum
    c.mul.ensures c.add-3.ensures.sum c.mul-scale.ensures in
    let sums3 = c.without.ensures 3 errors (omega arith) are.have_sums in
    let sums2 = c.without-2.ensures 2 _ (omega arith) sums3 in
    let sums1 = c.without-scaled.ensures 1 _ (omega arith) sums2 in
    error_found errors c.args.at c.args.one c.args.two c.args.three _ _ _ _ are.is_word c.requires.at
    (λ k lt not_at not_one not_two not_three.
    are.outside k lt (not_at, (not_one, (not_two, (not_three, tt)))))
    (sums1.zeroth (omega arith)) is c.inv.ensures c.mul-2.ensures
