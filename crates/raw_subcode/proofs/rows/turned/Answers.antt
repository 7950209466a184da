use Rattle.std.proofs.Common.{◌≡◌, ◌-◌, ◌<◌, ℕ, Bool, [], ◌∷◌, get_or, refl}
use Rattle.bit_lists.specs.Bits.{has_bit}
use Rattle.raw_subcode.specs.Rows.{in_rows}
use Rattle.raw_subcode.proofs.RowBits.{Holds, eight, eight_rows, exchanged_hold, row_bits}
use Rattle.raw_subcode.proofs.rows.turned.Goals as goal

pub returns-clause-rows : goal.returns-clause-rows
returns-clause-rows c =
    eight_rows _ _ _ _ _ _ _ _ c.exchanged-9.ensures.upper_size c.exchanged-9.ensures.lower_size
    c.exchanged-10.ensures.upper_size c.exchanged-10.ensures.lower_size c.exchanged-11.ensures.upper_size
    c.exchanged-11.ensures.lower_size c.exchanged-12.ensures.upper_size c.exchanged-12.ensures.lower_size

pub returns-clause-bits : goal.returns-clause-bits
returns-clause-bits c = λ r w i r_lt w_lt lt.
    let rows = c.args.rows in
    let x : (r : ℕ) → Holds (get_or rows r []) (λ b i. has_bit b (in_rows rows r i)) =
    λ r. record { bit = λ b i lt. refl } in
    let a04 =
    exchanged_hold 4 15 _ _ c.exchanged.result _ _ (x 0) (x 4) c.exchanged.ensures.upper
    c.exchanged.ensures.lower in
    let a15 =
    exchanged_hold 4 15 _ _ c.exchanged-2.result _ _ (x 1) (x 5) c.exchanged-2.ensures.upper
    c.exchanged-2.ensures.lower in
    let a26 =
    exchanged_hold 4 15 _ _ c.exchanged-3.result _ _ (x 2) (x 6) c.exchanged-3.ensures.upper
    c.exchanged-3.ensures.lower in
    let a37 =
    exchanged_hold 4 15 _ _ c.exchanged-4.result _ _ (x 3) (x 7) c.exchanged-4.ensures.upper
    c.exchanged-4.ensures.lower in
    let b02 =
    exchanged_hold 2 51 _ _ c.exchanged-5.result _ _ a04.0 a26.0 c.exchanged-5.ensures.upper
    c.exchanged-5.ensures.lower in
    let b13 =
    exchanged_hold 2 51 _ _ c.exchanged-6.result _ _ a15.0 a37.0 c.exchanged-6.ensures.upper
    c.exchanged-6.ensures.lower in
    let b46 =
    exchanged_hold 2 51 _ _ c.exchanged-7.result _ _ a04.1 a26.1 c.exchanged-7.ensures.upper
    c.exchanged-7.ensures.lower in
    let b57 =
    exchanged_hold 2 51 _ _ c.exchanged-8.result _ _ a15.1 a37.1 c.exchanged-8.ensures.upper
    c.exchanged-8.ensures.lower in
    let c01 =
    exchanged_hold 1 85 _ _ c.exchanged-9.result _ _ b02.0 b13.0 c.exchanged-9.ensures.upper
    c.exchanged-9.ensures.lower in
    let c23 =
    exchanged_hold 1 85 _ _ c.exchanged-10.result _ _ b02.1 b13.1 c.exchanged-10.ensures.upper
    c.exchanged-10.ensures.lower in
    let c45 =
    exchanged_hold 1 85 _ _ c.exchanged-11.result _ _ b46.0 b57.0 c.exchanged-11.ensures.upper
    c.exchanged-11.ensures.lower in
    let c67 =
    exchanged_hold 1 85 _ _ c.exchanged-12.result _ _ b46.1 b57.1 c.exchanged-12.ensures.upper
    c.exchanged-12.ensures.lower in
    let turned_to : ℕ → ℕ → Bool = λ r w. has_bit (7 - r) (in_rows rows w i) in
    eight (λ r. (w : ℕ) → w < 8
    → has_bit (7 - w) (in_rows
    (c.exchanged-9.result.0 ∷ c.exchanged-9.result.1 ∷ c.exchanged-10.result.0 ∷ c.exchanged-10.result.1
    ∷ c.exchanged-11.result.0 ∷ c.exchanged-11.result.1 ∷ c.exchanged-12.result.0 ∷ c.exchanged-12.result.1
    ∷ []) r i)
    ≡ turned_to r w)
    (row_bits c.exchanged-9.result.0 _ (turned_to 0) i lt c01.0 refl refl refl refl refl refl refl refl)
    (row_bits c.exchanged-9.result.1 _ (turned_to 1) i lt c01.1 refl refl refl refl refl refl refl refl)
    (row_bits c.exchanged-10.result.0 _ (turned_to 2) i lt c23.0 refl refl refl refl refl refl refl refl)
    (row_bits c.exchanged-10.result.1 _ (turned_to 3) i lt c23.1 refl refl refl refl refl refl refl refl)
    (row_bits c.exchanged-11.result.0 _ (turned_to 4) i lt c45.0 refl refl refl refl refl refl refl refl)
    (row_bits c.exchanged-11.result.1 _ (turned_to 5) i lt c45.1 refl refl refl refl refl refl refl refl)
    (row_bits c.exchanged-12.result.0 _ (turned_to 6) i lt c67.0 refl refl refl refl refl refl refl refl)
    (row_bits c.exchanged-12.result.1 _ (turned_to 7) i lt c67.1 refl refl refl refl refl refl refl refl)
    r r_lt w w_lt
