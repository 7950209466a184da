-- Two bytes added to the register by two tables.
use Rattle.std.proofs.Common.{◌≡◌, ℕ, ◌+◌, ◌*◌, ◌/◌, ◌%◌, ◌^◌, ◌<◌, ◌≤◌, Bool, false, List, [], ◌++◌, get_or, bit_xor, length, replicate, refl, sym, ap, ap₂, ◌∙◌, arith, length-append, append-nil, append_assoc}
use Rattle.std.proofs.lemmas.Nat.{xor_lt}
use Rattle.bit_lists.specs.Bits.{bits_of}
use Rattle.bit_lists.specs.Check.{check_polynomial}
use Rattle.bit_lists.specs.Polynomial.{combined, division_steps}
use Rattle.bit_lists.proofs.BitsLemmas.{length-bits_of, bits_of-split, bits_of-xor, bits_of-mod}
use Rattle.bit_lists.proofs.Combined.{combined-zeros, zeros-combined, combined-append, combined-assoc, combined-comm, combined-empty}
use Rattle.bit_lists.proofs.Division.{division_steps-add, division_steps-combined, division_steps-zeros}
use Rattle.bit_lists.specs.declared.check.TheConstants.{REMAINDERS, HIGH_REMAINDERS}
use Rattle.bit_lists.specs.Register.{TakesPair}
use Rattle.bit_lists.proofs.Remainders.{REMAINDERS_at, HIGH_REMAINDERS_at}

-- two bytes in front of other bits, as a sum of three lists
in_front : (x y rest : List Bool) → length x ≡ 8 → length y ≡ 8 → 16 ≤ length rest
    → x ++ (y ++ rest)
    ≡ combined (x ++ replicate 24 false)
    (replicate 8 false ++ combined (y ++ replicate 16 false) (replicate 8 false ++ rest))
in_front x y rest x_size y_size le =
    let low : combined (y ++ replicate 16 false) (replicate 8 false ++ rest) ≡ y ++ rest =
    combined-append y (replicate 8 false) (replicate 16 false) rest y_size
    ∙ ap₂ (λ a b. a ++ b) (combined-zeros 8 y (omega arith)) (zeros-combined 16 rest le) in
    let long : length (y ++ rest) ≡ length y + length rest = length-append y rest in
    sym (combined-append x (replicate 8 false) (replicate 24 false)
    (combined (y ++ replicate 16 false) (replicate 8 false ++ rest)) x_size
    ∙ ap₂ (λ a b. a ++ b) (combined-zeros 8 x (omega arith))
    (ap (combined (replicate 24 false)) low ∙ zeros-combined 24 (y ++ rest) (omega arith)))

-- sixteen steps over two bytes
pub pair_divided : (x y high low rest : List Bool) → length x ≡ 8 → length y ≡ 8 → length high ≡ 16
    → length low ≡ 16 → 16 ≤ length rest
    → high ≡ division_steps 16 check_polynomial (x ++ replicate 24 false)
    → low ≡ division_steps 8 check_polynomial (y ++ replicate 16 false)
    → division_steps 16 check_polynomial (x ++ (y ++ rest)) ≡ combined (combined high low) rest
pair_divided x y high low rest x_size y_size high_size low_size le high_rule low_rule =
    let behind = combined (y ++ replicate 16 false) (replicate 8 false ++ rest) in
    let x_long : length (x ++ replicate 24 false) ≡ 32 = length-append x (replicate 24 false) ∙ omega arith in
    let y_long : length (y ++ replicate 16 false) ≡ 24 = length-append y (replicate 16 false) ∙ omega arith in
    let rest_long : length (replicate 8 false ++ rest) ≡ 8 + length rest =
    length-append (replicate 8 false) rest in
    let same : behind ≡ y ++ rest =
    combined-append y (replicate 8 false) (replicate 16 false) rest y_size
    ∙ ap₂ (λ a b. a ++ b) (combined-zeros 8 y (omega arith)) (zeros-combined 16 rest le) in
    let behind_long : length (replicate 8 false ++ behind) ≡ 16 + length rest =
    length-append (replicate 8 false) behind ∙ omega (arith, ap length same, length-append y rest) in
    ap (division_steps 16 check_polynomial) (in_front x y rest x_size y_size le)
    ∙ division_steps-combined 16 check_polynomial (x ++ replicate 24 false) (replicate 8 false ++ behind)
    (omega arith) (omega arith)
    ∙ ap₂ combined (sym high_rule)
    (division_steps-add 8 8 16 check_polynomial (replicate 8 false ++ behind) refl
    ∙ ap (division_steps 8 check_polynomial) (division_steps-zeros 8 check_polynomial behind)
    ∙ division_steps-combined 8 check_polynomial (y ++ replicate 16 false) (replicate 8 false ++ rest)
    (omega arith) (omega arith)
    ∙ ap₂ combined (sym low_rule) (division_steps-zeros 8 check_polynomial rest))
    ∙ sym (combined-assoc high low rest)

pub takes_pair : (register first second word high low : ℕ) → register < 2 ^ 16 → first < 2 ^ 8
    → second < 2 ^ 8 → word ≡ first * 2 ^ 8 + second
    → high ≡ bit_xor register word / 2 ^ 8 → low ≡ bit_xor register word % 2 ^ 8
    → TakesPair register first second (bit_xor (get_or HIGH_REMAINDERS high 0) (get_or REMAINDERS low 0))
takes_pair register first second word high low register_lt first_lt second_lt word_is high_is low_is rest le =
    let pair = bit_xor register word in
    let pair_lt : pair < 65536 = xor_lt 16 register word register_lt (omega arith) in
    let both = bits_of 8 first ++ bits_of 8 second in
    let x = bits_of 8 high in
    let y = bits_of 8 low in
    let above : word / 2 ^ 8 ≡ first = omega arith in
    let below : word % 2 ^ 8 ≡ second = omega arith in
    let word_bits : bits_of 16 word ≡ both =
    bits_of-split 8 8 16 word refl
    ∙ ap₂ (λ a b. bits_of 8 a ++ b) above (sym (bits_of-mod 8 word) ∙ ap (bits_of 8) below) in
    let size : length (bits_of 16 register) ≡ length both =
    length-bits_of 16 register ∙ sym (length-bits_of 16 word) ∙ ap length word_bits in
    let pair_bits : combined (bits_of 16 register) both ≡ x ++ y =
    ap (combined (bits_of 16 register)) (sym word_bits)
    ∙ sym (bits_of-xor 16 register word)
    ∙ bits_of-split 8 8 16 pair refl
    ∙ ap₂ (λ a b. bits_of 8 a ++ b) (sym high_is) (sym (bits_of-mod 8 pair) ∙ ap (bits_of 8) (sym low_is)) in
    let sum : combined (bits_of 16 register) (bits_of 8 first ++ (bits_of 8 second ++ rest))
    ≡ x ++ (y ++ rest) =
    ap₂ combined (sym (append-nil (bits_of 16 register)))
    (sym (append_assoc (bits_of 8 first) (bits_of 8 second) rest))
    ∙ combined-append (bits_of 16 register) both [] rest size
    ∙ ap₂ (λ a b. a ++ b) pair_bits (combined-comm [] rest ∙ combined-empty rest)
    ∙ append_assoc x y rest in
    ap (division_steps 16 check_polynomial) sum
    ∙ pair_divided x y (bits_of 16 (get_or HIGH_REMAINDERS high 0)) (bits_of 16 (get_or REMAINDERS low 0))
    rest
    (length-bits_of 8 high) (length-bits_of 8 low) (length-bits_of 16 _) (length-bits_of 16 _) le
    (HIGH_REMAINDERS_at high (omega arith)) (REMAINDERS_at low (omega arith))
    ∙ ap (λ z. combined z rest)
    (sym (bits_of-xor 16 (get_or HIGH_REMAINDERS high 0) (get_or REMAINDERS low 0)))
