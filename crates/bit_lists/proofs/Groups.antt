-- Numbers from groups of bits.
use Rattle.std.proofs.Common.{◌≡◌, ℕ, zero, suc, ◌+◌, ◌*◌, ◌/◌, ◌^◌, ◌<◌, Bool, List, [], ◌∷◌, ◌++◌, length, take, drop, get_or, subst, map, flat_map, refl, sym, ap, ap₂, ◌∙◌, arith, length-append, mul-suc, length-take, length-drop, take-append-drop}
use Rattle.std.specs.Prelude.{All}
use Rattle.std.proofs.lemmas.List.{get_or_default}
use Rattle.std.proofs.Math.Nat.{mod-eq_of_lt}
use Rattle.std.proofs.Math.Seq.{take-append_seam, drop-append_seam}
use Rattle.bit_lists.specs.Counting.{parts}
use Rattle.bit_lists.specs.Bits.{bits_of, number_of, bits_of_bytes, numbers_of}
use Rattle.bit_lists.proofs.BitsLemmas.{length-bits_of, length-bits_of_bytes, number_of-bits_of, bits_of-number_of}

length-groups : (width : ℕ) (xs : List ℕ) → length (flat_map (bits_of width) xs) ≡ width * length xs
length-groups width [] = omega arith
length-groups width (x ∷ xs) =
    let rest = length-groups width xs in
    length-append (bits_of width x) (flat_map (bits_of width) xs) ∙ omega (arith, length-bits_of width x)

-- cutting the joined bits of numbers gives the bits of each number
parts-groups : (width : ℕ) (xs : List ℕ)
    → parts (length xs) width (flat_map (bits_of width) xs) ≡ map (bits_of width) xs
parts-groups width [] = refl
parts-groups width (x ∷ xs) =
    let rest = flat_map (bits_of width) xs in
    let size = length-bits_of width x in
    let front : take width (bits_of width x ++ rest) ≡ bits_of width x =
    ap (λ k. take k (bits_of width x ++ rest)) (sym size) ∙ take-append_seam (bits_of width x) rest in
    let back : drop width (bits_of width x ++ rest) ≡ rest =
    ap (λ k. drop k (bits_of width x ++ rest)) (sym size) ∙ drop-append_seam (bits_of width x) rest in
    ap₂ (λ p ps. p ∷ ps) front (ap (parts (length xs) width) back ∙ parts-groups width xs)

numbers-groups : (width : ℕ) (xs : List ℕ) → All (λ x. x < 2 ^ width) xs
    → map number_of (map (bits_of width) xs) ≡ xs
numbers-groups width [] small = refl
numbers-groups width (x ∷ xs) small =
    let lt : x < 2 ^ width = small 0 0 (omega arith) in
    let same : number_of (bits_of width x) ≡ x = number_of-bits_of width x ∙ mod-eq_of_lt lt in
    ap₂ (λ y ys. y ∷ ys) same (numbers-groups width xs (λ k d k_lt. small (suc k) d (omega arith)))

-- numbers come back from their bits
numbers_of-groups : (width : ℕ) (xs : List ℕ) → ((n : ℕ) → width * n / width ≡ n)
    → All (λ x. x < 2 ^ width) xs
    → numbers_of width (flat_map (bits_of width) xs) ≡ xs
unfolding numbers_of
numbers_of-groups width xs divides small =
    let bits = flat_map (bits_of width) xs in
    let count : length bits / width ≡ length xs =
    ap (λ n. n / width) (length-groups width xs) ∙ divides (length xs) in
    ap (map number_of) (ap (λ n. parts n width bits) count ∙ parts-groups width xs)
    ∙ numbers-groups width xs small

pub bytes_from_bits : (bytes : List ℕ) → All (λ b. b < 256) bytes → numbers_of 8 (bits_of_bytes bytes) ≡ bytes
unfolding bits_of_bytes
bytes_from_bits bytes small = numbers_of-groups 8 bytes (λ n. omega arith) small

pub symbols_from_bits : (symbols : List ℕ) → All (λ s. s < 64) symbols
    → numbers_of 6 (flat_map (bits_of 6) symbols) ≡ symbols
symbols_from_bits symbols small = numbers_of-groups 6 symbols (λ n. omega arith) small

-- bytes with the same bits are equal
pub same_bytes : (xs ys : List ℕ) → All (λ b. b < 256) xs → All (λ b. b < 256) ys
    → bits_of_bytes xs ≡ bits_of_bytes ys
    → xs ≡ ys
same_bytes xs ys xs_lt ys_lt same =
    sym (bytes_from_bits xs xs_lt) ∙ ap (numbers_of 8) same ∙ bytes_from_bits ys ys_lt

-- bits come back from the numbers of their groups
pub groups-numbers : (width n : ℕ) (bs : List Bool) → length bs ≡ width * n
    → flat_map (bits_of width) (map number_of (parts n width bs)) ≡ bs
groups-numbers width zero [] size = refl
groups-numbers width zero (b ∷ bs) size = absurd (let none : width * 0 ≡ 0 = omega arith in omega arith)
groups-numbers width (suc n) bs size =
    let more : width * suc n ≡ width + width * n = mul-suc width n ∙ omega arith in
    let front_size : length (take width bs) ≡ width = length-take width bs ∙ omega arith in
    let back_size : length (drop width bs) ≡ width * n = length-drop width bs ∙ omega arith in
    ap₂ (λ p q. p ++ q)
    (ap (λ k. bits_of k (number_of (take width bs))) (sym front_size) ∙ bits_of-number_of (take width bs))
    (groups-numbers width n (drop width bs) back_size)
    ∙ take-append-drop width bs

-- the symbols of 18 bytes have the bits of these bytes
pub symbols_have_bits : (bytes : List ℕ) → length bytes ≡ 18
    → flat_map (bits_of 6) (numbers_of 6 (bits_of_bytes bytes)) ≡ bits_of_bytes bytes
unfolding numbers_of
symbols_have_bits bytes size =
    let long : length (bits_of_bytes bytes) ≡ 144 = length-bits_of_bytes bytes ∙ omega arith in
    let count : length (bits_of_bytes bytes) / 6 ≡ 24 = omega arith in
    ap (λ n. flat_map (bits_of 6) (map number_of (parts n 6 (bits_of_bytes bytes)))) count
    ∙ groups-numbers 6 24 (bits_of_bytes bytes) (omega arith)

-- if the value at every place (0 beyond the end) is below a bound, so is every element
pub all_below_bound : (bound : ℕ) (xs : List ℕ) → ((i : ℕ) → get_or xs i 0 < bound) → All (λ x. x < bound) xs
all_below_bound bound xs each k d lt = subst (λ x. x < bound) (get_or_default xs k 0 d lt) (each k)
