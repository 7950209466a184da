-- The number of symbols that are not 0, counted in groups of eight.
use Rattle.std.proofs.Common.{ne_eqb, ap₂, take, drop, append-nil, append_assoc, length-append, length-take-le, Fits, ◌≡◌, ℕ, zero, suc, ◌+◌, ◌≤◌, ◌-◌, ◌^◌, cond, List, [], ◌∷◌, ◌++◌, length, map, min, refl, sym, ap, ◌∙◌, arith}
use Rattle.std.specs.Prelude.{replicate}
use Rattle.std.specs.Simd.Lanes.{sum_l, sel_l, zip2, top, fold_l, Each2, Steps}
use lib.Dec.{ltb}
use Rattle.std.proofs.lemmas.Bool.Decides.{nat_tests}
use mir.Syntax.{w8}
use Rattle.std.proofs.lemmas.Simd.{tops_compared, sum-zip2, length-zip2, adds_fit, sum_fits, fold-sum}
use Rattle.std.proofs.lemmas.List.{length-drop, length-map, take_all, take-append-le, take-append-drop, drop_all, drop-drop}
use borrow.Rule.Slice.PartMut.{put_mid}
use Rattle.rw_code.specs.Codeword.{differences}

-- 1 for each symbol that is not 0
abbrev pub ones_of : List ℕ → List ℕ
ones_of symbols = map (λ symbol. min symbol 1) symbols

-- the number of symbols that are not 0
abbrev pub weight_of : List ℕ → ℕ
weight_of symbols = sum_l (ones_of symbols)

pub weight-append : (xs ys : List ℕ) → weight_of (xs ++ ys) ≡ weight_of xs + weight_of ys
weight-append [] ys = omega arith
weight-append (x ∷ xs) ys = let rest = weight-append xs ys in omega (arith, rest)

pub weight-bound : (xs : List ℕ) → weight_of xs ≤ length xs
weight-bound [] = omega arith
weight-bound (x ∷ xs) = let rest = weight-bound xs in omega (arith, rest)

pub weight_is : (xs : List ℕ) → weight_of xs ≡ differences xs (replicate (length xs) 0)
unfolding differences
weight_is [] = refl
weight_is (zero ∷ xs) = let rest = weight_is xs in omega (arith, rest)
weight_is (suc x ∷ xs) = let rest = weight_is xs in
    let test = ne_eqb (suc x) 0 (λ e. omega (arith, e)) in
    rw test (omega (arith, rest))

chosen : (xs : List ℕ)
    → sel_l (zip2 ltb xs (replicate (length xs) 1)) xs (replicate (length xs) 1) ≡ ones_of xs
chosen [] = refl
chosen (zero ∷ xs) = ap (λ l. 0 ∷ l) (chosen xs)
chosen (suc x ∷ xs) = let one : cond (ltb (suc x) 1) (suc x) 1 ≡ min (suc x) 1 = grind (arith, nat_tests) in
    ap₂ (λ (n : ℕ) l. n ∷ l) one (chosen xs)

-- 1 for each symbol that is not 0, by comparing the lanes of a vector with ones
pub lanes_at_most_one : (xs : List ℕ)
    → sel_l (map (top 7) (zip2 (λ a b. cond (ltb a b) (2 ^ 8 - 1) 0) xs (replicate (length xs) 1))) xs
    (replicate (length xs) 1)
    ≡ ones_of xs
lanes_at_most_one xs =
    ap (λ ms. sel_l ms xs (replicate (length xs) 1)) (tops_compared w8 ltb xs (replicate (length xs) 1))
    ∙ chosen xs

-- ---- Groups of eight, one behind another.

three_eights : (zeros one two three low middle high : List ℕ) → length zeros ≡ 24 → length low ≡ 8
    → length middle ≡ 8 → length high ≡ 8
    → one ≡ take 0 zeros ++ low ++ drop 8 zeros → two ≡ take 8 one ++ middle ++ drop 16 one
    → three ≡ take 16 two ++ high ++ drop 24 two
    → three ≡ low ++ middle ++ high
three_eights zeros one two three low middle high size low_size middle_size high_size first second third =
    let rest = length-drop 8 zeros in
    let one_size : length one ≡ 24 = ap length first ∙ omega (arith, length-append low (drop 8 zeros)) in
    let one_front : take 8 one ≡ low =
    ap (take 8) first ∙ take-append-le 8 low (drop 8 zeros) (omega arith) ∙ take_all 8 low (omega arith) in
    let begun : two ≡ (low ++ middle) ++ drop 16 one =
    second ∙ ap (λ l. l ++ middle ++ drop 16 one) one_front in
    let begun_size : length (low ++ middle) ≡ 16 = length-append low middle ∙ omega arith in
    let two_size : length two ≡ 24 =
    ap length begun ∙ length-append (low ++ middle) (drop 16 one) ∙ omega (arith, length-drop 16 one) in
    let two_front : take 16 two ≡ low ++ middle =
    ap (take 16) begun
    ∙ take-append-le 16 (low ++ middle) (drop 16 one) (omega arith)
    ∙ take_all 16 (low ++ middle) (omega arith) in
    third
    ∙ ap (λ l. l ++ high ++ drop 24 two) two_front
    ∙ ap (λ l. low ++ middle ++ high ++ l) (drop_all 24 two (omega arith))
    ∙ append-nil (low ++ middle ++ high)

pub eights_size : (low middle high : List ℕ) → length low ≡ 8 → length middle ≡ 8 → length high ≡ 8
    → length (low ++ middle ++ high) ≡ 24
eights_size low middle high low_size middle_size high_size =
    omega
    (arith, low_size, middle_size, high_size, length-append (low ++ middle) high, length-append low middle)

-- two pieces of eight leave room for a third
pub eights_room : (one two : List ℕ) → length one ≡ 8 → length two ≡ 8
    → 24 ≤ length (put_mid 8 8 (one ++ replicate 16 0) two)
eights_room one two one_size two_size =
    let begun : List ℕ = one ++ replicate 16 0 in
    let size : length begun ≡ 24 = omega (arith, one_size, length-append one (replicate {A = ℕ} 16 0)) in
    omega (
      arith,
      two_size,
      length-append (take 8 begun) (two ++ drop 8 (drop 8 begun)),
      length-append two (drop 8 (drop 8 begun)),
      length-take-le 8 begun (omega (arith, size)),
      length-drop 8 (drop 8 begun),
      length-drop 8 begun,
      size,
    )

-- three pieces of eight symbols, each copied behind the one before
pub eights_put : (low middle high one two three : List ℕ) → length low ≡ 8 → length middle ≡ 8
    → length high ≡ 8 → one ≡ low → two ≡ middle → three ≡ high
    → put_mid 16 8 (put_mid 8 8 (one ++ replicate 16 0) two) three ≡ low ++ middle ++ high
eights_put low middle high one two three low_size middle_size high_size first second third =
    let begun : List ℕ = one ++ replicate 16 0 in
    let more : List ℕ = put_mid 8 8 begun two in
    three_eights (replicate 24 0) begun more (put_mid 16 8 more three) low middle high refl low_size
    middle_size high_size
    (ap (λ l. l ++ replicate 16 0) first)
    (ap₂ (λ x y. take 8 begun ++ (x ++ y)) second (drop-drop 8 8 begun)
    ∙ sym (append_assoc (take 8 begun) middle (drop 16 begun)))
    (ap₂ (λ x y. take 16 more ++ (x ++ y)) third (drop-drop 8 16 more)
    ∙ sym (append_assoc (take 16 more) high (drop 24 more)))

-- ---- The weight of a word, from its groups of eight.

-- the ones of eight symbols are few
ones_small : (ones part : List ℕ) → ones ≡ ones_of part → length part ≡ 8
    → (sum_l ones ≤ 8) × (length ones ≡ 8)
ones_small ones part is size =
    let weight = weight-bound part in
    (omega (arith, ap sum_l is, weight, size), ap length is ∙ length-map part (λ symbol. min symbol 1) ∙ size)

-- The ones of the three groups of eight in 24 symbols.
pub record AreOnes (symbols low middle high : List ℕ) : Type 0 where
  pub size : length symbols ≡ 24
  pub first : low ≡ ones_of (take 8 symbols)
  pub second : middle ≡ ones_of (take 8 (drop 8 symbols))
  pub third : high ≡ ones_of (take 8 (drop 16 symbols))

module _ (symbols low middle high : List ℕ) (are : AreOnes symbols low middle high) where
  first : (sum_l low ≤ 8) × (length low ≡ 8)
  first = ones_small low (take 8 symbols) are.first (length-take-le 8 symbols (omega (arith, are.size)))

  second : (sum_l middle ≤ 8) × (length middle ≡ 8)
  second =
      ones_small middle (take 8 (drop 8 symbols)) are.second
      (length-take-le 8 (drop 8 symbols) (omega (arith, are.size, length-drop 8 symbols)))

  third : (sum_l high ≤ 8) × (length high ≡ 8)
  third =
      ones_small high (take 8 (drop 16 symbols)) are.third
      (length-take-le 8 (drop 16 symbols) (omega (arith, are.size, length-drop 16 symbols)))

  abbrev added : List ℕ
  added = zip2 (λ a b. a + b) low middle

  added_size : length added ≡ 8
  added_size = length-zip2 (λ a b. a + b) low middle (first.1 ∙ sym second.1) ∙ first.1

  added_sum : sum_l added ≡ sum_l low + sum_l middle
  added_sum = sum-zip2 low middle (first.1 ∙ sym second.1)

  abbrev all_added : List ℕ
  all_added = zip2 (λ a b. a + b) added high

  all_sum : sum_l all_added ≡ sum_l low + sum_l middle + sum_l high
  all_sum = sum-zip2 added high (added_size ∙ sym third.1) ∙ ap (λ n. n + sum_l high) added_sum

  pub lanes_fit : Each2 (λ a b. Fits w8 (a + b)) low middle
  lanes_fit = adds_fit w8 low middle (omega (arith, first.0, second.0))

  pub more_fit : Each2 (λ a b. Fits w8 (a + b)) (zip2 (λ a b. a + b) low middle) high
  more_fit = adds_fit w8 added high (omega (arith, first.0, second.0, third.0, added_sum))

  pub all_fit : Steps (λ s x. Fits w8 (s + x)) (λ s x. s + x) 0
      (zip2 (λ a b. a + b) (zip2 (λ a b. a + b) low middle) high)
  all_fit = sum_fits w8 0 all_added (omega (arith, first.0, second.0, third.0, all_sum))

  in_eights : sum_l low + sum_l middle + sum_l high ≡ weight_of symbols
  in_eights =
      let rest = weight-append (take 8 symbols) (drop 8 symbols) in
      let last = weight-append (take 8 (drop 8 symbols)) (drop 8 (drop 8 symbols)) in
      let whole : weight_of (take 8 symbols ++ drop 8 symbols) ≡ weight_of symbols =
      ap weight_of (take-append-drop 8 symbols) in
      let later : weight_of (take 8 (drop 8 symbols) ++ drop 8 (drop 8 symbols))
      ≡ weight_of (drop 8 symbols) =
      ap weight_of (take-append-drop 8 (drop 8 symbols)) in
      let twice : weight_of (drop 8 (drop 8 symbols)) ≡ weight_of (drop 16 symbols) =
      ap weight_of (drop-drop 8 8 symbols) in
      let end : weight_of (take 8 (drop 16 symbols)) ≡ weight_of (drop 16 symbols) =
      ap weight_of (take_all 8 (drop 16 symbols) (omega (arith, are.size, length-drop 16 symbols))) in
      omega (
        arith,
        ap sum_l are.first,
        ap sum_l are.second,
        ap sum_l are.third,
        rest,
        last,
        whole,
        later,
        twice,
        end,
      )

  pub weight_by_eights : fold_l (λ s x. s + x) 0 (zip2 (λ a b. a + b) (zip2 (λ a b. a + b) low middle) high)
      ≡ differences symbols (replicate 24 0)
  weight_by_eights =
      fold-sum 0 all_added
      ∙ omega (arith, all_sum, in_eights)
      ∙ weight_is symbols
      ∙ ap (λ n. differences symbols (replicate n 0)) are.size
