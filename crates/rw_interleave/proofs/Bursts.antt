-- Symbols that are changed in bursts differ in at most two symbols of each word.
use Rattle.std.proofs.Common.{◌≡◌, ◌≢◌, ℕ, zero, suc, ◌+◌, ◌*◌, ◌/◌, ◌%◌, ◌<◌, ◌≤◌, nat_lt, nat_le, ◌&&◌, ◌||◌, not, inl, inr, Bool, true, false, cond, List, [], ◌∷◌, length, get_or, map, refl, sym, ap, ap₂, ◌∙◌, subst, arith}
use Rattle.std.specs.List.{list_any, list_all, range_with_len}
use Rattle.std.proofs.lemmas.Bool.Decides.{eqb_tells, leb_tells}
use Rattle.bit_lists.specs.Counting.{below}
use Rattle.rw_code.specs.Codeword.{IsNear, differences}
use Rattle.rw_interleave.specs.Interleave.{swapped, place, word_of, whole_packs}
use Rattle.rw_interleave.specs.Stream.{AreBurstsFrom, is_in_burst, DiffersInBursts, IsDamaged}
use Rattle.raw_subcode.specs.declared.form.Form.TheVariants.{Raw, Sector}

-- ---- tests

or_elim : {P : Type 0} (a b : Bool) → (a || b) ≡ true → (a ≡ true → P) → (b ≡ true → P) → P
or_elim true b e f g = f refl
or_elim false b e f g = g e

and_both : (a b : Bool) → (a && b) ≡ true → (a ≡ true) × (b ≡ true)
and_both true true e = (refl, refl)
and_both true false e = (refl, e)
and_both false b e = (e, absurd (cc))

by_test : {P : Type 0} (a : Bool) → (a ≡ true → P) → (a ≡ false → P) → P
by_test true f g = f refl
by_test false f g = g refl

le_of : (a b : ℕ) → nat_le a b ≡ true → a ≤ b
le_of a b e = elim (leb_tells a b) [ inl decides ↦ decides.1 | inr decides ↦ absurd (cc) ]

lt_of : (a b : ℕ) → nat_lt a b ≡ true → a < b
lt_of a b e =
    elim (leb_tells (suc a) b) [ inl decides ↦ omega (arith, decides.1) | inr decides ↦ absurd (cc) ]

is_le : (a b : ℕ) → a ≤ b → nat_le a b ≡ true
is_le a b le =
    elim (leb_tells a b) [ inl decides ↦ decides.0 | inr decides ↦ absurd (omega (arith, le, decides.1)) ]

is_lt : (a b : ℕ) → a < b → nat_lt a b ≡ true
is_lt a b lt =
    elim (leb_tells (suc a) b)
    [ inl decides ↦ decides.0 | inr decides ↦ absurd (omega (arith, lt, decides.1)) ]

both : (a b : Bool) → a ≡ true → b ≡ true → (a && b) ≡ true
both a b left right = ap₂ (λ x y. x && y) left right

-- a test that all of some numbers pass, at one of them
at_each : (p : ℕ → Bool) (a n : ℕ) → list_all p (range_with_len a n) ≡ true → (k : ℕ) → a ≤ k → k < a + n
    → p k ≡ true
at_each p a zero e k from to = absurd (omega (arith, from, to))
at_each p a (suc n) e k from to =
    let parts = and_both (p a) (list_all p (range_with_len (a + 1) n)) e in
    elim (leb_tells (suc a) k) [
      | inl later ↦ at_each p (a + 1) n parts.1 k (omega (arith, later.1)) (omega (arith, to))
      | inr here ↦ let same : a ≡ k = omega (arith, here.1, from) in subst (λ m. p m ≡ true) same parts.0
    ]

-- ---- two places of the same burst are near each other

in_burst : (p : ℕ) (burst : ℕ × ℕ) → is_in_burst p burst ≡ true → (burst.0 ≤ p) × (p < burst.0 + burst.1)
in_burst p burst inside =
    let tests = and_both (nat_le burst.0 p) (nat_lt p (burst.0 + burst.1)) inside in
    (le_of burst.0 p tests.0, lt_of p (burst.0 + burst.1) tests.1)

-- a place in one of the bursts is not before the first burst
begins : (from : ℕ) (bursts : List (ℕ × ℕ)) (p : ℕ) → AreBurstsFrom from bursts
    → list_any (is_in_burst p) bursts ≡ true
    → from ≤ p
begins from [] p apart inside = absurd (cc)
begins from (burst ∷ rest) p apart inside =
    or_elim (is_in_burst p burst) (list_any (is_in_burst p) rest) inside
    (λ here. omega (arith, apart.0, (in_burst p burst here).0))
    (λ there. omega (arith, apart.0, begins (burst.0 + burst.1 + 192) rest p apart.2 there))

close : (from : ℕ) (bursts : List (ℕ × ℕ)) (p q : ℕ) → AreBurstsFrom from bursts
    → list_any (is_in_burst p) bursts ≡ true → list_any (is_in_burst q) bursts ≡ true → p ≤ q → q ≤ p + 191
    → q ≤ p + 15
close from [] p q apart p_in q_in before near = absurd (cc)
close from (burst ∷ rest) p q apart p_in q_in before near =
    let later : ℕ = burst.0 + burst.1 + 192 in
    or_elim (is_in_burst p burst) (list_any (is_in_burst p) rest) p_in
    (λ p_here. or_elim (is_in_burst q burst) (list_any (is_in_burst q) rest) q_in
    (λ q_here. omega (arith, (in_burst p burst p_here).0, (in_burst q burst q_here).1, apart.1))
    (λ q_there. omega
    (arith, (in_burst p burst p_here).1, begins (burst.0 + burst.1 + 192) rest q apart.2 q_there, near)))
    (λ p_there. or_elim (is_in_burst q burst) (list_any (is_in_burst q) rest) q_in
    (λ q_here. omega
    (arith, (in_burst q burst q_here).1, begins (burst.0 + burst.1 + 192) rest p apart.2 p_there, before))
    (λ q_there. close (burst.0 + burst.1 + 192) rest p q apart.2 p_there q_there before near))

-- ---- three places of a word are not all near each other

-- the place of a symbol, counted from the slot of its pack
abbrev offset : ℕ → ℕ
offset i = 24 * (swapped i % 8) + swapped i

abbrev are_close : ℕ → ℕ → Bool
are_close i j = nat_le (offset i) (offset j + 15) && nat_le (offset j) (offset i + 15)

abbrev is_third : ℕ → ℕ → ℕ → Bool
is_third i j k = nat_lt j k && (are_close i k && are_close j k)

abbrev has_no_third : ℕ → ℕ → Bool
has_no_third i j = cond (nat_lt i j && are_close i j) (list_all (λ k. not (is_third i j k)) (below 24)) true

no_three : list_all (λ i. list_all (has_no_third i) (below 24)) (below 24) ≡ true
unfolding swapped
no_three = refl

not_three : (i j k : ℕ) → i < j → j < k → k < 24 → are_close i j ≡ true → are_close i k ≡ true
    → are_close j k ≡ true
    → ⊥
not_three i j k ij jk small close_ij close_ik close_jk =
    let row : list_all (has_no_third i) (below 24) ≡ true =
    at_each (λ i. list_all (has_no_third i) (below 24)) 0 24 no_three i (omega arith)
    (omega (arith, ij, jk, small)) in
    let pair : has_no_third i j ≡ true =
    at_each (has_no_third i) 0 24 row j (omega arith) (omega (arith, jk, small)) in
    let none : list_all (λ k. not (is_third i j k)) (below 24) ≡ true =
    sym (ap (λ t. cond t (list_all (λ k. not (is_third i j k)) (below 24)) true)
    (both (nat_lt i j) (are_close i j) (is_lt i j ij) close_ij))
    ∙ pair in
    let no_third : not (is_third i j k) ≡ true =
    at_each (λ k. not (is_third i j k)) 0 24 none k (omega arith) (omega (arith, small)) in
    let third : is_third i j k ≡ true =
    both (nat_lt j k) (are_close i k && are_close j k) (is_lt j k jk)
    (both (are_close i k) (are_close j k) close_ik close_jk) in
    let wrong : not true ≡ true = sym (ap not third) ∙ no_third in
    cc

swapped-lt : (i : ℕ) → i < 24 → swapped i < 24
unfolding swapped
swapped-lt i lt = grind arith

-- ---- positions at which two lists differ

-- n increasing positions from a on and below b, at which f and g differ
abbrev Differ : (ℕ → ℕ) → (ℕ → ℕ) → ℕ → ℕ → ℕ → Type 0
Differ f g zero a b = Unit {0}
Differ f g (suc n) a b = (i : ℕ) × (a ≤ i) × (i < b) × (f i ≢ g i) × Differ f g n (i + 1) b

earlier : (f g : ℕ → ℕ) (n a a' b : ℕ) → a ≤ a' → Differ f g n a' b → Differ f g n a b
earlier f g zero a a' b le differ = tt
earlier f g (suc n) a a' b le (i, from, to, other, rest) = (i, omega (arith, le, from), to, other, rest)

differ : (f g : ℕ → ℕ) (m a b n : ℕ) → b ≡ a + m
    → n ≤ differences (map f (range_with_len a m)) (map g (range_with_len a m))
    → Differ f g n a b
unfolding differences
differ f g m a b zero size many = tt
differ f g zero a b (suc n) size many = absurd (omega (arith, many))
differ f g (suc m) a b (suc n) size many =
    let rest : ℕ = differences (map f (range_with_len (a + 1) m)) (map g (range_with_len (a + 1) m)) in
    elim (eqb_tells (f a) (g a)) [
      | inl same ↦
          let whole : cond true 0 1
          + differences (map f (range_with_len (a + 1) m)) (map g (range_with_len (a + 1) m))
          ≡ differences (map f (range_with_len a (suc m))) (map g (range_with_len a (suc m))) =
          ap (λ t.
          cond t 0 1 + differences (map f (range_with_len (a + 1) m)) (map g (range_with_len (a + 1) m)))
          (sym same.0) in
          earlier f g (suc n) a (a + 1) b (omega arith)
          (differ f g m (a + 1) b (suc n) (omega (arith, size)) (omega (arith, many, whole)))
      | inr other ↦
          let whole : cond false 0 1
          + differences (map f (range_with_len (a + 1) m)) (map g (range_with_len (a + 1) m))
          ≡ differences (map f (range_with_len a (suc m))) (map g (range_with_len a (suc m))) =
          ap (λ t.
          cond t 0 1 + differences (map f (range_with_len (a + 1) m)) (map g (range_with_len (a + 1) m)))
          (sym other.0) in (
            a,
            omega arith,
            omega (arith, size),
            other.1,
            differ f g m (a + 1) b n (omega (arith, size)) (omega (arith, many, whole)),
          )
    ]

-- ---- words of symbols that differ in bursts

module _ (symbols others : List ℕ) (n : ℕ) (differs : DiffersInBursts symbols others)
    (fits : 24 * (n + 8) ≤ length symbols) where
  abbrev one : ℕ → ℕ
  one i = get_or symbols (place n i) 0

  abbrev other : ℕ → ℕ
  other i = get_or others (place n i) 0

  is_hit : (i : ℕ) → i < 24 → one i ≢ other i → list_any (is_in_burst (place n i)) differs.bursts ≡ true
  is_hit i small unlike =
      by_test (list_any (is_in_burst (place n i)) differs.bursts) (λ hit. hit) (λ miss.
      absurd (unlike (sym (differs.equal (place n i) (omega (arith, fits, swapped-lt i small)) miss))))

  not_far : (i j : ℕ) → i < 24 → j < 24 → one i ≢ other i → one j ≢ other j → offset i ≤ offset j + 15
  not_far i j i_small j_small i_unlike j_unlike = elim (leb_tells (place n j) (place n i)) [
    | inl after ↦ omega (
      arith,
      close 0 differs.bursts (place n j) (place n i) differs.apart (is_hit j j_small j_unlike)
          (is_hit i i_small i_unlike) after.1 (omega (arith, swapped-lt i i_small, swapped-lt j j_small)),
    )
    | inr before ↦ omega (arith, before.1)
  ]

  closely : (i j : ℕ) → i < 24 → j < 24 → one i ≢ other i → one j ≢ other j → are_close i j ≡ true
  closely i j i_small j_small i_unlike j_unlike =
      both (nat_le (offset i) (offset j + 15)) (nat_le (offset j) (offset i + 15))
      (is_le _ _ (not_far i j i_small j_small i_unlike j_unlike))
      (is_le _ _ (not_far j i j_small i_small j_unlike i_unlike))

  pub near_word : IsNear (word_of symbols n) (word_of others n)
  unfolding word_of
  near_word = elim (leb_tells 3 (differences (map one (below 24)) (map other (below 24)))) [
    | inl three ↦
        let (i, i_from, i_to, i_unlike, (j, j_from, j_to, j_unlike, (k, k_from, k_to, k_unlike, rest))) =
        differ one other 24 0 24 3 (omega arith) three.1 in
        absurd (not_three i j k (omega (arith, j_from)) (omega (arith, k_from)) k_to
        (closely i j i_to j_to i_unlike j_unlike) (closely i k i_to k_to i_unlike k_unlike)
        (closely j k j_to k_to j_unlike k_unlike))
    | inr few ↦ omega (arith, few.1)
  ]

whole_fits : (blocks n len : ℕ) → len ≡ 96 * blocks → n < whole_packs (len / 96) → 24 * (n + 8) ≤ len
whole_fits blocks n len size lt =
    let many : len / 96 ≡ blocks = omega (arith, size) in
    let below_packs : n < whole_packs blocks = subst (λ b. n < whole_packs b) many lt in
    omega (arith, below_packs, size)

pub damaged_raw : (blocks : ℕ) (symbols others : List ℕ) → length symbols ≡ 96 * blocks
    → DiffersInBursts symbols others
    → IsDamaged symbols Raw others
damaged_raw blocks symbols others size differs = record {
  size = differs.size;
  words = λ n lt. near_word symbols others n differs (whole_fits blocks n (length symbols) size lt);
  further = λ n from to. absurd (omega (arith, from, to));
}

pub damaged_sector : (blocks : ℕ) (symbols others : List ℕ) → length symbols ≡ 96 * blocks
    → DiffersInBursts symbols others
    → IsDamaged symbols Sector others
damaged_sector blocks symbols others size differs = record {
  size = differs.size;
  words = λ n lt. near_word symbols others n differs (whole_fits blocks n (length symbols) size lt);
  further = λ n from to. absurd (omega (arith, from, to));
}
