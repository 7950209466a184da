-- The number of settings that differ.
use Rattle.std.proofs.Common.{◌≡◌, ℕ, zero, suc, ◌+◌, ◌-◌, ◌<◌, ◌≤◌, Bool, true, false, List, [], ◌∷◌, ◌++◌, length, map, refl, ap, ap₂, sym, subst, ◌∙◌, inl, inr, arith, bit_xor}
use Rattle.std.specs.Prelude.{◌==◌, ◌&&◌, if◌then◌else◌, not, slice_index}
use Rattle.std.specs.Bool.{Decides}
use Rattle.std.specs.Str.{bytes_eq}
use mir.Val.{bool_byte}
use Rattle.std.specs.List.{list_all, range_with_len}
use Rattle.std.specs.Int.Bits.{xor_zero_l, xor_zero_r, xor_assoc, xor_self}
use Rattle.std.proofs.lemmas.Bool.{cases_lt}
use Rattle.std.proofs.lemmas.Bool.Decides.{eqb_tells, same_from_decides}
use Rattle.std.proofs.lemmas.Slice.Eq.{bytes_eq-Decides}
use Rattle.std.proofs.lemmas.List.{get_or_past}
use Rattle.std.proofs.lemmas.List.FromFn.{get_or-map-range_with_len, length-map-range_with_len}
use Rattle.tile_author.specs.Plan.{are_equal, delta}
use Rattle.picture_script.specs.Script.{Drawing, picture_border, picture_colour, low_colours, high_colours}
use Rattle.picture_script.specs.Board.{Board, IsPicture}
use Rattle.bit_lists.specs.Counting.{below}
use Rattle.cdg_instructions.specs.declared.instr.Instr.{Instr}
use Rattle.cdg_instructions.specs.declared.instr.Instr.TheVariants.{BorderPreset, ColoursLow, ColoursHigh}
use Rattle.std.proofs.lemmas.Grind.{same_number_lists}
use Rattle.pack_schedule.specs.Change.{settings}

zero_plus : (n : ℕ) → 0 + n ≡ n
zero_plus n = omega arith

xor_none : (x y : ℕ) → bit_xor x y ≡ 0 → x ≡ y
xor_none x y none =
    sym (xor_zero_r x)
    ∙ ap (bit_xor x) (sym (xor_self y))
    ∙ sym (xor_assoc x y y)
    ∙ ap (λ z. bit_xor z y) none
    ∙ xor_zero_l y

and_both : (a b : Bool) → (a && b) ≡ true → (a ≡ true) × (b ≡ true)
and_both true true e = (refl, refl)
and_both true false e = (refl, e)
and_both false b e = (e, absurd (cc))

all_zero : (f : ℕ → ℕ) (n a : ℕ) → list_all (λ d. d == 0) (map f (range_with_len a n)) ≡ true → (k : ℕ)
    → a ≤ k → k < a + n
    → f k ≡ 0
all_zero f zero a e k from to = absurd (omega (arith, from, to))
all_zero f (suc n) a e k from to =
    let parts = and_both (f a == 0) (list_all (λ d. d == 0) (map f (range_with_len (a + 1) n))) e in
    elim (cases_lt a k) [
      | inl later ↦ all_zero f n (a + 1) parts.1 k (omega (arith, later)) (omega (arith, to))
      | inr here ↦
          let is : a ≡ k = omega (arith, here, from) in
          subst (λ j. f j ≡ 0) is (elim (eqb_tells (f a) 0) [ inl same ↦ same.1 | inr other ↦ absurd (cc) ])
    ]

-- a list of zeros
pub zero_all : (f : ℕ → ℕ) (n a : ℕ) → ((k : ℕ) → f k ≡ 0)
    → list_all (λ d. d == 0) (map f (range_with_len a n)) ≡ true
zero_all f zero a all = refl
zero_all f (suc n) a all = ap₂ (λ x y. x && y) (ap (λ d. d == 0) (all a)) (zero_all f n (a + 1) all)

-- two lists of eight colours are equal if their elements are equal
pub equal_colours : (one other : ℕ → ℕ) → ((n : ℕ) → n < 8 → one n ≡ other n)
    → are_equal (map one (range_with_len 0 8)) (map other (range_with_len 0 8)) ≡ true
unfolding are_equal delta
equal_colours one other all =
    zero_all (λ p.
    bit_xor (slice_index (map one (range_with_len 0 8)) p) (slice_index (map other (range_with_len 0 8)) p))
    72 0 (λ p. elim (cases_lt p 8) [
      | inl lt ↦
          ap (bit_xor (slice_index (map one (range_with_len 0 8)) p)) (get_or-map-range_with_len other 0 8 p p
          0 lt (zero_plus p)
          ∙ sym (all p lt)
          ∙ sym (get_or-map-range_with_len one 0 8 p p 0 lt (zero_plus p)))
          ∙ xor_self (slice_index (map one (range_with_len 0 8)) p)
      | inr past ↦
          ap (λ m. bit_xor m (slice_index (map other (range_with_len 0 8)) p))
          (get_or_past (map one (range_with_len 0 8)) p 0 (omega (arith, length-map-range_with_len one 0 8)))
          ∙ xor_zero_l (slice_index (map other (range_with_len 0 8)) p)
          ∙ get_or_past (map other (range_with_len 0 8)) p 0
          (omega (arith, length-map-range_with_len other 0 8))
    ])

-- and only then
pub unequal_colours : (one other : ℕ → ℕ)
    → are_equal (map one (range_with_len 0 8)) (map other (range_with_len 0 8)) ≡ true → (n : ℕ) → n < 8
    → one n ≡ other n
unfolding are_equal delta
unequal_colours one other h n lt =
    sym (get_or-map-range_with_len one 0 8 n n 0 lt (zero_plus n))
    ∙ xor_none (slice_index (map one (range_with_len 0 8)) n) (slice_index (map other (range_with_len 0 8)) n)
    (all_zero (λ p.
    bit_xor (slice_index (map one (range_with_len 0 8)) p) (slice_index (map other (range_with_len 0 8)) p))
    72 0 h n (omega arith) (omega arith))
    ∙ get_or-map-range_with_len other 0 8 n n 0 lt (zero_plus n)

pub not_true : (b : Bool) → (b ≡ true → ⊥) → b ≡ false
not_true true h = absurd (h refl)
not_true false h = refl

pub same_eight : (one other : ℕ → ℕ) → ((n : ℕ) → n < 8 → one n ≡ other n)
    → map one (below 8) ≡ map other (below 8)
same_eight one other all =
    let one_size = length-map-range_with_len one 0 8 in
    let other_size = length-map-range_with_len other 0 8 in
    same_number_lists (map one (below 8)) (map other (below 8)) (omega arith)
    (λ n lt. get_or-map-range_with_len one 0 8 n n 0 (omega arith) (zero_plus n)
    ∙ all n (omega arith)
    ∙ sym (get_or-map-range_with_len other 0 8 n n 0 (omega arith) (zero_plus n)))

-- two lists of eight numbers are compared
pub eight_Decides : (one other : ℕ → ℕ)
    → Decides (are_equal (map one (below 8)) (map other (below 8))) (map one (below 8) ≡ map other (below 8))
eight_Decides one other = (
  (λ e. same_eight one other (unequal_colours one other e)),
  (λ e. subst (λ ys. are_equal (map one (below 8)) ys ≡ true) e (equal_colours one one (λ n lt. refl))),
)

eight_tested : (one other : ℕ → ℕ) (xs ys : List ℕ) → xs ≡ map one (below 8) → ys ≡ map other (below 8)
    → bytes_eq xs ys ≡ are_equal (map one (below 8)) (map other (below 8))
eight_tested one other xs ys x y =
    ap₂ bytes_eq x y
    ∙ same_from_decides _ _ (bytes_eq-Decides (map one (below 8)) (map other (below 8)))
    (eight_Decides one other)

flag : Bool → ℕ
flag same = bool_byte (not same)

three : (b low high : Bool) (x y z : Instr)
    → length ((if b then [] else x ∷ []) ++ (if low then [] else y ∷ []) ++ (if high then [] else z ∷ []))
    ≡ flag b + flag low + flag high
unfolding flag
three true true true x y z = refl
three true true false x y z = refl
three true false true x y z = refl
three true false false x y z = refl
three false true true x y z = refl
three false true false x y z = refl
three false false true x y z = refl
three false false false x y z = refl

later_settings : (script : List Drawing) (k : ℕ) (b low high : Bool)
    → (picture_border script k == picture_border script (suc k)) ≡ b
    → are_equal (low_colours script k) (low_colours script (suc k)) ≡ low
    → are_equal (high_colours script k) (high_colours script (suc k)) ≡ high
    → length (settings script (suc k)) ≡ flag b + flag low + flag high
later_settings script k b low high e l h =
    ap₂ (λ (p : Bool) (q : Bool). length ((if p
    then []
    else BorderPreset (picture_border script (suc k)) ∷ [])
    ++ (if q then [] else ColoursLow (low_colours script (suc k)) ∷ [])
    ++ (if are_equal (high_colours script k) (high_colours script (suc k))
    then []
    else ColoursHigh (high_colours script (suc k)) ∷ []))) e l
    ∙ ap (λ (r : Bool). length ((if b then [] else BorderPreset (picture_border script (suc k)) ∷ [])
    ++ (if low then [] else ColoursLow (low_colours script (suc k)) ∷ [])
    ++ (if r then [] else ColoursHigh (high_colours script (suc k)) ∷ []))) h
    ∙ three b low high (BorderPreset (picture_border script (suc k)))
    (ColoursLow (low_colours script (suc k))) (ColoursHigh (high_colours script (suc k)))

-- comparisons count the settings
pub settings_differ : (script : List Drawing) (k : ℕ) (old new : Board) (xs ys us vs : List ℕ) → 0 < k
    → IsPicture script (k - 1) old → IsPicture script k new
    → xs ≡ map (λ n. slice_index old.colours (0 + n)) (below 8)
    → ys ≡ map (λ n. slice_index new.colours (0 + n)) (below 8)
    → us ≡ map (λ n. slice_index old.colours (8 + n)) (below 8)
    → vs ≡ map (λ n. slice_index new.colours (8 + n)) (below 8)
    → bool_byte (not (old.border == new.border)) + bool_byte (not (bytes_eq xs ys))
    + bool_byte (not (bytes_eq us vs)) ≡ length (settings script k)
unfolding flag low_colours high_colours
settings_differ script zero old new xs ys us vs pos before now x y u v = absurd (omega arith)
settings_differ script (suc k) old new xs ys us vs pos before now x y u v =
    let at : suc k - 1 ≡ k = omega arith in
    let was : IsPicture script k old = subst (λ j. IsPicture script j old) at before in
    let low =
    eight_tested (λ n. slice_index old.colours (0 + n)) (λ n. slice_index new.colours (0 + n)) xs ys x y in
    let high =
    eight_tested (λ n. slice_index old.colours (8 + n)) (λ n. slice_index new.colours (8 + n)) us vs u v in
    sym (later_settings script k (old.border == new.border) (bytes_eq xs ys) (bytes_eq us vs)
    (ap₂ (λ x y. x == y) (sym was.border_is) (sym now.border_is))
    (ap₂ are_equal (same_eight (picture_colour script k) (λ n. slice_index old.colours (0 + n))
    (λ n lt. sym (was.colours_are n (omega arith)) ∙ ap (λ j. slice_index old.colours j) (sym (zero_plus n))))
    (same_eight (picture_colour script (suc k)) (λ n. slice_index new.colours (0 + n))
    (λ n lt. sym (now.colours_are n (omega arith)) ∙ ap (λ j. slice_index new.colours j) (sym (zero_plus n))))
    ∙ sym low)
    (ap₂ are_equal (same_eight (λ n. picture_colour script k (8 + n)) (λ n. slice_index old.colours (8 + n))
    (λ n lt. sym (was.colours_are (8 + n) (omega arith))))
    (same_eight (λ n. picture_colour script (suc k) (8 + n)) (λ n. slice_index new.colours (8 + n))
    (λ n lt. sym (now.colours_are (8 + n) (omega arith))))
    ∙ sym high))
