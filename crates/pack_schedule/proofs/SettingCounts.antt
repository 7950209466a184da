-- The settings of border and colours that a list must contain to draw a picture.
use Rattle.std.proofs.Common.{◌≡◌, ℕ, zero, suc, ◌+◌, ◌-◌, ◌<◌, ◌≤◌, ◌==◌, ◌&&◌, Bool, true, false, cond, List, [], ◌∷◌, ◌++◌, length, get_or, map, refl, sym, ap, ap₂, ◌∙◌, arith, length-append, bit_xor}
use Rattle.std.specs.Prelude.{reverse, count_by}
use Rattle.std.specs.List.{list_all, range_with_len}
use Rattle.std.specs.Int.Bits.{xor_self}
use Rattle.std.proofs.lemmas.Bool.{false≢true}
use Rattle.std.proofs.lemmas.List.{ext_get_or}
use Rattle.std.proofs.lemmas.List.FromFn.{length-map-range_with_len, get_or-map-range_with_len}
use Rattle.bit_lists.specs.Counting.{below}
use Rattle.tile_author.specs.Plan.{are_equal, delta}
use Rattle.cdg_instructions.specs.declared.instr.Instr.{Instr}
use Rattle.cdg_instructions.specs.declared.instr.Instr.TheVariants.{BorderPreset, ColoursLow, ColoursHigh}
use Rattle.std.specs.Prelude.{slice_index}
use Rattle.cdg_screen.specs.Standing.{Standing, border_from, colour_from}
use Rattle.cdg_screen.proofs.Lists.{number_of_sixteen}
use Rattle.picture_script.specs.Script.{Drawing, picture_border, picture_colour, low_colours, high_colours}
use Rattle.pack_schedule.specs.Change.{settings}
use Rattle.pack_schedule.specs.Brings.{IsBefore, Brings, sets_border, sets_low, sets_high}
use Rattle.pack_schedule.proofs.TileTests.{is_eq, is_low, is_high}
use Rattle.pack_schedule.proofs.Counted.{count-reverse, counted}

-- ---- values that no instruction sets are unchanged

border_kept : (start : ℕ) (before : List Instr) → count_by sets_border before ≡ 0
    → border_from start before ≡ start
border_kept start [] none = refl
border_kept start (BorderPreset colour ∷ before) none =
    absurd (omega (arith, none, counted sets_border (BorderPreset colour) before))
border_kept start (instr ∷ before) none =
    border_kept start before (omega (arith, none, counted sets_border instr before))

low_kept : (start : ℕ → ℕ) (before : List Instr) (n : ℕ) → n < 8 → count_by sets_low before ≡ 0
    → colour_from start before n ≡ start n
low_kept start [] n lt none = refl
low_kept start (ColoursLow colours ∷ before) n lt none =
    absurd (omega (arith, none, counted sets_low (ColoursLow colours) before))
low_kept start (ColoursHigh colours ∷ before) n lt none =
    ap (λ t. cond t (colour_from start before n) (get_or colours (n - 8) 0)) (is_low n lt)
    ∙ low_kept start before n lt (omega (arith, none, counted sets_low (ColoursHigh colours) before))
low_kept start (instr ∷ before) n lt none =
    low_kept start before n lt (omega (arith, none, counted sets_low instr before))

high_kept : (start : ℕ → ℕ) (before : List Instr) (n : ℕ) → count_by sets_high before ≡ 0
    → colour_from start before (8 + n) ≡ start (8 + n)
high_kept start [] n none = refl
high_kept start (ColoursHigh colours ∷ before) n none =
    absurd (omega (arith, none, counted sets_high (ColoursHigh colours) before))
high_kept start (ColoursLow colours ∷ before) n none =
    ap (λ t. cond t (get_or colours (8 + n) 0) (colour_from start before (8 + n))) (is_high n)
    ∙ high_kept start before n (omega (arith, none, counted sets_high (ColoursLow colours) before))
high_kept start (instr ∷ before) n none =
    high_kept start before n (omega (arith, none, counted sets_high instr before))

-- ---- equal tables

all_none : (f : ℕ → ℕ) (n a : ℕ) → ((k : ℕ) → f k ≡ 0)
    → list_all (λ d. d == 0) (map f (range_with_len a n)) ≡ true
all_none f zero a none = refl
all_none f (suc n) a none = ap₂ (λ s t. s && t) (is_eq (f a) 0 (none a)) (all_none f n (a + 1) none)

same_equal : (xs : List ℕ) → are_equal xs xs ≡ true
unfolding are_equal delta
same_equal xs = all_none (λ p. bit_xor (get_or xs p 0) (get_or xs p 0)) 72 0 (λ p. xor_self (get_or xs p 0))

equal_tables : (f g : ℕ → ℕ) → ((n : ℕ) → n < 8 → f n ≡ g n) → map f (below 8) ≡ map g (below 8)
equal_tables f g same =
    ext_get_or 0 (map f (below 8)) (map g (below 8))
    (length-map-range_with_len f 0 8 ∙ sym (length-map-range_with_len g 0 8)) (λ n lt.
    let small : n < 8 = omega (arith, lt, length-map-range_with_len f 0 8) in
    get_or-map-range_with_len f 0 8 n n 0 small (omega arith)
    ∙ same n small
    ∙ sym (get_or-map-range_with_len g 0 8 n n 0 small (omega arith)))

lows_equal : (script : List Drawing) (k j : ℕ)
    → ((n : ℕ) → n < 8 → picture_colour script k n ≡ picture_colour script j n)
    → are_equal (low_colours script k) (low_colours script j) ≡ true
unfolding low_colours
lows_equal script k j same =
    sym (ap (are_equal (map (picture_colour script k) (below 8)))
    (equal_tables (picture_colour script k) (picture_colour script j) same))
    ∙ same_equal (map (picture_colour script k) (below 8))

highs_equal : (script : List Drawing) (k j : ℕ)
    → ((n : ℕ) → n < 8 → picture_colour script k (8 + n) ≡ picture_colour script j (8 + n))
    → are_equal (high_colours script k) (high_colours script j) ≡ true
unfolding high_colours
highs_equal script k j same =
    sym (ap (are_equal (map (λ n. picture_colour script k (8 + n)) (below 8)))
    (equal_tables (λ n. picture_colour script k (8 + n)) (λ n. picture_colour script j (8 + n)) same))
    ∙ same_equal (map (λ n. picture_colour script k (8 + n)) (below 8))

-- ---- the settings of a picture

skip_few : {X : Type 0} (skips : Bool) (n : ℕ) (x : X) → (n ≡ 0 → skips ≡ true)
    → length (cond skips [] (x ∷ [])) ≤ n
skip_few true n x skip = omega arith
skip_few false zero x skip = absurd (false≢true (skip refl))
skip_few false (suc n) x skip = omega arith

three_few : {X : Type 0} (a b c : List X) (l m n : ℕ) → length a ≤ l → length b ≤ m → length c ≤ n
    → length (a ++ b ++ c) ≤ l + m + n
three_few a b c l m n one two three =
    omega (arith, one, two, three, length-append (a ++ b) c, length-append a b)

pub settings_needed : (script : List Drawing) (k : ℕ) (now : Standing) (instrs : List Instr)
    → IsBefore script k now → Brings script k now instrs
    → length (settings script k)
    ≤ count_by sets_border (reverse instrs) + count_by sets_low (reverse instrs)
    + count_by sets_high (reverse instrs)
settings_needed script zero now instrs is brings =
    let all = brings.sets refl in
    omega (
      arith,
      all.border,
      all.low,
      all.high,
      count-reverse sets_border instrs,
      count-reverse sets_low instrs,
      count-reverse sets_high instrs,
    )
settings_needed script (suc k) now instrs is brings =
    let before : List Instr = reverse instrs in
    let old = is.0 in
    let new = brings.shows in
    three_few _ _ _ (count_by sets_border before) (count_by sets_low before) (count_by sets_high before)
    (skip_few (picture_border script k == picture_border script (suc k)) (count_by sets_border before)
    (BorderPreset (picture_border script (suc k)))
    (λ none. is_eq (picture_border script k) (picture_border script (suc k))
    (sym old.border ∙ sym (border_kept now.border before none) ∙ new.border)))
    (skip_few (are_equal (low_colours script k) (low_colours script (suc k))) (count_by sets_low before)
    (ColoursLow (low_colours script (suc k)))
    (λ none. lows_equal script k (suc k) (λ n lt. sym (old.colours n (omega (arith, lt)))
    ∙ sym (low_kept (slice_index now.colours) before n lt none)
    ∙ sym (number_of_sixteen (colour_from (slice_index now.colours) before) n (omega (arith, lt)))
    ∙ new.colours n (omega (arith, lt)))))
    (skip_few (are_equal (high_colours script k) (high_colours script (suc k))) (count_by sets_high before)
    (ColoursHigh (high_colours script (suc k)))
    (λ none. highs_equal script k (suc k) (λ n lt. sym (old.colours (8 + n) (omega (arith, lt)))
    ∙ sym (high_kept (slice_index now.colours) before n none)
    ∙ sym (number_of_sixteen (colour_from (slice_index now.colours) before) (8 + n) (omega (arith, lt)))
    ∙ new.colours (8 + n) (omega (arith, lt)))))
