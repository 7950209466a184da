-- The standing after the instructions that set the border and the colours.
use Rattle.std.proofs.Common.{◌≡◌, ℕ, zero, suc, ◌+◌, ◌-◌, ◌<◌, ◌≤◌, ◌==◌, nat_lt, ◌&&◌, inl, inr, Bool, true, false, cond, List, [], ◌∷◌, ◌++◌, get_or, map, refl, sym, ap, ◌∙◌, subst, arith, bit_xor}
use Rattle.std.specs.List.{list_all, range_with_len}
use Rattle.std.specs.Int.Bits.{xor_zero_l, xor_zero_r, xor_assoc, xor_self}
use Rattle.std.proofs.lemmas.Bool.Decides.{eqb_tells, leb_tells}
use Rattle.std.proofs.lemmas.List.FromFn.{get_or-map-range_with_len}
use Rattle.tile_author.specs.Plan.{are_equal, delta}
use Rattle.picture_script.specs.Script.{Drawing, picture_border, picture_colour, low_colours, high_colours}
use Rattle.cdg_instructions.specs.declared.instr.Instr.{Instr}
use Rattle.cdg_instructions.specs.declared.instr.Instr.TheVariants.{BorderPreset, ColoursLow, ColoursHigh}
use Rattle.std.specs.Prelude.{slice_index}
use Rattle.cdg_screen.specs.Standing.{Standing, standing_after, pixel_at, sixteen, colour_from}
use Rattle.cdg_screen.proofs.Lists.{pixel_of_rows, number_of_sixteen}
use Rattle.pack_schedule.specs.Change.{settings}
use Rattle.pack_schedule.proofs.Tiles.{InTurn}

-- ---- equal lists

xor_none : (x y : ℕ) → bit_xor x y ≡ 0 → x ≡ y
xor_none x y none =
    sym (xor_zero_r x)
    ∙ ap (bit_xor x) (sym (xor_self y))
    ∙ sym (xor_assoc x y y)
    ∙ ap (λ z. bit_xor z y) none
    ∙ xor_zero_l y

and_both : (a b : Bool) → (a && b) ≡ true → (a ≡ true) × (b ≡ true)
and_both true true e = (refl, refl)
and_both true false e = (refl, e)
and_both false b e = (e, absurd (cc))

all_zero : (f : ℕ → ℕ) (n a : ℕ) → list_all (λ d. d == 0) (map f (range_with_len a n)) ≡ true → (k : ℕ)
    → a ≤ k → k < a + n
    → f k ≡ 0
all_zero f zero a e k from to = absurd (omega (arith, from, to))
all_zero f (suc n) a e k from to =
    let parts = and_both (f a == 0) (list_all (λ d. d == 0) (map f (range_with_len (a + 1) n))) e in
    elim (leb_tells (suc a) k) [
      | inl later ↦ all_zero f n (a + 1) parts.1 k (omega (arith, later.1)) (omega (arith, to))
      | inr here ↦
          let is : a ≡ k = omega (arith, here.1, from) in
          subst (λ j. f j ≡ 0) is (elim (eqb_tells (f a) 0) [ inl same ↦ same.1 | inr other ↦ absurd (cc) ])
    ]

equal_at : (old new : List ℕ) → are_equal old new ≡ true → (p : ℕ) → p < 72 → get_or old p 0 ≡ get_or new p 0
unfolding are_equal delta
equal_at old new e p lt =
    xor_none (get_or old p 0) (get_or new p 0)
    (all_zero (λ p. bit_xor (get_or old p 0) (get_or new p 0)) 72 0 e p (omega arith) (omega (arith, lt)))

-- ---- one instruction, or none

-- the memory and the offsets are unchanged
pub record KeepsPlace (s s' : Standing) : Type 0 where
  pub memory : (x y : ℕ) → x < 300 → y < 216 → pixel_at s'.memory x y ≡ pixel_at s.memory x y
  pub h : s'.h ≡ s.h
  pub v : s'.v ≡ s.v

numbers_kept : (numbers : List ℕ) (n : ℕ) → n < 16
    → slice_index (sixteen (slice_index numbers)) n ≡ slice_index numbers n
numbers_kept numbers n lt = number_of_sixteen (slice_index numbers) n lt

record StepsBorder (s s' : Standing) (border : ℕ) : Type 0 where
  place : KeepsPlace s s'
  border_is : s'.border ≡ border
  colour_is : (n : ℕ) → n < 16 → slice_index s'.colours n ≡ slice_index s.colours n

border_step : (s : Standing) (skips : Bool) (border : ℕ) → (skips ≡ true → s.border ≡ border)
    → StepsBorder s (standing_after s (cond skips [] (BorderPreset border ∷ []))) border
border_step s true border stands = record {
  place = record { memory = λ x y xs ys. pixel_of_rows (pixel_at s.memory) x y xs ys; h = refl; v = refl };
  border_is = stands refl;
  colour_is = numbers_kept s.colours;
}
border_step s false border stands = record {
  place = record { memory = λ x y xs ys. pixel_of_rows (pixel_at s.memory) x y xs ys; h = refl; v = refl };
  border_is = refl;
  colour_is = numbers_kept s.colours;
}

record StepsColours (s s' : Standing) (low : Bool) (colours : List ℕ) : Type 0 where
  place : KeepsPlace s s'
  border_is : s'.border ≡ s.border
  colour_is : (n : ℕ) → n < 8 → slice_index s'.colours (cond low n (8 + n)) ≡ get_or colours n 0
  others : (n : ℕ) → n < 8
      → slice_index s'.colours (cond low (8 + n) n) ≡ slice_index s.colours (cond low (8 + n) n)

is_low : (n : ℕ) → n < 8 → nat_lt n 8 ≡ true
is_low n lt =
    elim (leb_tells (suc n) 8)
    [ inl decides ↦ decides.0 | inr decides ↦ absurd (omega (arith, lt, decides.1)) ]

is_high : (n : ℕ) → nat_lt (8 + n) 8 ≡ false
is_high n =
    elim (leb_tells (suc (8 + n)) 8)
    [ inl decides ↦ absurd (omega (arith, decides.1)) | inr decides ↦ decides.0 ]

low_step : (s : Standing) (skips : Bool) (colours : List ℕ)
    → (skips ≡ true → (n : ℕ) → n < 8 → slice_index s.colours n ≡ get_or colours n 0)
    → StepsColours s (standing_after s (cond skips [] (ColoursLow colours ∷ []))) true colours
low_step s true colours stands = record {
  place = record { memory = λ x y xs ys. pixel_of_rows (pixel_at s.memory) x y xs ys; h = refl; v = refl };
  border_is = refl;
  colour_is = λ n lt. numbers_kept s.colours n (omega (arith, lt)) ∙ stands refl n lt;
  others = λ n lt. numbers_kept s.colours (8 + n) (omega (arith, lt));
}
low_step s false colours stands = record {
  place = record { memory = λ x y xs ys. pixel_of_rows (pixel_at s.memory) x y xs ys; h = refl; v = refl };
  border_is = refl;
  colour_is =
      λ n lt. number_of_sixteen (colour_from (slice_index s.colours) (ColoursLow colours ∷ [])) n
      (omega (arith, lt))
      ∙ ap (λ t. cond t (get_or colours n 0) (slice_index s.colours n)) (is_low n lt);
  others =
      λ n lt. number_of_sixteen (colour_from (slice_index s.colours) (ColoursLow colours ∷ [])) (8 + n)
      (omega (arith, lt))
      ∙ ap (λ t. cond t (get_or colours (8 + n) 0) (slice_index s.colours (8 + n))) (is_high n);
}

high_step : (s : Standing) (skips : Bool) (colours : List ℕ)
    → (skips ≡ true → (n : ℕ) → n < 8 → slice_index s.colours (8 + n) ≡ get_or colours n 0)
    → StepsColours s (standing_after s (cond skips [] (ColoursHigh colours ∷ []))) false colours
high_step s true colours stands = record {
  place = record { memory = λ x y xs ys. pixel_of_rows (pixel_at s.memory) x y xs ys; h = refl; v = refl };
  border_is = refl;
  colour_is = λ n lt. numbers_kept s.colours (8 + n) (omega (arith, lt)) ∙ stands refl n lt;
  others = λ n lt. numbers_kept s.colours n (omega (arith, lt));
}
high_step s false colours stands = record {
  place = record { memory = λ x y xs ys. pixel_of_rows (pixel_at s.memory) x y xs ys; h = refl; v = refl };
  border_is = refl;
  colour_is = λ n lt. let first : 8 + n - 8 ≡ n = omega arith in
      number_of_sixteen (colour_from (slice_index s.colours) (ColoursHigh colours ∷ [])) (8 + n)
      (omega (arith, lt))
      ∙ ap (λ t. cond t (slice_index s.colours (8 + n)) (get_or colours (8 + n - 8) 0)) (is_high n)
      ∙ ap (λ k. get_or colours k 0) first;
  others =
      λ n lt. number_of_sixteen (colour_from (slice_index s.colours) (ColoursHigh colours ∷ [])) n
      (omega (arith, lt))
      ∙ ap (λ t. cond t (slice_index s.colours n) (get_or colours (n - 8) 0)) (is_low n lt);
}

-- ---- all settings of a picture

pub record IsSet (s s' : Standing) (border : ℕ) (colour : ℕ → ℕ) : Type 0 where
  pub place : KeepsPlace s s'
  pub border_is : s'.border ≡ border
  pub colour_is : (n : ℕ) → n < 16 → slice_index s'.colours n ≡ colour n

module _ (in_turn : InTurn) (s : Standing) (border : ℕ) (low high : List ℕ) (colour : ℕ → ℕ)
    (same_border same_low same_high : Bool)
    (border_stands : same_border ≡ true → s.border ≡ border)
    (low_stands : same_low ≡ true → (n : ℕ) → n < 8 → slice_index s.colours n ≡ get_or low n 0)
    (high_stands : same_high ≡ true → (n : ℕ) → n < 8 → slice_index s.colours (8 + n) ≡ get_or high n 0)
    (lows : (n : ℕ) → n < 8 → get_or low n 0 ≡ colour n)
    (highs : (n : ℕ) → n < 8 → get_or high n 0 ≡ colour (8 + n)) where
  abbrev borders : List Instr
  borders = cond same_border [] (BorderPreset border ∷ [])

  abbrev low_table : List Instr
  low_table = cond same_low [] (ColoursLow low ∷ [])

  abbrev high_table : List Instr
  high_table = cond same_high [] (ColoursHigh high ∷ [])

  all_set : IsSet s (standing_after s (borders ++ low_table ++ high_table)) border colour
  all_set =
      let first = border_step s same_border border border_stands in
      let second =
      low_step (standing_after s borders) same_low low
      (λ e n lt. first.colour_is n (omega (arith, lt)) ∙ low_stands e n lt) in
      let inner = in_turn s borders low_table in
      let outer = in_turn s (borders ++ low_table) high_table in
      let third =
      high_step (standing_after s (borders ++ low_table)) same_high high (λ e n lt. ap
      (λ (now : Standing). slice_index now.colours (8 + n)) inner
      ∙ second.others n lt
      ∙ first.colour_is (8 + n) (omega (arith, lt))
      ∙ high_stands e n lt) in
      record {
        place = record {
          memory =
              λ x y xs ys. ap (λ (now : Standing). pixel_at now.memory x y) outer
              ∙ third.place.memory x y xs ys
              ∙ ap (λ (now : Standing). pixel_at now.memory x y) inner
              ∙ second.place.memory x y xs ys
              ∙ first.place.memory x y xs ys;
          h =
              ap (λ (now : Standing). now.h) outer
              ∙ third.place.h
              ∙ ap (λ (now : Standing). now.h) inner
              ∙ second.place.h
              ∙ first.place.h;
          v =
              ap (λ (now : Standing). now.v) outer
              ∙ third.place.v
              ∙ ap (λ (now : Standing). now.v) inner
              ∙ second.place.v
              ∙ first.place.v;
        };
        border_is =
            ap (λ (now : Standing). now.border) outer
            ∙ third.border_is
            ∙ ap (λ (now : Standing). now.border) inner
            ∙ second.border_is
            ∙ first.border_is;
        colour_is = λ n lt. ap (λ (now : Standing). slice_index now.colours n) outer ∙ elim (leb_tells 8 n) [
          | inl high_one ↦
              let is : 8 + (n - 8) ≡ n = omega (arith, high_one.1) in
              ap (slice_index (standing_after (standing_after s (borders ++ low_table)) high_table).colours)
              (sym is)
              ∙ third.colour_is (n - 8) (omega (arith, lt))
              ∙ highs (n - 8) (omega (arith, lt))
              ∙ ap colour is
          | inr low_one ↦
              third.others n low_one.1
              ∙ ap (λ (now : Standing). slice_index now.colours n) inner
              ∙ second.colour_is n low_one.1
              ∙ lows n low_one.1
        ];
      }

lows_are : (script : List Drawing) (k n : ℕ) → n < 8
    → get_or (low_colours script k) n 0 ≡ picture_colour script k n
unfolding low_colours
lows_are script k n lt = get_or-map-range_with_len (picture_colour script k) 0 8 n n 0 lt (omega arith)

highs_are : (script : List Drawing) (k n : ℕ) → n < 8
    → get_or (high_colours script k) n 0 ≡ picture_colour script k (8 + n)
unfolding high_colours
highs_are script k n lt =
    get_or-map-range_with_len (λ n. picture_colour script k (8 + n)) 0 8 n n 0 lt (omega arith)

pub first_settings : InTurn → (script : List Drawing) (s : Standing)
    → IsSet s (standing_after s (settings script 0)) (picture_border script 0) (picture_colour script 0)
first_settings in_turn script s =
    all_set in_turn s (picture_border script 0) (low_colours script 0) (high_colours script 0)
    (picture_colour script 0) false false false (λ e. absurd (cc)) (λ e. absurd (cc)) (λ e. absurd (cc))
    (lows_are script 0) (highs_are script 0)

pub later_settings : InTurn → (script : List Drawing) (k : ℕ) (s : Standing)
    → s.border ≡ picture_border script k
    → ((n : ℕ) → n < 16 → slice_index s.colours n ≡ picture_colour script k n)
    → IsSet s (standing_after s (settings script (suc k))) (picture_border script (suc k))
    (picture_colour script (suc k))
later_settings in_turn script k s border colours =
    all_set in_turn s (picture_border script (suc k)) (low_colours script (suc k))
    (high_colours script (suc k)) (picture_colour script (suc k))
    (picture_border script k == picture_border script (suc k))
    (are_equal (low_colours script k) (low_colours script (suc k)))
    (are_equal (high_colours script k) (high_colours script (suc k)))
    (λ e. border
    ∙ elim (eqb_tells (picture_border script k) (picture_border script (suc k)))
    [ inl same ↦ same.1 | inr other ↦ absurd (cc) ])
    (λ e n lt. colours n (omega (arith, lt))
    ∙ sym (lows_are script k n lt)
    ∙ equal_at (low_colours script k) (low_colours script (suc k)) e n (omega (arith, lt)))
    (λ e n lt. colours (8 + n) (omega (arith, lt))
    ∙ sym (highs_are script k n lt)
    ∙ equal_at (high_colours script k) (high_colours script (suc k)) e n (omega (arith, lt)))
    (lows_are script (suc k)) (highs_are script (suc k))
