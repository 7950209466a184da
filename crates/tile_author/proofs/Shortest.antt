-- The plan is in range, turns the old tile into the new one, and no shorter list does so.
use Rattle.std.proofs.Common.{◌≡◌, ℕ, zero, suc, ◌-◌, ◌*◌, ◌^◌, ◌<◌, ◌≤◌, Bool, true, false, List, [], ◌∷◌, ◌++◌, length, take, drop, map, get_or, All, refl, sym, ◌∙◌, subst, inl, inr, bit_xor, arith}
use Rattle.std.specs.Prelude.{slice_index, ◌==◌, ◌&&◌, if◌then◌else◌}
use Rattle.std.proofs.lemmas.Nat.{xor_lt}
use Rattle.std.proofs.lemmas.List.{length-map, length-take-le, length-drop}
use Rattle.std.proofs.lemmas.List.Elements.{All-head, All-tail, All-nil, All-push, All-map, All-from_get_or}
use Rattle.std.proofs.lemmas.List.FromFn.{length-map-range_with_len}
use Rattle.std.proofs.lemmas.Bool.Decides.{leb_tells}
use Rattle.bit_lists.specs.Counting.{below, parts}
use Rattle.bit_lists.specs.Bits.{has_bit, number_of}
use Rattle.cdg_instructions.specs.Instruction.{IsTilePixels}
use Rattle.cdg_instructions.specs.Instruction.{InTileRange}
use Rattle.cdg_instructions.specs.Drawing.{tile_from, Turns, IsOfPlace, IsLeast}
use Rattle.cdg_instructions.specs.declared.instr.Instr.{Instr}
use Rattle.cdg_instructions.specs.declared.instr.Instr.TheVariants.{SetTile, XorTile}
use Rattle.tile_author.specs.Plan.{basis, basis_from, differences_from_first, selection, member_bits, tile_lines, planned, weight, delta, are_equal, plan, steps}
use Rattle.tile_author.proofs.BasisLaws.{spans_decides}
use Rattle.bit_lists.proofs.BitsLemmas.{number_of-lt}
use Rattle.tile_author.proofs.Lines.{length-parts, parts_at}
use Rattle.tile_author.proofs.Needed.{length-delta, delta_at, equal_decides, steps_needed}
use Rattle.tile_author.proofs.Works.{drawn_new, combined_new}

small_xor : (a b : ℕ) → a < 16 → b < 16 → bit_xor a b < 16
small_xor a b a_lt b_lt = xor_lt 4 a b a_lt b_lt

pub small_at : (w : List ℕ) (j : ℕ) → All (λ n. n < 16) w → slice_index w j < 16
small_at [] j h = omega arith
small_at (x ∷ w) zero h = All-head (λ n. n < 16) x w h
small_at (x ∷ w) (suc j) h = small_at w j (All-tail (λ n. n < 16) x w h)

pub difference_small : (w : List ℕ) (p : ℕ) → All (λ n. n < 16) w
    → bit_xor (slice_index w 0) (slice_index w p) < 16
difference_small w p h = small_xor (slice_index w 0) (slice_index w p) (small_at w 0 h) (small_at w p h)

basis_from-small : (ms ds : List ℕ) → All (λ n. n < 16) ms → All (λ n. n < 16) ds
    → All (λ n. n < 16) (basis_from ms ds)
unfolding basis_from
basis_from-small ms [] old new = old
basis_from-small ms (d ∷ ds) old new =
    let rest = All-tail (λ n. n < 16) d ds new in
    elim (spans_decides ms d) [
      | inl holds ↦ rw holds.0 (basis_from-small ms ds old rest)
      | inr fails ↦
          rw fails.0 (basis_from-small (ms ++ d ∷ []) ds
          (All-push (λ n. n < 16) ms d old (All-head (λ n. n < 16) d ds new)) rest)
    ]

pub differences-small : (w : List ℕ) → All (λ n. n < 16) w → All (λ n. n < 16) (differences_from_first w)
unfolding differences_from_first
differences-small w h =
    All-map (λ n. n < 16) (bit_xor (slice_index w 0)) w
    (All-from_get_or (λ n. bit_xor (slice_index w 0) n < 16) w 0
    (λ p p_lt. small_xor (slice_index w 0) (get_or w p 0) (small_at w 0 h) (small_at w p h)))

pub basis-small : (w : List ℕ) → All (λ n. n < 16) w → All (λ n. n < 16) (basis w)
unfolding basis
basis-small w h =
    basis_from-small [] (differences_from_first w) (All-nil (λ n. n < 16)) (differences-small w h)

line-small : (bs : List Bool) → length bs ≡ 6 → number_of bs < 64
line-small bs size = subst (λ n. number_of bs < 2 ^ n) size (number_of-lt bs)

pub lines-count : (w : List ℕ) (j : ℕ) → length (tile_lines w j) ≡ 12
unfolding tile_lines member_bits
lines-count w j =
    let bs = map (λ d. has_bit j (selection (basis w) d)) (differences_from_first w) in
    length-map (parts 12 6 bs) number_of ∙ length-parts 12 6 bs

lines-small : (w : List ℕ) (j : ℕ) → length w ≡ 72 → All (λ line. line < 64) (tile_lines w j)
unfolding tile_lines member_bits differences_from_first
lines-small w j size =
    let f : ℕ → Bool = λ d. has_bit j (selection (basis w) d) in
    let ds = map (bit_xor (slice_index w 0)) w in
    let bs = map f ds in
    let bs_size : length bs ≡ 72 = length-map ds f ∙ length-map w (bit_xor (slice_index w 0)) ∙ size in
    All-map (λ line. line < 64) number_of (parts 12 6 bs)
    (All-from_get_or (λ six. number_of six < 64) (parts 12 6 bs) [] (λ q q_lt.
    let count = length-parts 12 6 bs in
    let rest = drop (q * 6) bs in
    let rest_size : length rest ≡ length bs - q * 6 = length-drop (q * 6) bs in
    subst (λ six. number_of six < 64) (sym (parts_at 12 6 bs q [] (omega arith)))
    (line-small (take 6 rest) (length-take-le 6 rest (omega arith)))))

chosen_small : (b : Bool) (n : ℕ) → n < 16 → (if b then n else 0) < 16
chosen_small true n h = h
chosen_small false n h = omega arith

choice_of_place : (b : Bool) (row column c0 c1 : ℕ) (lines : List ℕ) → InTileRange c0 c1 row column lines
    → IsOfPlace row column (if b then SetTile c0 c1 row column lines else XorTile c0 c1 row column lines)
choice_of_place true row column c0 c1 lines h = (refl, refl, h)
choice_of_place false row column c0 c1 lines h = (refl, refl, h)

formed-range : (draws is_first : Bool) (row column j : ℕ) (w : List ℕ) → row < 32 → column < 64
    → IsTilePixels w
    → InTileRange (if is_first then slice_index w 0 else 0)
    (bit_xor (if is_first then slice_index w 0 else 0) (slice_index (basis w) j)) row column (tile_lines w j)
formed-range draws is_first row column j w row_lt column_lt h =
    let colour0_lt : (if is_first then slice_index w 0 else 0) < 16 =
    chosen_small is_first (slice_index w 0) (small_at w 0 h.below) in
    record {
      colour0_below = colour0_lt;
      colour1_below =
          small_xor (if is_first then slice_index w 0 else 0) (slice_index (basis w) j) colour0_lt
          (small_at (basis w) j (basis-small w h.below));
      row_below = row_lt;
      column_below = column_lt;
      lines_count = lines-count w j;
      lines_below = lines-small w j h.count;
    }

pub planned-of_place : (draws : Bool) (row column j : ℕ) (w : List ℕ) → row < 32 → column < 64
    → IsTilePixels w
    → IsOfPlace row column (planned draws row column w j)
unfolding planned
planned-of_place draws row column j w row_lt column_lt h =
    choice_of_place (draws && (j == 0)) row column _ _ (tile_lines w j)
    (formed-range draws (j == 0) row column j w row_lt column_lt h)

whole-of_place : (draws : Bool) (row column n : ℕ) (w : List ℕ) → row < 32 → column < 64 → IsTilePixels w
    → All (IsOfPlace row column) (map (planned draws row column w) (below n))
whole-of_place draws row column n w row_lt column_lt h =
    All-map (IsOfPlace row column) (planned draws row column w) (below n)
    (All-from_get_or (λ j. IsOfPlace row column (planned draws row column w j)) (below n) 0 (λ i i_lt.
    planned-of_place draws row column (get_or (below n) i 0) w row_lt column_lt h))

pub delta-tile : (old new : List ℕ) → IsTilePixels old → IsTilePixels new → IsTilePixels (delta old new)
delta-tile old new old_tile new_tile =
    let size = length-delta old new in
    record {
      count = size;
      below = All-from_get_or (λ n. n < 16) (delta old new) 0 (λ p p_lt.
          subst (λ n. n < 16) (sym (delta_at old new p (omega arith))) (small_xor (slice_index old p)
          (slice_index new p) (small_at old p old_tile.below) (small_at new p new_tile.below)));
    }

-- the plan in each of its three cases
pub plan_equal : (row column : ℕ) (old new : List ℕ) → are_equal old new ≡ true → plan row column old new ≡ []
unfolding plan
plan_equal row column old new h = rw h refl

pub plan_draws : (row column : ℕ) (old new : List ℕ) → are_equal old new ≡ false
    → weight new ≤ weight (delta old new)
    → plan row column old new ≡ map (planned true row column new) (below (weight new))
unfolding plan
plan_draws row column old new h le =
    elim (leb_tells (weight new) (weight (delta old new))) [
      | inl holds ↦ rw h (rw holds.0 refl)
      | inr fails ↦ absurd (omega (arith, fails.1))
    ]

pub plan_combines : (row column : ℕ) (old new : List ℕ) → are_equal old new ≡ false
    → weight (delta old new) < weight new
    → plan row column old new
    ≡ map (planned false row column (delta old new)) (below (weight (delta old new)))
unfolding plan
plan_combines row column old new h lt =
    elim (leb_tells (weight new) (weight (delta old new))) [
      | inl holds ↦ absurd (omega (arith, holds.1))
      | inr fails ↦ rw h (rw fails.0 refl)
    ]

-- the list turns the old tile into the new one, and has the least length
pub record IsGoodPlan (row column : ℕ) (old new : List ℕ) (instrs : List Instr) : Type 0 where
  pub turns : Turns row column old new instrs
  pub count : length instrs ≡ steps old new

good_empty : (row column : ℕ) (old new : List ℕ) → are_equal old new ≡ true → old ≡ new
    → IsGoodPlan row column old new []
unfolding steps tile_from
good_empty row column old new h same = record {
  turns = record { of_place = All-nil (IsOfPlace row column); result = same };
  count = rw h refl;
}

good_drawn : (row column : ℕ) (old new : List ℕ) → row < 32 → column < 64 → IsTilePixels old
    → IsTilePixels new → are_equal old new ≡ false → weight new ≤ weight (delta old new)
    → IsGoodPlan row column old new (map (planned true row column new) (below (weight new)))
unfolding steps
good_drawn row column old new row_lt column_lt old_tile new_tile h le =
    let size = length-map-range_with_len (planned true row column new) 0 (weight new) in
    record {
      turns = record {
        of_place = whole-of_place true row column (weight new) new row_lt column_lt new_tile;
        result = drawn_new row column old new old_tile.count new_tile.count;
      };
      count = rw h (omega arith);
    }

good_combined : (row column : ℕ) (old new : List ℕ) → row < 32 → column < 64 → IsTilePixels old
    → IsTilePixels new → are_equal old new ≡ false → weight (delta old new) < weight new
    → IsGoodPlan row column old new
    (map (planned false row column (delta old new)) (below (weight (delta old new))))
unfolding steps
good_combined row column old new row_lt column_lt old_tile new_tile h lt =
    let d = delta old new in
    let size = length-map-range_with_len (planned false row column d) 0 (weight d) in
    record {
      turns = record {
        of_place =
            whole-of_place false row column (weight d) d row_lt column_lt
            (delta-tile old new old_tile new_tile);
        result = combined_new row column old new old_tile.count new_tile.count;
      };
      count = rw h (omega arith);
    }

pub good_plan : (row column : ℕ) (old new : List ℕ) → row < 32 → column < 64 → IsTilePixels old
    → IsTilePixels new
    → IsGoodPlan row column old new (plan row column old new)
good_plan row column old new row_lt column_lt old_tile new_tile =
    let Good : List Instr → Type 0 = IsGoodPlan row column old new in
    elim (equal_decides old new old_tile.count new_tile.count) [
      | inl same ↦
          subst Good (sym (plan_equal row column old new same.0))
          (good_empty row column old new same.0 same.1)
      | inr differ ↦ elim (leb_tells (weight new) (weight (delta old new))) [
        | inl draws ↦
            subst Good (sym (plan_draws row column old new differ.0 draws.1))
            (good_drawn row column old new row_lt column_lt old_tile new_tile differ.0 draws.1)
        | inr combines ↦
            subst Good (sym (plan_combines row column old new differ.0 combines.1))
            (good_combined row column old new row_lt column_lt old_tile new_tile differ.0 combines.1)
      ]
    ]

pub least : (row column : ℕ) (old new : List ℕ) → row < 32 → column < 64 → IsTilePixels old → IsTilePixels new
    → IsLeast row column old new (steps old new)
least row column old new row_lt column_lt old_tile new_tile =
    let good = good_plan row column old new row_lt column_lt old_tile new_tile in
    record {
      enough = (plan row column old new, good.turns, good.count);
      needed = steps_needed row column old new old_tile.count new_tile.count;
    }
