-- A planned change is short.
use Rattle.std.proofs.Common.{ℕ, zero, suc, ◌*◌, ◌<◌, ◌≤◌, Bool, true, false, List, [], ◌∷◌, ◌++◌, length, All, arith, length-append}
use Rattle.std.specs.Prelude.{Option, Some, None, if◌then◌else◌, min, sum_by, ◌==◌}
use Rattle.std.proofs.Math.Nat.{max-le, min-le_left}
use Rattle.std.proofs.lemmas.List.Elements.{All-nil, All-cons}
use Rattle.std.proofs.lemmas.List.Sums.{sum_by-le}
use Rattle.cdg_instructions.specs.Instruction.{IsTilePixels}
use Rattle.cdg_instructions.specs.declared.instr.Instr.TheVariants.{BorderPreset, ColoursLow, ColoursHigh}
use Rattle.tile_author.proofs.Span.{Free}
use Rattle.tile_author.specs.Plan.{basis, differences_from_first, weight, delta, are_equal, steps}
use Rattle.tile_author.proofs.BasisLaws.{basis-free}
use Rattle.tile_author.proofs.Capacity.{at_most_four}
use Rattle.tile_author.proofs.Shortest.{basis-small}
use Rattle.picture_script.specs.Script.{Drawing, picture_tile, picture_pixel, picture_border, low_colours, high_colours}
use Rattle.pack_schedule.specs.Change.{settings, window_places, preset_of, tiles_before}
use Rattle.pack_schedule.specs.PlannedChange.{tile_steps, planned_length, chosen_start, planned_change}
use Rattle.pack_schedule.proofs.Places.{picture_is_tile}
use Rattle.pack_schedule.proofs.PlannedLaws.{PlansAreShortest, planned_count}

-- four instructions draw any tile
basis_few : (pixels : List ℕ) → All (λ n. n < 16) pixels → length (basis pixels) ≤ 4
unfolding basis Free
basis_few pixels small =
    at_most_four (basis pixels) (basis-free [] (differences_from_first pixels) tt) (basis-small pixels small)

weight_few : (pixels : List ℕ) → All (λ n. n < 16) pixels → weight pixels ≤ 4
unfolding weight
weight_few pixels small = max-le (omega arith) (basis_few pixels small)

unless : (equal : Bool) (n : ℕ) → n ≤ 4 → (if equal then 0 else n) ≤ 4
unless true n few = omega arith
unless false n few = few

steps_few : (old new : List ℕ) → IsTilePixels new → steps old new ≤ 4
unfolding steps
steps_few old new tile =
    unless (are_equal old new) (min (weight new) (weight (delta old new)))
    (omega (arith, weight_few new tile.below, min-le_left (weight new) (weight (delta old new))))

-- all tiles of the window
every : {X : Type 0} (P : X → Type 0) (xs : List X) → ((x : X) → P x) → All P xs
every P [] h = All-nil P
every P (x ∷ xs) h = All-cons P x xs (h x) (every P xs h)

all_few : {X : Type 0} (f : X → ℕ) (xs : List X) → ((x : X) → f x ≤ 4) → sum_by f xs ≤ length xs * 4
all_few f xs few = sum_by-le f 4 xs (every (λ x. f x ≤ 4) xs few)

tiles_few : (script : List Drawing) (k : ℕ) (start : Option ℕ)
    → ((k x y : ℕ) → picture_pixel script k x y < 16)
    → tile_steps script k start ≤ 3072
unfolding tile_steps
tiles_few script k start small =
    all_few (λ (p : ℕ × ℕ). steps (tiles_before script k start p.0 p.1) (picture_tile script k p.0 p.1))
    window_places
    (λ p. steps_few (tiles_before script k start p.0 p.1) (picture_tile script k p.0 p.1)
    (picture_is_tile script k p.0 p.1 small))

-- the settings
at_most_one : {X : Type 0} (skip : Bool) (x : X) → length (if skip then [] else x ∷ []) ≤ 1
at_most_one true x = omega arith
at_most_one false x = omega arith

three_few : {X : Type 0} (a b c : List X) → length a ≤ 1 → length b ≤ 1 → length c ≤ 1
    → length (a ++ b ++ c) ≤ 3
three_few a b c one two three = omega (arith, length-append (a ++ b) c, length-append a b)

pub settings_few : (script : List Drawing) (k : ℕ) → length (settings script k) ≤ 3
settings_few script zero = omega arith
settings_few script (suc k) =
    three_few _ _ _ (at_most_one (picture_border script k == picture_border script (suc k))
    (BorderPreset (picture_border script (suc k))))
    (at_most_one (are_equal (low_colours script k) (low_colours script (suc k)))
    (ColoursLow (low_colours script (suc k))))
    (at_most_one (are_equal (high_colours script k) (high_colours script (suc k)))
    (ColoursHigh (high_colours script (suc k))))

preset_few : (start : Option ℕ) → length (preset_of start) ≤ 1
preset_few (Some colour) = omega arith
preset_few None = omega arith

length_few : (script : List Drawing) (k : ℕ) (start : Option ℕ)
    → ((k x y : ℕ) → picture_pixel script k x y < 16)
    → planned_length script k start ≤ 3076
unfolding planned_length
length_few script k start small =
    omega (arith, preset_few start, settings_few script k, tiles_few script k start small)

pub change_few : PlansAreShortest → (script : List Drawing) (k : ℕ)
    → ((k x y : ℕ) → picture_pixel script k x y < 16)
    → length (planned_change script k) ≤ 3076
change_few plans script k small =
    omega (arith, planned_count plans script k small, length_few script k (chosen_start script k) small)
