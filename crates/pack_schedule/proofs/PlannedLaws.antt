-- The length of each change; and the planned change is a change.
use Rattle.std.proofs.Common.{◌≡◌, ℕ, zero, suc, ◌+◌, ◌-◌, ◌<◌, ◌≤◌, Bool, true, false, List, [], ◌∷◌, ◌++◌, length, map, get_or, All, refl, ap, ap₂, sym, subst, ◌∙◌, arith, length-append}
use Rattle.std.specs.Prelude.{Option, Some, None, sum_by, flat_map, if◌then◌else◌, nat_lt}
use Rattle.std.proofs.lemmas.List.Elements.{All-head, All-tail, All-map, All-from_get_or, All-get_or}
use Rattle.std.proofs.lemmas.List.FromFn.{get_or-range_with_len, get_or-map-range_with_len}
use Rattle.std.proofs.lemmas.List.Sums.{sum_by-append}
use Rattle.bit_lists.specs.Counting.{below}
use Rattle.cdg_instructions.specs.Instruction.{IsTilePixels}
use Rattle.cdg_instructions.specs.Drawing.{Turns, IsLeast}
use Rattle.cdg_instructions.specs.declared.instr.Instr.{Instr}
use Rattle.tile_author.specs.Plan.{plan, steps}
use Rattle.picture_script.specs.Script.{Drawing, picture_tile, picture_pixel}
use Rattle.pack_schedule.specs.Change.{settings, window_places, preset_of, tiles_before, AreTileChanges, IsStart, IsChangeFrom, IsOrderedChange}
use Rattle.pack_schedule.specs.PlannedChange.{planned_tiles, tile_steps, planned_from, planned_length, preferred, first_least, chosen_start, planned_change}
use Rattle.pack_schedule.proofs.Least.{least-best, least-all}
use Rattle.pack_schedule.proofs.Places.{AreInside, inside, picture_is_tile, colour_is_tile, start_small}

one_sum : (n : ℕ) → 0 + n ≡ n
one_sum n = omega arith

-- the facts about plans of tiles
pub record PlansAreShortest : Type 0 where
  pub turns : (row column : ℕ) (old new : List ℕ) → row < 18 → column < 50 → IsTilePixels old
      → IsTilePixels new
      → Turns row column old new (plan row column old new)
  pub count : (row column : ℕ) (old new : List ℕ) → row < 18 → column < 50 → IsTilePixels old
      → IsTilePixels new
      → length (plan row column old new) ≡ steps old new
  pub least : (row column : ℕ) (old new : List ℕ) → row < 32 → column < 64 → IsTilePixels old
      → IsTilePixels new
      → IsLeast row column old new (steps old new)

-- the least number is unique
pub least-unique : (row column : ℕ) (old new : List ℕ) (m n : ℕ) → IsLeast row column old new m
    → IsLeast row column old new n
    → m ≡ n
least-unique row column old new m n one other =
    let first = one.needed other.enough.0 other.enough.1 in
    let second = other.needed one.enough.0 one.enough.1 in
    omega (arith, first, second, one.enough.2, other.enough.2)

-- the number of instructions that change tiles is the sum of the steps of all tiles
changes_count : PlansAreShortest → (old new : ℕ → ℕ → List ℕ) (places : List (ℕ × ℕ)) (instrs : List Instr)
    → AreInside places
    → ((row column : ℕ) → IsTilePixels (old row column)) → ((row column : ℕ) → IsTilePixels (new row column))
    → AreTileChanges old new places instrs
    → length instrs ≡ sum_by (λ p. steps (old p.0 p.1) (new p.0 p.1)) places
changes_count plans old new [] instrs all o n h = ap length h
changes_count plans old new (place ∷ places) instrs all o n h =
    let at = All-head (λ p. (p.0 < 18) × (p.1 < 50)) place places all in
    let rest =
    changes_count plans old new places h.1 (All-tail (λ p. (p.0 < 18) × (p.1 < 50)) place places all) o n
    h.5 in
    let first =
    least-unique place.0 place.1 (old place.0 place.1) (new place.0 place.1) (length h.0)
    (steps (old place.0 place.1) (new place.0 place.1)) h.4
    (plans.least place.0 place.1 (old place.0 place.1) (new place.0 place.1) (omega (arith, at.0))
    (omega (arith, at.1)) (o place.0 place.1) (n place.0 place.1)) in
    ap length h.2 ∙ length-append h.0 h.1 ∙ ap₂ (λ a b. a + b) first rest
    ∙ sym (sum_by-append (λ (p : ℕ × ℕ). steps (old p.0 p.1) (new p.0 p.1)) (place ∷ []) places
    ∙ ap (λ n. n + sum_by (λ (p : ℕ × ℕ). steps (old p.0 p.1) (new p.0 p.1)) places)
    (one_sum (steps (old place.0 place.1) (new place.0 place.1))))

-- the plans are changes of the tiles
plans_change : PlansAreShortest → (old new : ℕ → ℕ → List ℕ) (places : List (ℕ × ℕ)) → AreInside places
    → ((row column : ℕ) → IsTilePixels (old row column)) → ((row column : ℕ) → IsTilePixels (new row column))
    → AreTileChanges old new places (flat_map (λ p. plan p.0 p.1 (old p.0 p.1) (new p.0 p.1)) places)
plans_change plans old new [] all o n = refl
plans_change plans old new (place ∷ places) all o n =
    let at = All-head (λ p. (p.0 < 18) × (p.1 < 50)) place places all in
    let one = plan place.0 place.1 (old place.0 place.1) (new place.0 place.1) in (
      one,
      flat_map (λ p. plan p.0 p.1 (old p.0 p.1) (new p.0 p.1)) places,
      refl,
      plans.turns place.0 place.1 (old place.0 place.1) (new place.0 place.1) at.0 at.1 (o place.0 place.1)
          (n place.0 place.1),
      subst (IsLeast place.0 place.1 (old place.0 place.1) (new place.0 place.1)) (sym
          (plans.count place.0 place.1 (old place.0 place.1) (new place.0 place.1) at.0 at.1
          (o place.0 place.1)
          (n place.0 place.1)))
          (plans.least place.0 place.1 (old place.0 place.1) (new place.0 place.1) (omega (arith, at.0))
          (omega (arith, at.1)) (o place.0 place.1) (n place.0 place.1)),
      plans_change plans old new places (All-tail (λ p. (p.0 < 18) × (p.1 < 50)) place places all) o n,
    )

before_is_tile : (script : List Drawing) (k : ℕ) (start : Option ℕ) (row column : ℕ)
    → ((k x y : ℕ) → picture_pixel script k x y < 16) → IsStart k start
    → IsTilePixels (tiles_before script k start row column)
before_is_tile script k (Some colour) row column small allowed = colour_is_tile colour allowed
before_is_tile script k None row column small allowed = picture_is_tile script (k - 1) row column small

-- each change has the planned length of its start
pub change_length : PlansAreShortest
    → (script : List Drawing) (k : ℕ) (start : Option ℕ) (instrs : List Instr)
    → ((k x y : ℕ) → picture_pixel script k x y < 16)
    → IsChangeFrom script k start instrs → length instrs ≡ planned_length script k start
unfolding planned_length tile_steps
change_length plans script k start instrs small h =
    let tiles =
    changes_count plans (tiles_before script k start) (picture_tile script k) window_places h.tiles inside
    (λ row column. before_is_tile script k start row column small h.allowed)
    (λ row column. picture_is_tile script k row column small) h.tile_changes in
    ap length h.whole ∙ length-append (preset_of start ++ settings script k) h.tiles
    ∙ ap₂ (λ a b. a + b) (length-append (preset_of start) (settings script k)) tiles

-- the planned change is a change
pub planned_is_change : PlansAreShortest → (script : List Drawing) (k : ℕ) (start : Option ℕ)
    → ((k x y : ℕ) → picture_pixel script k x y < 16) → IsStart k start
    → IsChangeFrom script k start (planned_from script k start)
unfolding planned_from planned_tiles
planned_is_change plans script k start small allowed = record {
  allowed = allowed;
  tiles =
      flat_map (λ p. plan p.0 p.1 (tiles_before script k start p.0 p.1) (picture_tile script k p.0 p.1))
      window_places;
  whole = refl;
  tile_changes = plans_change plans (tiles_before script k start) (picture_tile script k) window_places inside
      (λ row column. before_is_tile script k start row column small allowed)
      (λ row column. picture_is_tile script k row column small);
}

-- the chosen start is allowed, and no other start has a shorter change
preferred_is_start : (k : ℕ) → IsStart k (preferred k)
preferred_is_start zero = omega arith
preferred_is_start (suc k) = tt

starts_allowed : (k colour : ℕ) → colour < 16 → IsStart k (Some colour)
starts_allowed zero colour h = h
starts_allowed (suc k) colour h = h

either_start : (k : ℕ) (t : Bool) (x best : Option ℕ) → IsStart k x → IsStart k best
    → IsStart k (if t then x else best)
either_start k true x best p q = p
either_start k false x best p q = q

least_is_start : (k : ℕ) (number : Option ℕ → ℕ) (best : Option ℕ) (xs : List (Option ℕ)) → IsStart k best
    → All (IsStart k) xs
    → IsStart k (first_least number best xs)
unfolding first_least
least_is_start k number best [] b all = b
least_is_start k number best (x ∷ xs) b all =
    least_is_start k number (if nat_lt (number x) (number best) then x else best) xs
    (either_start k (nat_lt (number x) (number best)) x best (All-head (IsStart k) x xs all) b)
    (All-tail (IsStart k) x xs all)

colours_allowed : (k : ℕ) → All (IsStart k) (map Some (below 16))
colours_allowed k =
    All-map (IsStart k) Some (below 16) (All-from_get_or (λ c. IsStart k (Some c)) (below 16) 0
    (λ i lt. starts_allowed k (get_or (below 16) i 0)
    (subst (λ n. n < 16) (sym (get_or-range_with_len 0 16 i 0 lt ∙ one_sum i)) lt)))

pub chosen_is_start : (script : List Drawing) (k : ℕ) → IsStart k (chosen_start script k)
unfolding chosen_start
chosen_is_start script k =
    least_is_start k (planned_length script k) (preferred k) (map Some (below 16)) (preferred_is_start k)
    (colours_allowed k)

least_of_all : (script : List Drawing) (k : ℕ) (other : Option ℕ) → IsStart k other
    → planned_length script k (chosen_start script k) ≤ planned_length script k other
unfolding chosen_start
least_of_all script k (Some colour) allowed =
    let all = least-all (planned_length script k) (preferred k) (map Some (below 16)) in
    subst (λ (o : Option ℕ). planned_length script k (chosen_start script k) ≤ planned_length script k o)
    (get_or-map-range_with_len Some 0 16 colour colour None (start_small k colour allowed) (one_sum colour))
    (All-get_or
    (λ (o : Option ℕ). planned_length script k (chosen_start script k) ≤ planned_length script k o)
    (map Some (below 16)) colour None (start_small k colour allowed) all)
least_of_all script zero None allowed = absurd allowed
least_of_all script (suc k) None allowed =
    least-best (planned_length script (suc k)) (preferred (suc k)) (map Some (below 16))

pub planned_is_shortest : PlansAreShortest → (script : List Drawing) (k : ℕ)
    → ((k x y : ℕ) → picture_pixel script k x y < 16)
    → IsOrderedChange script k (planned_change script k)
unfolding planned_change
planned_is_shortest plans script k small =
    let change = planned_is_change plans script k (chosen_start script k) small (chosen_is_start script k) in
    record {
      start = chosen_start script k;
      change = change;
      shortest = λ other others h.
          let one =
          change_length plans script k (chosen_start script k) (planned_from script k (chosen_start script k))
          small change in
          let two = change_length plans script k other others small h in
          omega (arith, one, two, least_of_all script k other h.allowed);
    }

pub chosen_change : PlansAreShortest → (script : List Drawing) (k : ℕ)
    → ((k x y : ℕ) → picture_pixel script k x y < 16)
    → IsChangeFrom script k (chosen_start script k) (planned_change script k)
unfolding planned_change
chosen_change plans script k small =
    planned_is_change plans script k (chosen_start script k) small (chosen_is_start script k)

pub planned_count : PlansAreShortest → (script : List Drawing) (k : ℕ)
    → ((k x y : ℕ) → picture_pixel script k x y < 16)
    → length (planned_change script k) ≡ planned_length script k (chosen_start script k)
unfolding planned_change
planned_count plans script k small =
    change_length plans script k (chosen_start script k) (planned_from script k (chosen_start script k)) small
    (planned_is_change plans script k (chosen_start script k) small (chosen_is_start script k))
