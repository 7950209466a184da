-- The answers of the calls, from what they computed.
use Rattle.std.proofs.Common.{◌≡◌, ◌≢◌, ℕ, ◌<◌, ◌≤◌, Bool, true, false, List, [], ◌∷◌, length, map, refl, sym, ap, ap₂, ◌∙◌, inl, inr, subst, arith, bit_xor, replicate}
use Rattle.std.specs.Prelude.{slice_index, ◌==◌, if◌then◌else◌, min, max}
use Rattle.std.specs.List.{list_all}
use Rattle.std.proofs.lemmas.List.{ext_get_or}
use Rattle.bit_lists.specs.Counting.{below}
use Rattle.cdg_instructions.specs.Instruction.{IsTilePixels}
use Rattle.cdg_instructions.specs.Drawing.{Turns, IsLeast}
use Rattle.cdg_instructions.specs.declared.instr.Instr.{Instr}
use Rattle.tile_author.specs.Plan.{basis, delta, are_equal, steps, weight, plan, planned}
use Rattle.tile_author.proofs.Needed.{length-delta, delta_at, equal_decides}
use Rattle.tile_author.proofs.Shortest.{delta-tile, plan_equal, plan_draws, plan_combines, good_plan, least}
use Rattle.tile_author.proofs.OneColour.{least_from_colour, least_same}

pub is_delta : (changes old new : List ℕ) → length changes ≡ 72
    → ((k : ℕ) → k < 72 → slice_index changes k ≡ bit_xor (slice_index old k) (slice_index new k))
    → changes ≡ delta old new
is_delta changes old new size at =
    ext_get_or 0 changes (delta old new) (size ∙ sym (length-delta old new))
    (λ k k_lt. at k (omega arith) ∙ sym (delta_at old new k (omega arith)))

pub delta_is_tile : (changes old new : List ℕ) → IsTilePixels old → IsTilePixels new → changes ≡ delta old new
    → IsTilePixels changes
delta_is_tile changes old new old_tile new_tile h =
    subst IsTilePixels (sym h) (delta-tile old new old_tile new_tile)

-- the test for equal tiles, from the test in the code
pub test_of : (b : Bool) (changes old new : List ℕ) → changes ≡ delta old new
    → b ≡ list_all (λ d. d == 0) changes
    → are_equal old new ≡ b
unfolding are_equal
test_of b changes old new h test = ap (list_all (λ d. d == 0)) (sym h) ∙ sym test

pub weight_of : (members pixels : List ℕ) (n : ℕ) → members ≡ basis pixels → n ≡ max 1 (length members)
    → n ≡ weight pixels
unfolding weight
weight_of members pixels n is_basis h = h ∙ ap (λ ms. max 1 (length ms)) is_basis

pub no_steps : (old new : List ℕ) → are_equal old new ≡ true → 0 ≡ steps old new
unfolding steps
no_steps old new h = ap (λ (b : Bool). if b then 0 else min (weight new) (weight (delta old new))) (sym h)

pub some_steps : (old new : List ℕ) (drawn combined : ℕ) → are_equal old new ≡ false → drawn ≡ weight new
    → combined ≡ weight (delta old new)
    → min drawn combined ≡ steps old new
unfolding steps
some_steps old new drawn combined h one two =
    ap₂ min one two ∙ ap (λ (b : Bool). if b then 0 else min (weight new) (weight (delta old new))) (sym h)

pub list_empty : (row column : ℕ) (old new : List ℕ) (items : List Instr) → are_equal old new ≡ true
    → items ≡ []
    → items ≡ plan row column old new
list_empty row column old new items h empty = empty ∙ sym (plan_equal row column old new h)

pub list_draws : (row column : ℕ) (old new : List ℕ) (items : List Instr) (drawn combined : ℕ)
    → are_equal old new ≡ false → drawn ≡ weight new → combined ≡ weight (delta old new) → drawn ≤ combined
    → items ≡ map (planned true row column new) (below (weight new))
    → items ≡ plan row column old new
list_draws row column old new items drawn combined h one two le is =
    is ∙ sym (plan_draws row column old new h (omega arith))

pub list_combines : (row column : ℕ) (old new changes : List ℕ) (items : List Instr) (drawn combined : ℕ)
    → are_equal old new ≡ false → changes ≡ delta old new → drawn ≡ weight new → combined ≡ weight changes
    → combined < drawn → items ≡ map (planned false row column changes) (below (weight changes))
    → items ≡ plan row column old new
list_combines row column old new changes items drawn combined h same one two lt is =
    let three : weight changes ≡ weight (delta old new) = ap weight same in
    is
    ∙ ap (λ d. map (planned false row column d) (below (weight d))) same
    ∙ sym (plan_combines row column old new h (omega arith))

pub same_steps : (old new old' new' : List ℕ) (n : ℕ) → old ≡ old' → new ≡ new' → n ≡ steps old new
    → n ≡ steps old' new'
same_steps old new old' new' n one two h = h ∙ ap₂ steps one two

pub steps_least : (old new : List ℕ) (n row column : ℕ) → IsTilePixels old → IsTilePixels new
    → n ≡ steps old new → row < 32 → column < 64
    → IsLeast row column old new n
steps_least old new n row column old_tile new_tile h row_lt column_lt =
    subst (IsLeast row column old new) (sym h) (least row column old new row_lt column_lt old_tile new_tile)

pub plan_turns : (row column : ℕ) (old new : List ℕ) (items : List Instr) → row < 18 → column < 50
    → IsTilePixels old → IsTilePixels new → items ≡ plan row column old new
    → Turns row column old new items
plan_turns row column old new items row_lt column_lt old_tile new_tile h =
    subst (Turns row column old new) (sym h)
    (good_plan row column old new (omega arith) (omega arith) old_tile new_tile).turns

pub plan_count : (row column : ℕ) (old new : List ℕ) (items : List Instr) → row < 18 → column < 50
    → IsTilePixels old → IsTilePixels new → items ≡ plan row column old new
    → length items ≡ steps old new
plan_count row column old new items row_lt column_lt old_tile new_tile h =
    ap length h ∙ (good_plan row column old new (omega arith) (omega arith) old_tile new_tile).count

pub weight_least : (new : List ℕ) (n row column c : ℕ) → IsTilePixels new → n ≡ weight new → row < 32
    → column < 64 → c < 16 → new ≢ replicate 72 c
    → IsLeast row column (replicate 72 c) new n
weight_least new n row column c tile h row_lt column_lt c_lt differ =
    subst (IsLeast row column (replicate 72 c) new) (sym h)
    (least_from_colour row column c new row_lt column_lt c_lt tile differ)

pub weight_none : (new : List ℕ) (row column c : ℕ) → row < 32 → column < 64 → c < 16 → new ≡ replicate 72 c
    → IsLeast row column (replicate 72 c) new 0
weight_none new row column c row_lt column_lt c_lt same =
    subst (λ w. IsLeast row column (replicate 72 c) w 0) (sym same)
    (least_same row column c row_lt column_lt c_lt)

-- a tile that one instruction can draw is drawn
some_weight : (pixels : List ℕ) → 1 ≤ weight pixels
unfolding weight
some_weight pixels = omega arith

pub one_step : (old new : List ℕ) → are_equal old new ≡ false → 1 ≡ weight new → 1 ≡ steps old new
one_step old new h one =
    let least : min 1 (weight (delta old new)) ≡ 1 = omega (arith, some_weight (delta old new)) in
    sym least ∙ some_steps old new 1 (weight (delta old new)) h one refl

pub list_draws_one : (row column : ℕ) (old new : List ℕ) (items : List Instr) → are_equal old new ≡ false
    → 1 ≡ weight new → items ≡ map (planned true row column new) (below (weight new))
    → items ≡ plan row column old new
list_draws_one row column old new items h one is =
    list_draws row column old new items 1 (weight (delta old new)) h one refl (some_weight (delta old new)) is

-- the one instruction of a tile of weight 1
pub light_is : (row column : ℕ) (old new : List ℕ) (instr : Instr) → length old ≡ 72 → length new ≡ 72
    → old ≢ new → 1 ≡ weight new → instr ≡ planned true row column new 0
    → plan row column old new ≡ instr ∷ []
light_is row column old new instr old_size new_size other light is =
    elim (equal_decides old new old_size new_size) [
      | inl same ↦ absurd (other same.1)
      | inr differ ↦
          sym (list_draws_one row column old new (map (planned true row column new) (below (weight new)))
          differ.0 light refl)
          ∙ ap (λ n. map (planned true row column new) (below n)) (sym light)
          ∙ ap (λ i. i ∷ []) (sym is)
    ]
