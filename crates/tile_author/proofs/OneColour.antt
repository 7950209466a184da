-- From a tile of one colour, the least number is the weight of the new tile, or 0 if it is the same tile.
use Rattle.std.proofs.Common.{◌≡◌, ◌≢◌, ℕ, zero, suc, ◌<◌, List, [], length, map, replicate, All, refl, sym, ap, ap₂, ◌∙◌, subst, inl, inr, bit_xor, arith}
use Rattle.std.specs.Prelude.{slice_index, max}
use Rattle.std.proofs.lemmas.List.{ext_get_or, length-map, get_or-map}
use Rattle.std.proofs.lemmas.List.Elements.{All-nil, All-cons}
use Rattle.cdg_instructions.specs.Instruction.{IsTilePixels}
use Rattle.cdg_instructions.specs.Drawing.{IsLeast}
use Rattle.tile_author.specs.Plan.{basis, basis_from, differences_from_first, weight, delta, steps}
use Rattle.tile_author.proofs.Combine.{both}
use Rattle.tile_author.proofs.Needed.{length-delta, delta_at, equal_decides}
use Rattle.tile_author.proofs.Shortest.{least}

length-replicate : (n c : ℕ) → length (replicate n c) ≡ n
length-replicate zero c = refl
length-replicate (suc n) c = ap suc (length-replicate n c)

at-replicate : (n c p : ℕ) → p < n → slice_index (replicate n c) p ≡ c
at-replicate zero c p h = absurd (omega arith)
at-replicate (suc n) c zero h = refl
at-replicate (suc n) c (suc p) h = at-replicate n c p (omega arith)

All-replicate : (P : ℕ → Type 0) (n c : ℕ) → P c → All P (replicate n c)
All-replicate P zero c h = All-nil P
All-replicate P (suc n) c h = All-cons P c (replicate n c) h (All-replicate P n c h)

pub one_colour : (c : ℕ) → c < 16 → IsTilePixels (replicate 72 c)
one_colour c h = record { count = length-replicate 72 c; below = All-replicate (λ n. n < 16) 72 c h }

same_differences : (c : ℕ) (new : List ℕ) → length new ≡ 72
    → differences_from_first (delta (replicate 72 c) new) ≡ differences_from_first new
unfolding differences_from_first
same_differences c new size =
    let old = replicate 72 c in
    let d = delta old new in
    let d_size = length-delta old new in
    let left_size = length-map d (bit_xor (slice_index d 0)) in
    let right_size = length-map new (bit_xor (slice_index new 0)) in
    let at : (p : ℕ) → p < 72 → slice_index d p ≡ bit_xor c (slice_index new p) =
    λ p p_lt. delta_at old new p p_lt ∙ ap (λ n. bit_xor n (slice_index new p)) (at-replicate 72 c p p_lt) in
    ext_get_or 0 (map (bit_xor (slice_index d 0)) d) (map (bit_xor (slice_index new 0)) new)
    (left_size ∙ d_size ∙ sym size ∙ sym right_size) (λ p p_lt.
    get_or-map (bit_xor (slice_index d 0)) d p 0 0 (omega arith)
    ∙ ap₂ bit_xor (at 0 (omega arith)) (at p (omega arith))
    ∙ both c (slice_index new 0) (slice_index new p)
    ∙ sym (get_or-map (bit_xor (slice_index new 0)) new p 0 0 (omega arith)))

same_weight : (c : ℕ) (new : List ℕ) → length new ≡ 72 → weight (delta (replicate 72 c) new) ≡ weight new
unfolding weight basis
same_weight c new size = ap (λ ds. max 1 (length (basis_from [] ds))) (same_differences c new size)

-- the least number from a tile of one colour
pub least_from_colour : (row column c : ℕ) (new : List ℕ) → row < 32 → column < 64 → c < 16 → IsTilePixels new
    → new ≢ replicate 72 c
    → IsLeast row column (replicate 72 c) new (weight new)
unfolding steps
least_from_colour row column c new row_lt column_lt c_lt tile differ =
    let old = replicate 72 c in
    let same = same_weight c new tile.count in
    let number : steps old new ≡ weight new =
    elim (equal_decides old new (one_colour c c_lt).count tile.count) [
      | inl equal ↦ absurd (differ (sym equal.1))
      | inr unequal ↦ rw unequal.0 (omega arith)
    ] in
    subst (IsLeast row column old new) number
    (least row column old new row_lt column_lt (one_colour c c_lt) tile)

pub least_same : (row column c : ℕ) → row < 32 → column < 64 → c < 16
    → IsLeast row column (replicate 72 c) (replicate 72 c) 0
unfolding steps
least_same row column c row_lt column_lt c_lt =
    let old = replicate 72 c in
    let tile = one_colour c c_lt in
    let number : steps old old ≡ 0 = elim (equal_decides old old tile.count tile.count) [
      | inl equal ↦ rw equal.0 refl
      | inr unequal ↦ absurd (unequal.1 refl)
    ] in
    subst (IsLeast row column old old) number (least row column old old row_lt column_lt tile tile)
