-- The plan turns the old tile into the new one.
use Rattle.std.proofs.Common.{◌≡◌, ℕ, zero, suc, ◌+◌, ◌-◌, ◌*◌, ◌/◌, ◌<◌, Bool, true, false, List, [], ◌∷◌, length, map, reverse, refl, sym, ap, ap₂, ◌∙◌, inl, inr, bit_xor, arith}
use Rattle.std.specs.Prelude.{slice_index, ◌==◌, ◌&&◌, if◌then◌else◌, max}
use Rattle.std.specs.Int.{bit_at}
use Rattle.std.specs.Int.Bits.{xor_assoc, xor_self, xor_zero_r, xor_zero_l}
use Rattle.std.proofs.lemmas.Nat.{xor_comm}
use Rattle.std.proofs.lemmas.Nat.Bits.{bit_at-suc}
use Rattle.std.proofs.lemmas.List.{reverse-append, ext_get_or}
use Rattle.std.proofs.lemmas.List.FromFn.{map-range_with_len_more, length-map-range_with_len}
use Rattle.std.proofs.lemmas.Bool.Decides.{eqb_tells}
use Rattle.bit_lists.specs.Counting.{below}
use Rattle.bit_lists.specs.Bits.{has_bit}
use Rattle.cdg_instructions.specs.Drawing.{drawn_pixel, tile_from, tile_after}
use Rattle.cdg_instructions.specs.declared.instr.Instr.{Instr}
use Rattle.cdg_instructions.specs.declared.instr.Instr.TheVariants.{Idle, Foreign, Unknown, MemoryPreset, BorderPreset, SetTile, XorTile, ScrollPreset, ScrollCopy, Transparency, ColoursLow, ColoursHigh}
use Rattle.tile_author.proofs.Span.{Spans}
use Rattle.tile_author.specs.Plan.{is_combination, basis, selection, tile_lines, planned, weight, delta}
use Rattle.tile_author.proofs.Combine.{twice, swap, both}
use Rattle.tile_author.proofs.BasisLaws.{spans_decides, spans_difference}
use Rattle.tile_author.proofs.Lower.{at_below}
use Rattle.tile_author.proofs.Lines.{drawn_member}
use Rattle.tile_author.proofs.Needed.{length-delta, delta_at}

-- the combination of the selected ones of the first n members
unfoldable pub partial : List ℕ → ℕ → ℕ → ℕ
partial ms chosen zero = 0
partial ms chosen (suc n) = bit_xor (if has_bit n chosen then slice_index ms n else 0) (partial ms chosen n)

pub partial-first : (m : ℕ) (ms : List ℕ) (chosen n : ℕ)
    → partial (m ∷ ms) chosen (suc n)
    ≡ bit_xor (if has_bit 0 chosen then m else 0) (partial ms (chosen / 2) n)
unfolding partial
partial-first m ms chosen zero = refl
partial-first m ms chosen (suc n) =
    let first = if has_bit 0 chosen then m else 0 in
    let next = if has_bit n (chosen / 2) then slice_index ms n else 0 in
    ap₂ bit_xor (ap (λ k. if k == 1 then slice_index ms n else 0) (bit_at-suc chosen n))
    (partial-first m ms chosen n)
    ∙ swap next first (partial ms (chosen / 2) n)

even_bit : (n : ℕ) → has_bit 0 (2 * n) ≡ false
even_bit n = let e : bit_at (2 * n) 0 ≡ 0 = omega arith in ap (λ k. k == 1) e

odd_bit : (n : ℕ) → has_bit 0 (1 + 2 * n) ≡ true
odd_bit n = let e : bit_at (1 + 2 * n) 0 ≡ 1 = omega arith in ap (λ k. k == 1) e

pub selection_in : (m : ℕ) (ms : List ℕ) (d : ℕ) → is_combination ms d ≡ true
    → selection (m ∷ ms) d ≡ 2 * selection ms d
unfolding selection
selection_in m ms d h =
    ap (λ (b : Bool). if b then 2 * selection ms d else 1 + 2 * selection ms (bit_xor m d)) h

pub selection_out : (m : ℕ) (ms : List ℕ) (d : ℕ) → is_combination ms d ≡ false
    → selection (m ∷ ms) d ≡ 1 + 2 * selection ms (bit_xor m d)
unfolding selection
selection_out m ms d h =
    ap (λ (b : Bool). if b then 2 * selection ms d else 1 + 2 * selection ms (bit_xor m d)) h

without_first : (m : ℕ) (ms : List ℕ) (s d : ℕ) → partial ms s (length ms) ≡ d
    → partial (m ∷ ms) (2 * s) (suc (length ms)) ≡ d
without_first m ms s d h =
    let half : (2 * s) / 2 ≡ s = omega arith in
    partial-first m ms (2 * s) (length ms)
    ∙ ap₂ bit_xor (ap (λ (b : Bool). if b then m else 0) (even_bit s))
    (ap (λ n. partial ms n (length ms)) half ∙ h)
    ∙ xor_zero_l d

with_first : (m : ℕ) (ms : List ℕ) (s d : ℕ) → partial ms s (length ms) ≡ bit_xor m d
    → partial (m ∷ ms) (1 + 2 * s) (suc (length ms)) ≡ d
with_first m ms s d h =
    let half : (1 + 2 * s) / 2 ≡ s = omega arith in
    partial-first m ms (1 + 2 * s) (length ms)
    ∙ ap₂ bit_xor (ap (λ (b : Bool). if b then m else 0) (odd_bit s))
    (ap (λ n. partial ms n (length ms)) half ∙ h)
    ∙ twice m d

pub partial-selection : (ms : List ℕ) (d : ℕ) → Spans ms d → partial ms (selection ms d) (length ms) ≡ d
unfolding partial Spans
partial-selection [] d h = sym h
partial-selection (m ∷ ms) d h =
    elim (spans_decides ms d) [
      | inl holds ↦
          ap (λ n. partial (m ∷ ms) n (suc (length ms))) (selection_in m ms d holds.0)
          ∙ without_first m ms (selection ms d) d (partial-selection ms d holds.1)
      | inr fails ↦
          ap (λ n. partial (m ∷ ms) n (suc (length ms))) (selection_out m ms d fails.0)
          ∙ with_first m ms (selection ms (bit_xor m d)) d
          (partial-selection ms (bit_xor m d) (elim h [ inl x ↦ absurd (fails.1 x) | inr x ↦ x ]))
    ]

no_member : (b : Bool) → bit_xor (if b then 0 else 0) 0 ≡ 0
no_member true = refl
no_member false = refl

partial-at_least_one : (ms : List ℕ) (chosen : ℕ)
    → partial ms chosen (max 1 (length ms)) ≡ partial ms chosen (length ms)
unfolding partial
partial-at_least_one [] chosen = no_member (has_bit 0 chosen)
partial-at_least_one (m ∷ ms) chosen = let e : max 1 (suc (length ms)) ≡ suc (length ms) = omega arith in
    ap (partial (m ∷ ms) chosen) e

-- the combination of selected members is the difference of the pixel
pub partial-difference : (w : List ℕ) (p : ℕ) → length w ≡ 72 → p < 72
    → partial (basis w) (selection (basis w) (bit_xor (slice_index w 0) (slice_index w p))) (weight w)
    ≡ bit_xor (slice_index w 0) (slice_index w p)
unfolding weight
partial-difference w p size h =
    let d = bit_xor (slice_index w 0) (slice_index w p) in
    partial-at_least_one (basis w) (selection (basis w) d)
    ∙ partial-selection (basis w) d (spans_difference w p (omega arith))

-- the instructions so far, the last one first
so_far : Bool → ℕ → ℕ → List ℕ → ℕ → List Instr
so_far draws row column w n = reverse (map (planned draws row column w) (below n))

so_far-more : (draws : Bool) (row column : ℕ) (w : List ℕ) (n : ℕ)
    → so_far draws row column w (suc n) ≡ planned draws row column w n ∷ so_far draws row column w n
unfolding so_far
so_far-more draws row column w n =
    let f = planned draws row column w in
    let next : suc n ≡ n + 1 = omega arith in
    ap (λ k. reverse (map f (below k))) next
    ∙ ap reverse (map-range_with_len_more f 0 n n (omega arith))
    ∙ reverse-append (map f (below n)) (f n ∷ [])

-- the value at a pixel without the members
ground_of : Bool → List ℕ → List ℕ → ℕ → ℕ
ground_of draws old w p = if draws then slice_index w 0 else bit_xor (slice_index w 0) (slice_index old p)

first_choice : (b : Bool) (first m : ℕ)
    → (if b then bit_xor first m else first) ≡ bit_xor (bit_xor (if b then m else 0) 0) first
first_choice true first m = xor_comm first m ∙ ap (λ n. bit_xor n first) (sym (xor_zero_r m))
first_choice false first m = sym (xor_zero_l first)

later_choice : (b : Bool) (m : ℕ) → (if b then bit_xor 0 m else 0) ≡ (if b then m else 0)
later_choice true m = xor_zero_l m
later_choice false m = refl

-- an instruction, depending on whether it is the first one
formed : Bool → Bool → ℕ → ℕ → List ℕ → ℕ → Instr
formed draws is_first row column w j =
    let colour0 = if is_first then slice_index w 0 else 0 in
    let colour1 = bit_xor colour0 (slice_index (basis w) j) in
    let lines = tile_lines w j in
    if draws && is_first
    then SetTile colour0 colour1 row column lines
    else XorTile colour0 colour1 row column lines

formed_later : (draws : Bool) (row column : ℕ) (w : List ℕ) (j : ℕ)
    → formed draws false row column w j
    ≡ XorTile 0 (bit_xor 0 (slice_index (basis w) j)) row column (tile_lines w j)
unfolding formed
formed_later true row column w j = refl
formed_later false row column w j = refl

planned_later : (draws : Bool) (row column : ℕ) (w : List ℕ) (n : ℕ)
    → planned draws row column w (suc n)
    ≡ XorTile 0 (bit_xor 0 (slice_index (basis w) (suc n))) row column (tile_lines w (suc n))
unfolding planned formed
planned_later draws row column w n =
    let not_first : (suc n == 0) ≡ false =
    elim (eqb_tells (suc n) 0) [ inl same ↦ absurd (omega (arith, same.1)) | inr differ ↦ differ.0 ] in
    ap (λ b. formed draws b row column w (suc n)) not_first ∙ formed_later draws row column w (suc n)

weight_positive : (w : List ℕ) → weight w ≡ suc (weight w - 1)
unfolding weight
weight_positive w = omega arith

-- the value at a pixel after the first instructions
pixel_so_far : (draws : Bool) (row column : ℕ) (old w : List ℕ) (n p : ℕ) → length w ≡ 72 → p < 72
    → slice_index (tile_from old (so_far draws row column w (suc n))) p
    ≡ bit_xor (partial (basis w) (selection (basis w) (bit_xor (slice_index w 0) (slice_index w p))) (suc n))
    (ground_of draws old w p)
unfolding tile_from partial ground_of planned so_far
pixel_so_far true row column old w zero p size h =
    let first = slice_index w 0 in
    let m = slice_index (basis w) 0 in
    let chosen = selection (basis w) (bit_xor first (slice_index w p)) in
    ap (λ rs. slice_index (tile_from old rs) p) (so_far-more true row column w 0)
    ∙ at_below 72 p (drawn_pixel first (bit_xor first m) (tile_lines w 0)) 0 h
    ∙ drawn_member w 0 first (bit_xor first m) p size h
    ∙ first_choice (has_bit 0 chosen) first m
pixel_so_far false row column old w zero p size h =
    let first = slice_index w 0 in
    let m = slice_index (basis w) 0 in
    let chosen = selection (basis w) (bit_xor first (slice_index w p)) in
    ap (λ rs. slice_index (tile_from old rs) p) (so_far-more false row column w 0)
    ∙ at_below 72 p
    (λ q. bit_xor (drawn_pixel first (bit_xor first m) (tile_lines w 0) q) (slice_index old q)) 0 h
    ∙ ap (λ n. bit_xor n (slice_index old p))
    (drawn_member w 0 first (bit_xor first m) p size h ∙ first_choice (has_bit 0 chosen) first m)
    ∙ xor_assoc (bit_xor (if has_bit 0 chosen then m else 0) 0) first (slice_index old p)
pixel_so_far draws row column old w (suc n) p size h =
    let m = slice_index (basis w) (suc n) in
    let chosen = selection (basis w) (bit_xor (slice_index w 0) (slice_index w p)) in
    let before = so_far draws row column w (suc n) in
    ap (λ rs. slice_index (tile_from old rs) p)
    (so_far-more draws row column w (suc n) ∙ ap (λ i. i ∷ before) (planned_later draws row column w n))
    ∙ at_below 72 p (λ q.
    bit_xor (drawn_pixel 0 (bit_xor 0 m) (tile_lines w (suc n)) q) (slice_index (tile_from old before) q)) 0 h
    ∙ ap₂ bit_xor (drawn_member w (suc n) 0 (bit_xor 0 m) p size h ∙ later_choice (has_bit (suc n) chosen) m)
    (pixel_so_far draws row column old w n p size h)
    ∙ sym (xor_assoc (if has_bit (suc n) chosen then m else 0) (partial (basis w) chosen (suc n))
    (ground_of draws old w p))

length-tile_from : (old : List ℕ) (rs : List Instr) → length old ≡ 72 → length (tile_from old rs) ≡ 72
unfolding tile_from
length-tile_from old [] size = size
length-tile_from old (SetTile c0 c1 r c lines ∷ rs) size =
    length-map-range_with_len (drawn_pixel c0 c1 lines) 0 72
length-tile_from old (XorTile c0 c1 r c lines ∷ rs) size =
    length-map-range_with_len (λ p. bit_xor (drawn_pixel c0 c1 lines p) (slice_index (tile_from old rs) p)) 0
    72
length-tile_from old (Idle ∷ rs) size = length-tile_from old rs size
length-tile_from old (Foreign ∷ rs) size = length-tile_from old rs size
length-tile_from old (Unknown ∷ rs) size = length-tile_from old rs size
length-tile_from old (MemoryPreset a b ∷ rs) size = length-tile_from old rs size
length-tile_from old (BorderPreset a ∷ rs) size = length-tile_from old rs size
length-tile_from old (ScrollPreset a b c d e ∷ rs) size = length-tile_from old rs size
length-tile_from old (ScrollCopy a b c d e ∷ rs) size = length-tile_from old rs size
length-tile_from old (Transparency a ∷ rs) size = length-tile_from old rs size
length-tile_from old (ColoursLow a ∷ rs) size = length-tile_from old rs size
length-tile_from old (ColoursHigh a ∷ rs) size = length-tile_from old rs size

pixel_after : (draws : Bool) (row column : ℕ) (old w : List ℕ) (p : ℕ) → length w ≡ 72 → p < 72
    → slice_index (tile_after old (map (planned draws row column w) (below (weight w)))) p
    ≡ bit_xor (bit_xor (slice_index w 0) (slice_index w p)) (ground_of draws old w p)
unfolding so_far
pixel_after draws row column old w p size h =
    let n = weight w - 1 in
    let some : weight w ≡ suc n = weight_positive w in
    let chosen = selection (basis w) (bit_xor (slice_index w 0) (slice_index w p)) in
    ap (λ k. slice_index (tile_from old (so_far draws row column w k)) p) some
    ∙ pixel_so_far draws row column old w n p size h
    ∙ ap (λ k. bit_xor (partial (basis w) chosen k) (ground_of draws old w p)) (sym some)
    ∙ ap (λ k. bit_xor k (ground_of draws old w p)) (partial-difference w p size h)

-- drawing the new tile gives the new tile
pub drawn_new : (row column : ℕ) (old new : List ℕ) → length old ≡ 72 → length new ≡ 72
    → tile_after old (map (planned true row column new) (below (weight new))) ≡ new
unfolding ground_of
drawn_new row column old new old_size new_size =
    let after = map (planned true row column new) (below (weight new)) in
    let size = length-tile_from old (reverse after) old_size in
    let first = slice_index new 0 in
    ext_get_or 0 (tile_after old after) new (size ∙ sym new_size) (λ p p_lt.
    pixel_after true row column old new p new_size (omega arith)
    ∙ xor_comm (bit_xor first (slice_index new p)) first
    ∙ twice first (slice_index new p))

-- combining the old tile with the differences gives the new tile
pub combined_new : (row column : ℕ) (old new : List ℕ) → length old ≡ 72 → length new ≡ 72
    → tile_after old (map (planned false row column (delta old new)) (below (weight (delta old new)))) ≡ new
unfolding ground_of
combined_new row column old new old_size new_size =
    let d = delta old new in
    let after = map (planned false row column d) (below (weight d)) in
    let size = length-tile_from old (reverse after) old_size in
    ext_get_or 0 (tile_after old after) new (size ∙ sym new_size) (λ p p_lt.
    let o = slice_index old p in
    pixel_after false row column old d p (length-delta old new) (omega arith)
    ∙ both (slice_index d 0) (slice_index d p) o
    ∙ ap (λ n. bit_xor n o) (delta_at old new p (omega arith) ∙ xor_comm o (slice_index new p))
    ∙ xor_assoc (slice_index new p) o o
    ∙ ap (bit_xor (slice_index new p)) (xor_self o)
    ∙ xor_zero_r (slice_index new p))
