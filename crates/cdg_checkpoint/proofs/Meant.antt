-- The numbers in instructions of codewords are in their ranges, and so is the standing after them.
use Rattle.std.proofs.Common.{◌≡◌, ℕ, zero, suc, ◌+◌, ◌-◌, ◌*◌, ◌%◌, ◌<◌, ◌≤◌, Bool, true, false, cond, List, [], ◌∷◌, ◌++◌, length, get_or, map, take, drop, reverse, refl, sym, ap, ◌∙◌, subst, arith, lit<, Some, None, inl, inr}
use Rattle.std.specs.Prelude.{⊤, Option, nat_lt, ◌&&◌, slice_index}
use Rattle.std.specs.List.{AllByRecursion, range_with_len}
use Rattle.std.proofs.lemmas.Bool.{cases_Bool}
use Rattle.std.proofs.lemmas.Bool.Decides.{leb_tells, nat_tests}
use Rattle.std.proofs.lemmas.Nat.{xor_lt}
use Rattle.std.proofs.lemmas.List.{reverse-append, get_or-drop, get_or-take}
use Rattle.std.proofs.lemmas.List.Elements.{All-get_or}
use Rattle.std.proofs.lemmas.List.FromFn.{get_or-map-range_with_len}
use Rattle.std.proofs.Math.ListN.{get_or-eq_default}
use Rattle.rw_code.specs.Codeword.{IsCodeword}
use Rattle.rw_code.specs.Finding.{IsFinding}
use Rattle.cdg_instructions.specs.Drawing.{tile_colour}
use Rattle.cdg_instructions.specs.Instruction.{Means, IsTile, IsScroll, content_of, table_colour}
use Rattle.cdg_instructions.specs.declared.instr.Instr.{Instr}
use Rattle.cdg_instructions.specs.declared.instr.Instr.TheVariants.{Idle, Foreign, Unknown, MemoryPreset, BorderPreset, SetTile, XorTile, ScrollPreset, ScrollCopy, Transparency, ColoursLow, ColoursHigh}
use Rattle.cdg_screen.specs.Standing.{blank, pixel_at, memory_from, border_from, colour_from, level_from, offsets_from, standing_after, covers, source_x, source_y, is_inside}
use Rattle.cdg_screen.proofs.Lists.{number_of_sixteen, pixel_of_rows}
use Rattle.cdg_screen.proofs.Turns.{colour_after, level_after, pixel_after, same_colour, same_level, same_memory, whole_after}
use Rattle.cdg_checkpoint.specs.Checkpoint.{IsSoundStanding}
use Rattle.stream_stages.specs.Screen.{AreMeant}

-- ---- the numbers of a codeword

small_word : (word : List ℕ) → IsCodeword word → (k : ℕ) → get_or word k 0 < 64
small_word word is k = elim (leb_tells (length word) k) [
  | inl past ↦ let none : get_or word k 0 ≡ 0 = get_or-eq_default word 0 past.1 in omega (arith, none)
  | inr before ↦ All-get_or (λ symbol. symbol < 64) word k 0 (omega (arith, before.1)) is.is_word.symbols
]

abbrev IsSmallFound : Option (List ℕ) → Type 0
IsSmallFound (Some word) = (k : ℕ) → get_or word k 0 < 64
IsSmallFound None = ⊤

finding_small : (word : List ℕ) (found : Option (List ℕ)) → IsFinding word found → IsSmallFound found
finding_small word (Some codeword) h = small_word codeword h.is_codeword
finding_small word None h = tt

-- ---- the numbers of an instruction

abbrev pub IsSmall : Instr → Type 0
IsSmall (MemoryPreset colour repeat) = colour < 16
IsSmall (BorderPreset colour) = colour < 16
IsSmall (SetTile colour0 colour1 row column lines) = (colour0 < 16) × (colour1 < 16)
IsSmall (XorTile colour0 colour1 row column lines) = (colour0 < 16) × (colour1 < 16)
IsSmall (ScrollPreset colour across h down v) = (colour < 16) × (h ≤ 5) × (v ≤ 11)
IsSmall (ScrollCopy colour across h down v) = (colour < 16) × (h ≤ 5) × (v ≤ 11)
IsSmall (Transparency levels) = (k : ℕ) → k < 16 → get_or levels k 0 < 64
IsSmall (ColoursLow colours) = (k : ℕ) → k < 8 → get_or colours k 0 < 4096
IsSmall (ColoursHigh colours) = (k : ℕ) → k < 8 → get_or colours k 0 < 4096
IsSmall _ = ⊤

scroll_small : (word : List ℕ) (colour across h down v : ℕ) → IsScroll word colour across h down v
    → (colour < 16) × (h ≤ 5) × (v ≤ 11)
scroll_small word colour across h down v s =
    (omega (arith, s.colour_is), omega (arith, s.h_is), omega (arith, s.v_is))

tile_small : (word : List ℕ) (colour0 colour1 row column : ℕ) (lines : List ℕ)
    → IsTile word colour0 colour1 row column lines
    → (colour0 < 16) × (colour1 < 16)
tile_small word colour0 colour1 row column lines t =
    (omega (arith, t.colour0_is), omega (arith, t.colour1_is))

table_small : (word colours : List ℕ) → ((k : ℕ) → get_or word k 0 < 64)
    → colours ≡ map (table_colour word) (range_with_len 0 8) → (k : ℕ) → k < 8
    → get_or colours k 0 < 4096
table_small word colours small e k lt =
    let entry : get_or colours k 0 ≡ table_colour word k =
    ap (λ (l : List ℕ). get_or l k 0) e
    ∙ get_or-map-range_with_len (table_colour word) 0 8 k k 0 lt (omega arith) in
    omega (arith, entry, small (4 + 2 * k), small (4 + (2 * k + 1)))

levels_small : (word levels : List ℕ) → ((k : ℕ) → get_or word k 0 < 64) → levels ≡ content_of word → (k : ℕ)
    → k < 16
    → get_or levels k 0 < 64
levels_small word levels small e k lt =
    let entry : get_or levels k 0 ≡ get_or word (4 + k) 0 =
    ap (λ (l : List ℕ). get_or l k 0) e ∙ get_or-take 16 (drop 4 word) k 0 lt ∙ get_or-drop 4 word k 0 in
    omega (arith, entry, small (4 + k))

means_small : (word : List ℕ) (instr : Instr) → ((k : ℕ) → get_or word k 0 < 64) → Means word instr
    → IsSmall instr
means_small word Idle small m = tt
means_small word Foreign small m = tt
means_small word Unknown small m = tt
means_small word (MemoryPreset colour repeat) small m = omega (arith, m.1)
means_small word (BorderPreset colour) small m = omega (arith, m.1)
means_small word (SetTile colour0 colour1 row column lines) small m =
    tile_small word colour0 colour1 row column lines m.1
means_small word (XorTile colour0 colour1 row column lines) small m =
    tile_small word colour0 colour1 row column lines m.1
means_small word (ScrollPreset colour across h down v) small m = scroll_small word colour across h down v m.1
means_small word (ScrollCopy colour across h down v) small m = scroll_small word colour across h down v m.1
means_small word (Transparency levels) small m = levels_small word levels small m.1
means_small word (ColoursLow colours) small m = table_small word colours small m.1
means_small word (ColoursHigh colours) small m = table_small word colours small m.1

-- ---- all instructions of the words that are found

all_found : (found : List (Option (List ℕ)))
    → ((n : ℕ) → n < length found → IsSmallFound (get_or found n None))
    → AllByRecursion IsSmallFound found
all_found [] each = tt
all_found (x ∷ found) each =
    (each 0 (omega arith), all_found found (λ n lt. each (suc n) (omega (arith, lt))))

all_taken : (n : ℕ) (found : List (Option (List ℕ))) → AllByRecursion IsSmallFound found
    → AllByRecursion IsSmallFound (take n found)
all_taken zero found all = tt
all_taken (suc n) [] all = tt
all_taken (suc n) (x ∷ found) all = (all.0, all_taken n found all.1)

all_meant : (found : List (Option (List ℕ))) (instrs : List Instr) → AllByRecursion IsSmallFound found
    → AreMeant found instrs
    → AllByRecursion IsSmall instrs
all_meant [] [] all meant = tt
all_meant [] (x ∷ instrs) all meant = absurd (cc)
all_meant (None ∷ found) instrs all meant = all_meant found instrs all.1 meant
all_meant (Some word ∷ found) [] all meant = absurd meant
all_meant (Some word ∷ found) (x ∷ instrs) all meant =
    (means_small word x all.0 meant.0, all_meant found instrs all.1 meant.1)

pub meant_small : (found : List (Option (List ℕ))) (word : ℕ → List ℕ) (n : ℕ) (instrs : List Instr)
    → ((k : ℕ) → k < length found → IsFinding (word k) (get_or found k None)) → AreMeant (take n found) instrs
    → AllByRecursion IsSmall instrs
meant_small found word n instrs each meant =
    all_meant (take n found) instrs
    (all_taken n found (all_found found (λ k lt. finding_small (word k) (get_or found k None) (each k lt))))
    meant

-- ---- the standing after them

all_after : (xs ys : List Instr) → AllByRecursion IsSmall xs → AllByRecursion IsSmall ys
    → AllByRecursion IsSmall (xs ++ ys)
all_after [] ys a b = b
all_after (x ∷ xs) ys a b = (a.0, all_after xs ys a.1 b)

all_reversed : (xs : List Instr) → AllByRecursion IsSmall xs → AllByRecursion IsSmall (reverse xs)
all_reversed [] all = tt
all_reversed (x ∷ xs) all =
    subst (AllByRecursion IsSmall) (sym (reverse-append (x ∷ []) xs))
    (all_after (reverse xs) (x ∷ []) (all_reversed xs all.1) (all.0, tt))

either : (test : Bool) (bound m n : ℕ) → m < bound → n < bound → cond test m n < bound
either true bound m n f g = f
either false bound m n f g = g

tile_below : (colour0 colour1 : ℕ) (lines : List ℕ) (i j : ℕ) → colour0 < 16 → colour1 < 16
    → tile_colour colour0 colour1 lines i j < 16
tile_below colour0 colour1 lines i j a b = either _ 16 colour1 colour0 b a

memory_below : (before : List Instr) → AllByRecursion IsSmall before → (x y : ℕ)
    → memory_from (λ x y. 0) before x y < 16
memory_below [] all x y = lit< tt
memory_below (Idle ∷ before) all x y = memory_below before all.1 x y
memory_below (Foreign ∷ before) all x y = memory_below before all.1 x y
memory_below (Unknown ∷ before) all x y = memory_below before all.1 x y
memory_below (MemoryPreset colour repeat ∷ before) all x y = all.0
memory_below (BorderPreset colour ∷ before) all x y = memory_below before all.1 x y
memory_below (SetTile colour0 colour1 row column lines ∷ before) all x y =
    either (covers row column x y) 16 _ _ (tile_below colour0 colour1 lines (x % 6) (y % 12) all.0.0 all.0.1)
    (memory_below before all.1 x y)
memory_below (XorTile colour0 colour1 row column lines ∷ before) all x y =
    either (covers row column x y) 16 _ _ (xor_lt 4 (tile_colour colour0 colour1 lines (x % 6) (y % 12))
    (memory_from (λ x y. 0) before x y) (tile_below colour0 colour1 lines (x % 6) (y % 12) all.0.0 all.0.1)
    (memory_below before all.1 x y)) (memory_below before all.1 x y)
memory_below (ScrollPreset colour across h down v ∷ before) all x y =
    either (is_inside 300 (source_x across x) && is_inside 216 (source_y down y)) 16 _ _
    (memory_below before all.1 (source_x across x - 300) (source_y down y - 216)) all.0.0
memory_below (ScrollCopy colour across h down v ∷ before) all x y =
    memory_below before all.1 (source_x across x % 300) (source_y down y % 216)
memory_below (Transparency levels ∷ before) all x y = memory_below before all.1 x y
memory_below (ColoursLow colours ∷ before) all x y = memory_below before all.1 x y
memory_below (ColoursHigh colours ∷ before) all x y = memory_below before all.1 x y

border_below : (before : List Instr) → AllByRecursion IsSmall before → border_from 0 before < 16
border_below [] all = lit< tt
border_below (Idle ∷ before) all = border_below before all.1
border_below (Foreign ∷ before) all = border_below before all.1
border_below (Unknown ∷ before) all = border_below before all.1
border_below (MemoryPreset colour repeat ∷ before) all = border_below before all.1
border_below (BorderPreset colour ∷ before) all = all.0
border_below (SetTile colour0 colour1 row column lines ∷ before) all = border_below before all.1
border_below (XorTile colour0 colour1 row column lines ∷ before) all = border_below before all.1
border_below (ScrollPreset colour across h down v ∷ before) all = border_below before all.1
border_below (ScrollCopy colour across h down v ∷ before) all = border_below before all.1
border_below (Transparency levels ∷ before) all = border_below before all.1
border_below (ColoursLow colours ∷ before) all = border_below before all.1
border_below (ColoursHigh colours ∷ before) all = border_below before all.1

low_colour : (k : ℕ) → nat_lt k 8 ≡ true → k < 8
low_colour k low = grind (arith, nat_tests)

colour_below : (before : List Instr) → AllByRecursion IsSmall before → (k : ℕ) → k < 16
    → colour_from (λ k. 0) before k < 4096
colour_below [] all k lt = lit< tt
colour_below (Idle ∷ before) all k lt = colour_below before all.1 k lt
colour_below (Foreign ∷ before) all k lt = colour_below before all.1 k lt
colour_below (Unknown ∷ before) all k lt = colour_below before all.1 k lt
colour_below (MemoryPreset colour repeat ∷ before) all k lt = colour_below before all.1 k lt
colour_below (BorderPreset colour ∷ before) all k lt = colour_below before all.1 k lt
colour_below (SetTile colour0 colour1 row column lines ∷ before) all k lt = colour_below before all.1 k lt
colour_below (XorTile colour0 colour1 row column lines ∷ before) all k lt = colour_below before all.1 k lt
colour_below (ScrollPreset colour across h down v ∷ before) all k lt = colour_below before all.1 k lt
colour_below (ScrollCopy colour across h down v ∷ before) all k lt = colour_below before all.1 k lt
colour_below (Transparency levels ∷ before) all k lt = colour_below before all.1 k lt
colour_below (ColoursLow colours ∷ before) all k lt = elim (cases_Bool (nat_lt k 8)) [
  | inl low ↦ rw low (all.0 k (low_colour k low))
  | inr high ↦ rw high (colour_below before all.1 k lt)
]
colour_below (ColoursHigh colours ∷ before) all k lt = elim (cases_Bool (nat_lt k 8)) [
  | inl low ↦ rw low (colour_below before all.1 k lt)
  | inr high ↦ rw high (all.0 (k - 8) (omega (arith, lt)))
]

level_below : (before : List Instr) → AllByRecursion IsSmall before → (k : ℕ) → k < 16
    → level_from (λ k. 0) before k < 64
level_below [] all k lt = lit< tt
level_below (Idle ∷ before) all k lt = level_below before all.1 k lt
level_below (Foreign ∷ before) all k lt = level_below before all.1 k lt
level_below (Unknown ∷ before) all k lt = level_below before all.1 k lt
level_below (MemoryPreset colour repeat ∷ before) all k lt = level_below before all.1 k lt
level_below (BorderPreset colour ∷ before) all k lt = level_below before all.1 k lt
level_below (SetTile colour0 colour1 row column lines ∷ before) all k lt = level_below before all.1 k lt
level_below (XorTile colour0 colour1 row column lines ∷ before) all k lt = level_below before all.1 k lt
level_below (ScrollPreset colour across h down v ∷ before) all k lt = level_below before all.1 k lt
level_below (ScrollCopy colour across h down v ∷ before) all k lt = level_below before all.1 k lt
level_below (Transparency levels ∷ before) all k lt = all.0 k lt
level_below (ColoursLow colours ∷ before) all k lt = level_below before all.1 k lt
level_below (ColoursHigh colours ∷ before) all k lt = level_below before all.1 k lt

offsets_below : (before : List Instr) → AllByRecursion IsSmall before
    → ((offsets_from (0, 0) before).0 ≤ 5) × ((offsets_from (0, 0) before).1 ≤ 11)
offsets_below [] all = (omega arith, omega arith)
offsets_below (Idle ∷ before) all = offsets_below before all.1
offsets_below (Foreign ∷ before) all = offsets_below before all.1
offsets_below (Unknown ∷ before) all = offsets_below before all.1
offsets_below (MemoryPreset colour repeat ∷ before) all = offsets_below before all.1
offsets_below (BorderPreset colour ∷ before) all = offsets_below before all.1
offsets_below (SetTile colour0 colour1 row column lines ∷ before) all = offsets_below before all.1
offsets_below (XorTile colour0 colour1 row column lines ∷ before) all = offsets_below before all.1
offsets_below (ScrollPreset colour across h down v ∷ before) all = (all.0.1, all.0.2)
offsets_below (ScrollCopy colour across h down v ∷ before) all = (all.0.1, all.0.2)
offsets_below (Transparency levels ∷ before) all = offsets_below before all.1
offsets_below (ColoursLow colours ∷ before) all = offsets_below before all.1
offsets_below (ColoursHigh colours ∷ before) all = offsets_below before all.1

module _ (instrs : List Instr) (all : AllByRecursion IsSmall instrs) where
  last_first : AllByRecursion IsSmall (reverse instrs)
  last_first = all_reversed instrs all

  pub sound_after : IsSoundStanding (standing_after blank instrs)
  sound_after = record {
    whole = whole_after blank instrs;
    memory = λ x y x_lt y_lt.
        rw (
          pixel_after (standing_after blank instrs) blank instrs refl x y x_lt y_lt,
          same_memory (pixel_at blank.memory) (λ x y. 0) (pixel_of_rows (λ x y. 0)) (reverse instrs) x y x_lt
              y_lt,
        ) (memory_below (reverse instrs) last_first x y);
    border = border_below (reverse instrs) last_first;
    colour = λ k lt.
        rw (
          colour_after (standing_after blank instrs) blank instrs refl k lt,
          same_colour (slice_index blank.colours) (λ k. 0) (number_of_sixteen (λ k. 0)) (reverse instrs) k lt,
        ) (colour_below (reverse instrs) last_first k lt);
    level = λ k lt.
        rw (
          level_after (standing_after blank instrs) blank instrs refl k lt,
          same_level (slice_index blank.levels) (λ k. 0) (number_of_sixteen (λ k. 0)) (reverse instrs) k lt,
        ) (level_below (reverse instrs) last_first k lt);
    h = (offsets_below (reverse instrs) last_first).0;
    v = (offsets_below (reverse instrs) last_first).1;
  }
