-- The file of a checkpoint, read back.
use Rattle.std.proofs.Common.{◌≡◌, ℕ, zero, suc, ◌+◌, ◌-◌, ◌*◌, ◌/◌, ◌%◌, ◌^◌, ◌<◌, ◌≤◌, List, [], ◌∷◌, ◌++◌, length, get_or, drop, refl, sym, ap, ap₂, ◌∙◌, arith, length-append, append_assoc}
use Rattle.std.specs.List.{flat_map, range_with_len}
use Rattle.std.proofs.lemmas.List.{drop-drop, drop_at, get_or-drop, get_or_append_left, get_or-append_right}
use Rattle.bit_lists.specs.Check.{check_of}
use Rattle.cdg_checkpoint.specs.Table.{Part, Mark, ToCome, LeadIn, Program, Bad, Slots, Memory, Border, Across, Down, Colours, Levels, row, body_parts, number_at}
use Rattle.cdg_checkpoint.specs.Checkpoint.{Checkpoint, written_value, bytes_of, part_bytes, body, file_of}

length-bytes_of : (size n : ℕ) → length (bytes_of size n) ≡ size
length-bytes_of zero n = refl
length-bytes_of (suc size) n = ap suc (length-bytes_of size n)

-- n fields of a part, from field a
fields : ℕ → (ℕ → ℕ) → ℕ → ℕ → List ℕ
fields size f a n = flat_map (λ k. bytes_of size (f k)) (range_with_len a n)

length-fields : (size : ℕ) (f : ℕ → ℕ) (n a : ℕ) → length (fields size f a n) ≡ size * n
unfolding fields
length-fields size f zero a = omega arith
length-fields size f (suc n) a =
    length-append (bytes_of size (f a)) (fields size f (a + 1) n)
    ∙ ap₂ (λ x y. x + y) (length-bytes_of size (f a)) (length-fields size f n (a + 1))
    ∙ grind arith

field_at : (size : ℕ) (f : ℕ → ℕ) (n a k i : ℕ) → k < n → i < size
    → get_or (fields size f a n) (size * k + i) 0 ≡ get_or (bytes_of size (f (a + k))) i 0
unfolding fields
field_at size f zero a k i lt within = absurd (omega (arith, lt))
field_at size f (suc n) a zero i lt within =
    let place : size * 0 + i ≡ i = omega arith in
    let here : a ≡ a + 0 = omega arith in
    ap (λ p. get_or (fields size f a (suc n)) p 0) place
    ∙ get_or_append_left (bytes_of size (f a)) (fields size f (a + 1) n) 0 i
    (omega (arith, within, length-bytes_of size (f a))) ∙ ap (λ j. get_or (bytes_of size (f j)) i 0) here
field_at size f (suc n) a (suc k) i lt within =
    let place : size * suc k + i - size ≡ size * k + i = grind arith in
    let past : size ≤ size * suc k + i = grind arith in
    let here : a + 1 + k ≡ a + suc k = omega arith in
    get_or-append_right (bytes_of size (f a)) (fields size f (a + 1) n) size (size * suc k + i) 0
    (length-bytes_of size (f a)) past
    ∙ ap (λ p. get_or (fields size f (a + 1) n) p 0) place
    ∙ field_at size f n (a + 1) k i (omega (arith, lt)) within
    ∙ ap (λ j. get_or (bytes_of size (f j)) i 0) here

-- the bytes of a file behind a part
pub step : (file part rest : List ℕ) (a n b : ℕ) → drop a file ≡ part ++ rest → length part ≡ n → a + n ≡ b
    → drop b file ≡ rest
step file part rest a n b at size e =
    ap (λ k. drop k file) (sym e) ∙ sym (drop-drop n a file) ∙ ap (drop n) at ∙ drop_at part rest n size

pub part_byte : (c : Checkpoint) (part : Part) (file rest : List ℕ) (k i count : ℕ) → count ≡ (row part).count
    → drop (row part).first file ≡ part_bytes c part ++ rest → k < count → i < (row part).size
    → get_or file ((row part).first + ((row part).size * k + i)) 0
    ≡ get_or (bytes_of (row part).size (written_value c part k)) i 0
unfolding part_bytes fields
part_byte c part file rest k i count e at lt within =
    let size : length (fields (row part).size (written_value c part) 0 count) ≡ (row part).size * count =
    length-fields (row part).size (written_value c part) count 0 in
    let fits : (row part).size * k + i < (row part).size * count = grind arith in
    let same : fields (row part).size (written_value c part) 0 count ≡ part_bytes c part =
    ap (fields (row part).size (written_value c part) 0) e in
    let here : 0 + k ≡ k = omega arith in
    sym (get_or-drop (row part).first file ((row part).size * k + i) 0)
    ∙ ap (λ (l : List ℕ). get_or l ((row part).size * k + i) 0)
    (at ∙ ap (λ (l : List ℕ). l ++ rest) (sym same))
    ∙ get_or_append_left (fields (row part).size (written_value c part) 0 count) rest 0
    ((row part).size * k + i) (omega (arith, fits, size))
    ∙ field_at (row part).size (written_value c part) count 0 k i lt within
    ∙ ap (λ j. get_or (bytes_of (row part).size (written_value c part j)) i 0) here

pub part_length : (c : Checkpoint) (part : Part) (n : ℕ) → n ≡ (row part).size * (row part).count
    → length (part_bytes c part) ≡ n
unfolding part_bytes fields
part_length c part n e = length-fields (row part).size (written_value c part) (row part).count 0 ∙ sym e

-- ---- where each part begins

-- the bytes from the first of these parts to the end
abbrev pub from_on : Checkpoint → List Part → List ℕ
from_on c rest = flat_map (part_bytes c) rest ++ bytes_of 2 (check_of (body c))

pub record BeginsAt (c : Checkpoint) (file : List ℕ) (first : ℕ) (late : List Part) : Type 0 where
  pub is : drop first file ≡ from_on c late

pub next_part : (c : Checkpoint) (file : List ℕ) (first n after : ℕ) (part : Part) (late : List Part)
    → BeginsAt c file first (part ∷ late)
    → n ≡ (row part).size * (row part).count → first + n ≡ after → BeginsAt c file after late
next_part c file first n after part late at size e = record {
  is = step file (part_bytes c part) (from_on c late) first n after
      (at.is
      ∙ append_assoc (part_bytes c part) (flat_map (part_bytes c) late) (bytes_of 2 (check_of (body c))))
      (part_length c part n size) e;
}

pub length-parts : (c : Checkpoint) (parts : List Part) (n : ℕ) → length (flat_map (part_bytes c) parts) ≡ n
    → (part : Part) (m : ℕ)
    → m ≡ (row part).size * (row part).count → length (flat_map (part_bytes c) (part ∷ parts)) ≡ m + n
length-parts c parts n size part m e =
    length-append (part_bytes c part) (flat_map (part_bytes c) parts)
    ∙ ap₂ (λ a b. a + b) (part_length c part m e) size

pub length-file : (c : Checkpoint) → length (file_of c) ≡ 65045
unfolding file_of
length-file c =
    let levels = length-parts c [] 0 refl Levels 16 refl in
    let colours = length-parts c (Levels ∷ []) 16 levels Colours 32 refl in
    let down = length-parts c (Colours ∷ Levels ∷ []) 48 colours Down 1 refl in
    let across = length-parts c (Down ∷ Colours ∷ Levels ∷ []) 49 down Across 1 refl in
    let border = length-parts c (Across ∷ Down ∷ Colours ∷ Levels ∷ []) 50 across Border 1 refl in
    let memory =
    length-parts c (Border ∷ Across ∷ Down ∷ Colours ∷ Levels ∷ []) 51 border Memory 64800 refl in
    let slots =
    length-parts c (Memory ∷ Border ∷ Across ∷ Down ∷ Colours ∷ Levels ∷ []) 64851 memory Slots 168 refl in
    let bad =
    length-parts c (Slots ∷ Memory ∷ Border ∷ Across ∷ Down ∷ Colours ∷ Levels ∷ []) 65019 slots Bad 4 refl in
    let program =
    length-parts c (Bad ∷ Slots ∷ Memory ∷ Border ∷ Across ∷ Down ∷ Colours ∷ Levels ∷ []) 65023 bad Program 4
    refl in
    let lead_in =
    length-parts c (Program ∷ Bad ∷ Slots ∷ Memory ∷ Border ∷ Across ∷ Down ∷ Colours ∷ Levels ∷ []) 65027
    program LeadIn 4 refl in
    let to_come =
    length-parts c (LeadIn ∷ Program ∷ Bad ∷ Slots ∷ Memory ∷ Border ∷ Across ∷ Down ∷ Colours ∷ Levels ∷ [])
    65031 lead_in ToCome 4 refl in
    let mark_ =
    length-parts c
    (ToCome ∷ LeadIn ∷ Program ∷ Bad ∷ Slots ∷ Memory ∷ Border ∷ Across ∷ Down ∷ Colours ∷ Levels ∷ []) 65035
    to_come Mark 8 refl in
    length-append (body c) (bytes_of 2 (check_of (body c)))
    ∙ ap₂ (λ a b. a + b) mark_ (length-bytes_of 2 (check_of (body c)))

-- ---- the numbers that are read

pub begins : (c : Checkpoint) → BeginsAt c (file_of c) 0 body_parts
unfolding file_of
begins c = record { is = refl }

pub at_to_come : (c : Checkpoint)
    → BeginsAt c (file_of c) 8
    (ToCome ∷ LeadIn ∷ Program ∷ Bad ∷ Slots ∷ Memory ∷ Border ∷ Across ∷ Down ∷ Colours ∷ Levels ∷ [])
at_to_come c = next_part c (file_of c) 0 8 8 Mark _ (begins c) refl refl

pub at_lead_in : (c : Checkpoint)
    → BeginsAt c (file_of c) 12
    (LeadIn ∷ Program ∷ Bad ∷ Slots ∷ Memory ∷ Border ∷ Across ∷ Down ∷ Colours ∷ Levels ∷ [])
at_lead_in c = next_part c (file_of c) 8 4 12 ToCome _ (at_to_come c) refl refl

pub at_program : (c : Checkpoint)
    → BeginsAt c (file_of c) 16
    (Program ∷ Bad ∷ Slots ∷ Memory ∷ Border ∷ Across ∷ Down ∷ Colours ∷ Levels ∷ [])
at_program c = next_part c (file_of c) 12 4 16 LeadIn _ (at_lead_in c) refl refl

pub at_bad : (c : Checkpoint)
    → BeginsAt c (file_of c) 20 (Bad ∷ Slots ∷ Memory ∷ Border ∷ Across ∷ Down ∷ Colours ∷ Levels ∷ [])
at_bad c = next_part c (file_of c) 16 4 20 Program _ (at_program c) refl refl

pub at_slots : (c : Checkpoint)
    → BeginsAt c (file_of c) 24 (Slots ∷ Memory ∷ Border ∷ Across ∷ Down ∷ Colours ∷ Levels ∷ [])
at_slots c = next_part c (file_of c) 20 4 24 Bad _ (at_bad c) refl refl

pub at_memory : (c : Checkpoint)
    → BeginsAt c (file_of c) 192 (Memory ∷ Border ∷ Across ∷ Down ∷ Colours ∷ Levels ∷ [])
at_memory c = next_part c (file_of c) 24 168 192 Slots _ (at_slots c) refl refl

pub at_border : (c : Checkpoint)
    → BeginsAt c (file_of c) 64992 (Border ∷ Across ∷ Down ∷ Colours ∷ Levels ∷ [])
at_border c = next_part c (file_of c) 192 64800 64992 Memory _ (at_memory c) refl refl

pub at_across : (c : Checkpoint) → BeginsAt c (file_of c) 64993 (Across ∷ Down ∷ Colours ∷ Levels ∷ [])
at_across c = next_part c (file_of c) 64992 1 64993 Border _ (at_border c) refl refl

pub at_down : (c : Checkpoint) → BeginsAt c (file_of c) 64994 (Down ∷ Colours ∷ Levels ∷ [])
at_down c = next_part c (file_of c) 64993 1 64994 Across _ (at_across c) refl refl

pub at_colours : (c : Checkpoint) → BeginsAt c (file_of c) 64995 (Colours ∷ Levels ∷ [])
at_colours c = next_part c (file_of c) 64994 1 64995 Down _ (at_down c) refl refl

pub at_levels : (c : Checkpoint) → BeginsAt c (file_of c) 65027 (Levels ∷ [])
at_levels c = next_part c (file_of c) 64995 32 65027 Colours _ (at_colours c) refl refl

pub byte_in : (c : Checkpoint) (part : Part) (late : List Part) (k i count at : ℕ)
    → BeginsAt c (file_of c) (row part).first (part ∷ late)
    → count ≡ (row part).count → k < count → i < (row part).size
    → (row part).first + ((row part).size * k + i) ≡ at
    → get_or (file_of c) at 0 ≡ get_or (bytes_of (row part).size (written_value c part k)) i 0
byte_in c part late k i count at b e lt within place =
    ap (λ p. get_or (file_of c) p 0) (sym place)
    ∙ part_byte c part (file_of c) (from_on c late) k i count e
    (b.is ∙ append_assoc (part_bytes c part) (flat_map (part_bytes c) late) (bytes_of 2 (check_of (body c))))
    lt within

-- a part of single bytes
pub byte_read : (c : Checkpoint) (part : Part) (late : List Part) (k first count : ℕ) → (row part).size ≡ 1
    → BeginsAt c (file_of c) (row part).first (part ∷ late) → first ≡ (row part).first
    → count ≡ (row part).count → k < count
    → number_at (file_of c) 1 (first + 1 * k) ≡ written_value c part k % 256
byte_read c part late k first count one b f e lt =
    let there =
    byte_in c part late k 0 count (first + 1 * k) b e lt (omega (arith, one))
    (ap₂ (λ x s. x + (s * k + 0)) (sym f) one ∙ omega arith) in
    let byte : get_or (bytes_of (row part).size (written_value c part k)) 0 0
    ≡ written_value c part k / 1 % 256 =
    ap (λ s. get_or (bytes_of s (written_value c part k)) 0 0) one in
    omega (arith, there, byte)

-- a number of four bytes
pub four_read : (c : Checkpoint) (part : Part) (late : List Part) (first : ℕ) → (row part).size ≡ 4
    → (row part).count ≡ 1
    → BeginsAt c (file_of c) (row part).first (part ∷ late) → first ≡ (row part).first
    → written_value c part 0 < 2 ^ 32
    → number_at (file_of c) 4 first ≡ written_value c part 0
four_read c part late first four one b f lt =
    let spot : (i at : ℕ) → i < 4 → first + i ≡ at
    → get_or (file_of c) at 0 ≡ get_or (bytes_of 4 (written_value c part 0)) i 0 =
    λ i at within place. byte_in c part late 0 i 1 at b (sym one) (omega arith) (omega (arith, four, within))
    (ap₂ (λ x s. x + (s * 0 + i)) (sym f) four ∙ omega (arith, place))
    ∙ ap (λ s. get_or (bytes_of s (written_value c part 0)) i 0) four in
    let a0 = spot 0 first (omega arith) (omega arith) in
    let a1 = spot 1 (first + 1) (omega arith) refl in
    let a2 = spot 2 (first + 1 + 1) (omega arith) (omega arith) in
    let a3 = spot 3 (first + 1 + 1 + 1) (omega arith) (omega arith) in
    omega (arith, a0, a1, a2, a3, lt)
