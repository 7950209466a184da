-- The file of a checkpoint is accepted, and the checkpoint in it is the same.
use Rattle.std.proofs.Common.{◌≡◌, ℕ, ◌+◌, ◌*◌, ◌/◌, ◌%◌, ◌^◌, ◌<◌, List, [], ◌∷◌, ◌++◌, length, get_or, take, drop, refl, sym, ap, ap₂, ◌∙◌, subst, arith, length-append, append_assoc, inl, inr}
use Rattle.std.specs.List.{flat_map, AllByRecursion}
use Rattle.std.proofs.lemmas.Bool.Decides.{leb_tells}
use Rattle.std.proofs.lemmas.List.{get_or-drop, take_at}
use Rattle.std.proofs.Math.ListN.{get_or-eq_default}
use Rattle.bit_lists.specs.Bits.{number_of, bits_of_bytes}
use Rattle.bit_lists.specs.Check.{check_of, check_bits}
use Rattle.bit_lists.proofs.BitsLemmas.{number_of-lt}
use Rattle.bit_lists.proofs.Checks.{length-check_bits}
use Rattle.std.specs.Prelude.{slice_index}
use Rattle.cdg_screen.specs.Standing.{pixel_at, standing_after}
use Rattle.cdg_screen.proofs.Lists.{rows_same, sixteen_same}
use Rattle.cdg_checkpoint.specs.Table.{Part, Mark, ToCome, LeadIn, Program, Bad, Slots, Memory, Border, Across, Down, Colours, Levels, Check, row, all_parts, number, number_at, mark, IsPartInRange, IsCheckpointFile}
use Rattle.cdg_checkpoint.specs.Checkpoint.{Checkpoint, written_value, bytes_of, part_bytes, body, file_of, checkpoint_in, standing_in, IsSoundCheckpoint}
use Rattle.cdg_checkpoint.proofs.Writing.{slots_written}
use Rattle.cdg_checkpoint.proofs.ReadBack.{BeginsAt, from_on, begins, next_part, byte_in, byte_read, four_read, length-file, at_to_come, at_lead_in, at_program, at_bad, at_slots, at_memory, at_border, at_across, at_down, at_colours, at_levels}

-- ---- the mark

mark_byte : (c : Checkpoint) (i : ℕ) → i < 8 → get_or (file_of c) i 0 ≡ get_or (bytes_of 8 mark) i 0
mark_byte c i lt = byte_in c Mark _ 0 i 1 i (begins c) refl (omega arith) lt (omega arith)

mark_read : (c : Checkpoint) → number (file_of c) Mark 0 ≡ mark
mark_read c =
    let b0 : get_or (file_of c) 0 0 ≡ 67 = mark_byte c 0 (omega arith) in
    let b1 : get_or (file_of c) 1 0 ≡ 68 = mark_byte c 1 (omega arith) in
    let b2 : get_or (file_of c) 2 0 ≡ 71 = mark_byte c 2 (omega arith) in
    let b3 : get_or (file_of c) 3 0 ≡ 83 = mark_byte c 3 (omega arith) in
    let b4 : get_or (file_of c) 4 0 ≡ 65 = mark_byte c 4 (omega arith) in
    let b5 : get_or (file_of c) 5 0 ≡ 86 = mark_byte c 5 (omega arith) in
    let b6 : get_or (file_of c) 6 0 ≡ 69 = mark_byte c 6 (omega arith) in
    let b7 : get_or (file_of c) 7 0 ≡ 49 = mark_byte c 7 (omega arith) in
    rw (b0, b1, b2, b3, b4, b5, b6, b7) refl

-- ---- single bytes and pairs of them

-- a part of single bytes that are below 256
byte_is : (c : Checkpoint) (part : Part) (late : List Part) (k first count : ℕ) → (row part).size ≡ 1
    → BeginsAt c (file_of c) (row part).first (part ∷ late) → first ≡ (row part).first
    → count ≡ (row part).count → k < count
    → written_value c part k < 256
    → number_at (file_of c) 1 (first + 1 * k) ≡ written_value c part k
byte_is c part late k first count one b f e lt small =
    omega (arith, byte_read c part late k first count one b f e lt, small)

colour_read : (c : Checkpoint) (k : ℕ) → k < 16 → slice_index c.standing.colours k < 65536
    → number (file_of c) Colours k ≡ slice_index c.standing.colours k
colour_read c k lt small =
    let high : get_or (file_of c) (64995 + 2 * k) 0 ≡ slice_index c.standing.colours k / 256 % 256 =
    byte_in c Colours _ k 0 16 (64995 + 2 * k) (at_colours c) refl lt (omega arith) (omega arith) in
    let low : get_or (file_of c) (64995 + 2 * k + 1) 0 ≡ slice_index c.standing.colours k / 1 % 256 =
    byte_in c Colours _ k 1 16 (64995 + 2 * k + 1)
    (at_colours c) refl lt (omega arith) (omega arith) in
    omega (arith, high, low, small)

-- ---- the check

check_small : (bytes : List ℕ) → check_of bytes < 65536
unfolding check_of
check_small bytes =
    let lt : number_of (check_bits (bits_of_bytes bytes)) < 2 ^ length (check_bits (bits_of_bytes bytes)) =
    number_of-lt (check_bits (bits_of_bytes bytes)) in
    subst (λ (n : ℕ). number_of (check_bits (bits_of_bytes bytes)) < 2 ^ n)
    (length-check_bits (bits_of_bytes bytes)) lt

at_check : (c : Checkpoint) → BeginsAt c (file_of c) 65043 []
at_check c = next_part c (file_of c) 65027 16 65043 Levels [] (at_levels c) refl refl

length-body : (c : Checkpoint) → length (body c) ≡ 65043
unfolding file_of
length-body c =
    let whole : length (body c ++ bytes_of 2 (check_of (body c))) ≡ 65045 = length-file c in
    let two : length (bytes_of 2 (check_of (body c))) ≡ 2 = refl in
    omega (arith, whole, two, length-append (body c) (bytes_of 2 (check_of (body c))))

body_taken : (c : Checkpoint) → take 65043 (file_of c) ≡ body c
unfolding file_of
body_taken c = take_at (body c) (bytes_of 2 (check_of (body c))) 65043 (length-body c)

check_byte : (c : Checkpoint) (i at : ℕ) → 65043 + i ≡ at
    → get_or (file_of c) at 0 ≡ get_or (bytes_of 2 (check_of (body c))) i 0
check_byte c i at e =
    ap (λ p. get_or (file_of c) p 0) (sym e)
    ∙ sym (get_or-drop 65043 (file_of c) i 0)
    ∙ ap (λ (l : List ℕ). get_or l i 0) (at_check c).is

check_read : (c : Checkpoint) → number (file_of c) Check 0 ≡ check_of (take 65043 (file_of c))
check_read c =
    let high : get_or (file_of c) 65043 0 ≡ check_of (body c) / 256 % 256 =
    check_byte c 0 65043 (omega arith) in
    let low : get_or (file_of c) 65044 0 ≡ check_of (body c) / 1 % 256 = check_byte c 1 65044 (omega arith) in
    let read : number (file_of c) Check 0 ≡ check_of (body c) =
    omega (arith, high, low, check_small (body c)) in
    read ∙ ap check_of (sym (body_taken c))

-- ---- a sound checkpoint

module _ (c : Checkpoint) (sound : IsSoundCheckpoint c) where
  abbrev file : List ℕ
  file = file_of c

  to_come_read : number file ToCome 0 ≡ c.to_come
  to_come_read = four_read c ToCome _ 8 refl refl (at_to_come c) refl (omega (arith, sound.lead_in))

  lead_in_read : number file LeadIn 0 ≡ c.lead_in
  lead_in_read = four_read c LeadIn _ 12 refl refl (at_lead_in c) refl (omega (arith, sound.lead_in))

  program_read : number file Program 0 ≡ c.program
  program_read = four_read c Program _ 16 refl refl (at_program c) refl (omega (arith, sound.blocks))

  bad_read : number file Bad 0 ≡ c.bad
  bad_read = four_read c Bad _ 20 refl refl (at_bad c) refl (omega (arith, sound.bad, sound.blocks))

  slot_read : (k : ℕ) → k < 168 → number file Slots k ≡ get_or c.slots k 0
  slot_read k lt =
      byte_is c Slots _ k 24 168 refl (at_slots c) refl refl lt (omega (arith, sound.slots_below k lt))

  pixel_small : (k : ℕ) → k < 64800 → pixel_at c.standing.memory (k % 300) (k / 300) < 16
  pixel_small k lt = sound.standing.memory (k % 300) (k / 300) (omega arith) (omega (arith, lt))

  memory_read : (k : ℕ) → k < 64800 → number file Memory k ≡ pixel_at c.standing.memory (k % 300) (k / 300)
  memory_read k lt =
      byte_is c Memory _ k 192 64800 refl (at_memory c) refl refl lt (omega (arith, pixel_small k lt))

  border_read : (k : ℕ) → k < 1 → number file Border k ≡ c.standing.border
  border_read k lt =
      byte_is c Border _ k 64992 1 refl (at_border c) refl refl lt (omega (arith, sound.standing.border))

  across_read : (k : ℕ) → k < 1 → number file Across k ≡ c.standing.h
  across_read k lt =
      byte_is c Across _ k 64993 1 refl (at_across c) refl refl lt (omega (arith, sound.standing.h))

  down_read : (k : ℕ) → k < 1 → number file Down k ≡ c.standing.v
  down_read k lt = byte_is c Down _ k 64994 1 refl (at_down c) refl refl lt (omega (arith, sound.standing.v))

  colours_read : (k : ℕ) → k < 16 → number file Colours k ≡ slice_index c.standing.colours k
  colours_read k lt = colour_read c k lt (omega (arith, sound.standing.colour k lt))

  levels_read : (k : ℕ) → k < 16 → number file Levels k ≡ slice_index c.standing.levels k
  levels_read k lt =
      byte_is c Levels _ k 65027 16 refl (at_levels c) refl refl lt (omega (arith, sound.standing.level k lt))

  slots_in_range : IsPartInRange file Slots
  slots_in_range k lt = (
    omega (arith, slot_read k lt, sound.slots_below k lt),
    λ before. slot_read k lt ∙ sound.slots_empty k (omega (arith, before, program_read)),
  )

  program_in_range : IsPartInRange file Program
  program_in_range k lt = (
    omega (arith, lead_in_read, program_read, sound.blocks),
    λ some. program_read ∙ sound.none_yet (omega (arith, some, to_come_read)),
  )

  ranges : AllByRecursion (IsPartInRange file) all_parts
  ranges = (
    λ k lt. mark_read c,
    (
      λ k lt. omega (arith, to_come_read, sound.lead_in),
      (
        λ k lt. omega (arith, to_come_read, lead_in_read, sound.lead_in),
        (
          program_in_range,
          (
            λ k lt. omega (arith, bad_read, program_read, sound.bad),
            (
              slots_in_range,
              (
                λ k lt. omega (arith, memory_read k lt, pixel_small k lt),
                (
                  λ k lt. omega (arith, border_read k lt, sound.standing.border),
                  (
                    λ k lt. omega (arith, across_read k lt, sound.standing.h),
                    (
                      λ k lt. omega (arith, down_read k lt, sound.standing.v),
                      (
                        λ k lt. omega (arith, colours_read k lt, sound.standing.colour k lt),
                        (
                          λ k lt. omega (arith, levels_read k lt, sound.standing.level k lt),
                          (λ k lt. check_read c, tt),
                        ),
                      ),
                    ),
                  ),
                ),
              ),
            ),
          ),
        ),
      ),
    ),
  )

  pub accepted : IsCheckpointFile file
  accepted = record { size = length-file c; ranges = ranges }

  byte_small : (i : ℕ) → get_or c.slots i 0 < 256
  byte_small i = elim (leb_tells 168 i) [
    | inl past ↦ let none : get_or c.slots i 0 ≡ 0 =
        get_or-eq_default c.slots 0 (omega (arith, past.1, sound.slots_size)) in
        omega (arith, none)
    | inr before ↦ let lt : i < 168 = omega (arith, before.1) in omega (arith, sound.slots_below i lt)
  ]

  slots_read : take 168 (drop 24 file) ≡ c.slots
  slots_read =
      let is : part_bytes c Slots ≡ c.slots = slots_written c 168 refl sound.slots_size byte_small in
      let late : List ℕ = from_on c (Memory ∷ Border ∷ Across ∷ Down ∷ Colours ∷ Levels ∷ []) in
      let at : drop 24 file ≡ part_bytes c Slots ++ late = (at_slots c).is
      ∙ append_assoc (part_bytes c Slots)
      (flat_map (part_bytes c) (Memory ∷ Border ∷ Across ∷ Down ∷ Colours ∷ Levels ∷ []))
      (bytes_of 2 (check_of (body c))) in
      ap (take 168) at ∙ take_at (part_bytes c Slots) late 168 (ap length is ∙ sound.slots_size) ∙ is

  pixel_read : (x y : ℕ) → x < 300 → y < 216
      → number file Memory (300 * y + x) ≡ pixel_at c.standing.memory x y
  pixel_read x y x_lt y_lt =
      let across : (300 * y + x) % 300 ≡ x = omega (arith, x_lt) in
      let down : (300 * y + x) / 300 ≡ y = omega (arith, x_lt) in
      memory_read (300 * y + x) (omega (arith, x_lt, y_lt)) ∙ ap₂ (pixel_at c.standing.memory) across down

  standing_read : standing_in file ≡ c.standing
  standing_read =
      let memory =
      rows_same (λ x y. number file Memory (300 * y + x)) (pixel_at c.standing.memory) pixel_read in
      let border = border_read 0 (omega arith) in
      let colours = sixteen_same (number file Colours) (slice_index c.standing.colours) colours_read in
      let levels = sixteen_same (number file Levels) (slice_index c.standing.levels) levels_read in
      let across = across_read 0 (omega arith) in
      let down = down_read 0 (omega arith) in
      let same : standing_in file ≡ standing_after c.standing [] =
      λ i. record {
        memory = memory i;
        border = border i;
        colours = colours i;
        levels = levels i;
        h = across i;
        v = down i;
      } in
      same ∙ sound.standing.whole

  pub same : checkpoint_in file ≡ c
  same = λ i. record {
    to_come = to_come_read i;
    lead_in = lead_in_read i;
    program = program_read i;
    bad = bad_read i;
    slots = slots_read i;
    standing = standing_read i;
  }
