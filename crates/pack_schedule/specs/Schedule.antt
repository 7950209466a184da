-- When the packs of a change are sent, so that each picture is shown from its ready time to its hold time.
use Rattle.std.specs.Prelude.{◌≡◌, ℕ, zero, suc, ◌+◌, ◌-◌, ◌*◌, ◌<◌, ◌≤◌, ◌⊎◌, List, [], length, slice_index_or}
use Rattle.raw_subcode.specs.Sizes.{slots_a_block}
use Rattle.rw_interleave.specs.Interleave.{packs_kept_back, whole_packs}
use Rattle.rw_code.specs.Packs.{idle_pack}
use Rattle.cdg_instructions.specs.Instruction.{IsWritten}
use Rattle.picture_script.specs.Script.{Drawing, pictures, ready_time, hold_time}
use Rattle.pack_schedule.specs.Brings.{IsChange, IsNeed}
use Rattle.pack_schedule.specs.Change.{IsOrderedChange}
use Rattle.cdg_instructions.specs.declared.instr.Instr.{Instr}
use Rattle.cdg_instructions.specs.declared.instr.Instr.TheVariants.{Idle}

-- the number of the first free pack of picture k. For k > 0, this pack is not complete at the hold time of picture k - 1,
-- but all packs before it are.
abbrev pub start_of : List Drawing → ℕ → ℕ
start_of script zero = 0
start_of script (suc k) = whole_packs (hold_time script k)

-- If a list of `need` packs begins at the first free pack of picture k, it is complete at the ready time of the picture.
abbrev pub IsInTime : List Drawing → ℕ → ℕ → Type 0
IsInTime script k need = start_of script k + need + packs_kept_back ≤ slots_a_block * ready_time script k

-- the number of packs that are free for picture k: those from its first free pack on that are complete at its ready time
abbrev pub free_packs : List Drawing → ℕ → ℕ
free_packs script k = whole_packs (ready_time script k) - start_of script k

-- Picture k can be complete at its ready time: the packs that it needs are complete then.
abbrev pub CanBeReady : List Drawing → ℕ → Type 0
CanBeReady script k = (need : ℕ) × IsNeed script k need × IsInTime script k need

-- For each picture, the packs contain a list of instructions for which `IsOne` is true. The list begins at the first free
-- pack of the picture (`start_of`) and is complete at the ready time of the picture. All other packs are idle. `blocks` is
-- the number of blocks in the program; no hold time is greater.
pub record IsScheduleOf (IsOne : List Drawing → ℕ → List Instr → Type 0) (script : List Drawing) (blocks : ℕ)
    (packs : List (List ℕ)) : Type 0 where
  pub count : length packs ≡ whole_packs blocks
  pub held : (k : ℕ) → k < pictures script → hold_time script k ≤ blocks
  pub changes : List (List Instr)
  pub change : (k : ℕ) → k < pictures script → IsOne script k (slice_index_or changes k [])
  pub fits : (k : ℕ) → k < pictures script → IsInTime script k (length (slice_index_or changes k []))
  pub written : (k j : ℕ) → k < pictures script → j < length (slice_index_or changes k []) →
      IsWritten (slice_index_or (slice_index_or changes k []) j Idle)
      (slice_index_or packs (start_of script k + j) [])
  pub others : (n : ℕ) → n < whole_packs blocks →
      ((k : ℕ) → k < pictures script
      → (n < start_of script k) ⊎ (start_of script k + length (slice_index_or changes k []) ≤ n)) →
      slice_index_or packs n [] ≡ idle_pack

-- The packs are a schedule of the script: they contain one change of each picture (`IsChange`). All other packs are idle.
abbrev pub IsSchedule : List Drawing → ℕ → List (List ℕ) → Type 0
IsSchedule script blocks packs = IsScheduleOf IsChange script blocks packs

-- The packs are a schedule of the script whose changes are ordered.
abbrev pub IsOrderedSchedule : List Drawing → ℕ → List (List ℕ) → Type 0
IsOrderedSchedule script blocks packs = IsScheduleOf IsOrderedChange script blocks packs

-- Picture k is the first late picture. It needs `need` packs, and `free` packs are free for it.
pub record IsLate (script : List Drawing) (k need free : ℕ) : Type 0 where
  pub picture : k < pictures script
  pub need_is : IsNeed script k need
  pub free_is : free ≡ free_packs script k
  pub late : ¬ IsInTime script k need
  pub before : (j : ℕ) → j < k → CanBeReady script j
