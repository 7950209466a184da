-- The pack at each place of a program: a pack of a change, or an idle pack.
use Rattle.std.specs.Prelude.{◌≡◌, ℕ, ◌+◌, ◌-◌, ◌<◌, ◌≤◌, ◌⊎◌, List, [], length, slice_index_or}
use Rattle.cdg_instructions.specs.Instruction.{IsWritten}
use Rattle.cdg_instructions.specs.declared.instr.Instr.TheVariants.{Idle}
use Rattle.picture_script.specs.Script.{Drawing, pictures}
use Rattle.rw_code.specs.Packs.{idle_pack}
use Rattle.pack_schedule.specs.Schedule.{start_of}
use Rattle.pack_schedule.specs.PlannedChange.{planned_change}

-- the largest number of type u32: the count of packs saturates here
abbrev pub most_counted : ℕ
most_counted = 4294967295

-- a script, and the number of its packs so far
pub record Woven : Type 0 where
  pub script : List Drawing
  pub given : ℕ

-- Each change is finished, or has none of the next `packs` packs. The numbers of these packs are below 2^32.
pub record ArePassedBy (woven : Woven) (packs : ℕ) : Type 0 where
  pub fits : woven.given + packs ≤ most_counted
  pub apart : (k : ℕ) → k < pictures woven.script
      → (start_of woven.script k + length (planned_change woven.script k) ≤ woven.given)
      ⊎ (woven.given + packs ≤ start_of woven.script k)

-- Pack n is as planned. If it is in the planned change of a picture, it is the codeword of the instruction at the same
-- place of this change. If it is in no planned change, it is idle.
pub record IsPackAt (script : List Drawing) (n : ℕ) (pack : List ℕ) : Type 0 where
  pub changed : (k : ℕ) → k < pictures script → start_of script k ≤ n
      → n < start_of script k + length (planned_change script k) →
      IsWritten (slice_index_or (planned_change script k) (n - start_of script k) Idle) pack
  pub idle : ((k : ℕ) → k < pictures script
      → (n < start_of script k) ⊎ (start_of script k + length (planned_change script k) ≤ n))
      → pack ≡ idle_pack

-- The packs are those of the planned changes: `IsPackAt` is true for each pack n.
abbrev pub ArePacks : List Drawing → List (List ℕ) → Type 0
ArePacks script packs = (n : ℕ) → n < length packs → IsPackAt script n (slice_index_or packs n [])
