-- The changes of an accepted script end before the packs that the end of the stream cuts off.
use Rattle.std.proofs.Common.{◌≡◌, ℕ, ◌+◌, ◌-◌, ◌*◌, ◌<◌, ◌≤◌, List, length, replicate, inl, inr, arith}
use Rattle.std.proofs.lemmas.Bool.{cases_lt}
use Rattle.rw_interleave.specs.Interleave.{whole_packs}
use Rattle.picture_script.specs.Script.{Drawing, pictures, ready_time, hold_time}
use Rattle.pack_schedule.specs.Schedule.{start_of}
use Rattle.pack_schedule.specs.PlannedChange.{planned_change}
use Rattle.pack_schedule.specs.Survey.{IsPastEnd, IsWithin}
use Rattle.pack_schedule.specs.Woven.{IsPackAt}
use Rattle.pack_schedule.proofs.TimeOrder.{hold_order}
use Rattle.pack_schedule.specs.Shown.{AreTimesInOrder}
use Rattle.subcode_author.proofs.Prompt.{ArePrompt}

module _ (script : List Drawing) (blocks : ℕ) (order : AreTimesInOrder script) (ready : ArePrompt script)
    (end : ¬ IsPastEnd script blocks) where
  pub within : IsWithin script blocks
  within k lt = elim (cases_lt blocks (hold_time script (pictures script - 1))) [
    | inl past ↦ absurd (end (omega arith, past))
    | inr le ↦ omega
        (arith, hold_order script order k (pictures script - 1) (omega (arith, lt)) (omega (arith, lt)), le)
  ]

  pub change_ends : (k : ℕ) → k < pictures script
      → start_of script k + length (planned_change script k) + 7 ≤ 4 * blocks
  change_ends k lt =
      let in_time : start_of script k + length (planned_change script k) + 7 ≤ 4 * ready_time script k =
      ready k lt in
      let held : ready_time script k ≤ hold_time script k = order.held k lt in
      let last : hold_time script k ≤ blocks = within k lt in
      omega (arith, in_time, held, last)

  pub idle_past : (n : ℕ) (pack : List ℕ) → whole_packs blocks ≤ n → IsPackAt script n pack
      → pack ≡ replicate 24 0
  idle_past n pack past is_pack = is_pack.idle (λ k lt.
      let ends : start_of script k + length (planned_change script k) + 7 ≤ 4 * blocks = change_ends k lt in
      inr (omega (arith, ends, past)))
