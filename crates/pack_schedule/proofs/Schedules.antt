-- The packs of a script are a schedule.
use Rattle.std.proofs.Common.{◌≡◌, ℕ, ◌+◌, ◌-◌, ◌<◌, ◌≤◌, List, [], length, map, get_or, ap, sym, subst, inl, inr, arith}
use Rattle.std.proofs.lemmas.List.FromFn.{get_or-map-range_with_len}
use Rattle.bit_lists.specs.Counting.{below}
use Rattle.rw_interleave.specs.Interleave.{whole_packs}
use Rattle.cdg_instructions.specs.Instruction.{IsWritten}
use Rattle.cdg_instructions.specs.declared.instr.Instr.{Instr}
use Rattle.cdg_instructions.specs.declared.instr.Instr.TheVariants.{Idle}
use Rattle.picture_script.specs.Script.{Drawing, pictures, ready_time, hold_time}
use Rattle.pack_schedule.specs.Schedule.{start_of, IsInTime, IsScheduleOf}
use Rattle.pack_schedule.specs.PlannedChange.{planned_change}
use Rattle.pack_schedule.specs.Survey.{IsSurvey, IsWithin}
use Rattle.pack_schedule.specs.Woven.{ArePacks}
use Rattle.pack_schedule.specs.declared.surveys.PlannedChange.{PlannedChange}

the_same : (n : ℕ) → 0 + n ≡ n
the_same n = omega arith

-- if the planned changes have a property, the packs are a schedule of changes with this property
pub is_schedule : (IsOne : List Drawing → ℕ → List Instr → Type 0) (script : List Drawing) (blocks : ℕ)
    (survey : List PlannedChange) (packs : List (List ℕ))
    → ((k : ℕ) → IsOne script k (planned_change script k))
    → ((k : ℕ) → k < pictures script → ready_time script k ≤ hold_time script k)
    → IsWithin script blocks → IsSurvey script survey → length packs ≡ whole_packs blocks
    → ArePacks script packs
    → IsScheduleOf IsOne script blocks packs
is_schedule IsOne script blocks survey packs is_one held within surveyed count are =
    let changes : List (List Instr) = map (planned_change script) (below (pictures script)) in
    let at =
    λ (k : ℕ) (lt : k < pictures script).
    get_or-map-range_with_len (planned_change script) 0 (pictures script) k k [] lt (the_same k) in
    record {
      count = count;
      held = within;
      changes = changes;
      change = λ k lt. subst (IsOne script k) (sym (at k lt)) (is_one k);
      fits =
          λ k lt. subst (λ (c : List Instr). IsInTime script k (length c)) (sym (at k lt))
          (subst (IsInTime script k) (surveyed.each k lt).need_is (surveyed.each k lt).in_time);
      written = λ k j lt j_lt.
          let size : length (get_or changes k []) ≡ length (planned_change script k) = ap length (at k lt) in
          let in_time = (surveyed.each k lt).in_time in
          let n = start_of script k + j in
          let inside : n < length packs =
          omega (arith, count, size, j_lt, in_time, (surveyed.each k lt).need_is, held k lt, within k lt) in
          let back : n - start_of script k ≡ j = omega arith in
          let is = (are n inside).changed k lt (omega arith) (omega (arith, size, j_lt)) in
          subst (λ (c : List Instr). IsWritten (get_or c j Idle) (get_or packs n [])) (sym (at k lt))
          (subst (λ m. IsWritten (get_or (planned_change script k) m Idle) (get_or packs n [])) back is);
      others = λ n n_lt all. (are n (omega (arith, count, n_lt))).idle (λ k lt.
          elim (all k lt) [
            | inl early ↦ inl early
            | inr late ↦ inr (subst (λ m. start_of script k + m ≤ n) (ap length (at k lt)) late)
          ]);
    }
