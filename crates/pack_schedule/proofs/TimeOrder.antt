-- The times of pictures increase.
use Rattle.std.proofs.Common.{◌≡◌, ℕ, zero, suc, ◌+◌, ◌<◌, ◌≤◌, List, ap, subst, inl, inr, arith}
use Rattle.std.proofs.lemmas.Bool.Decides.{leb_tells}
use Rattle.picture_script.specs.Script.{Drawing, pictures, ready_time, hold_time}
use Rattle.pack_schedule.specs.Shown.{AreTimesInOrder}

pub hold_order : (script : List Drawing) → AreTimesInOrder script → (i j : ℕ) → i ≤ j → j < pictures script
    → hold_time script i ≤ hold_time script j
hold_order script order i zero le lt = let is : i ≡ 0 = omega (arith, le) in
    omega (arith, ap (hold_time script) is)
hold_order script order i (suc j) le lt =
    let next : suc j ≡ j + 1 = omega arith in
    elim (leb_tells i j) [
      | inl before ↦
          let one = hold_order script order i j before.1 (omega (arith, lt)) in
          let two = order.later j (omega (arith, lt)) in
          let three =
          subst (λ (k : ℕ). ready_time script k ≤ hold_time script k) next (order.held (suc j) lt) in
          omega (arith, one, two, three, ap (hold_time script) next)
      | inr same ↦ let is : i ≡ suc j = omega (arith, same.1, le) in omega (arith, ap (hold_time script) is)
    ]
