-- A picture of a schedule is shown.
use Rattle.std.proofs.Common.{◌≡◌, ℕ, ◌<◌, ◌≤◌, List, take, length, subst, arith}
use Rattle.std.proofs.lemmas.List.{take_all, length-take-le}
use Rattle.rw_interleave.specs.Interleave.{whole_packs}
use Rattle.picture_script.specs.Script.{Drawing, pictures, ready_time, hold_time}
use Rattle.cdg_instructions.specs.declared.instr.Instr.{Instr}
use Rattle.cdg_screen.specs.Standing.{blank, standing_after}
use Rattle.pack_schedule.specs.Schedule.{IsSchedule}
use Rattle.pack_schedule.specs.Shown.{AreTimesInOrder, ShowsPicture}
use Rattle.pack_schedule.specs.Meanings.{AreMeantBy}
use Rattle.pack_schedule.proofs.Tiles.{InTurn}
use Rattle.pack_schedule.proofs.ScheduleOrder.{OneMeaning, ReadAsWritten, means_each, stands_at}

pub pictures_shown : InTurn → OneMeaning → ReadAsWritten
    → (script : List Drawing) (blocks : ℕ) (packs : List (List ℕ)) (k time : ℕ) (instrs : List Instr)
    → AreTimesInOrder script → IsSchedule script blocks packs
    → k < pictures script → ready_time script k ≤ time → time ≤ hold_time script k
    → AreMeantBy (take (whole_packs time) packs) instrs
    → ShowsPicture script k (standing_after blank instrs)
pictures_shown in_turn one_meaning read_back script blocks packs k time instrs order schedule picture ready
    held meant =
    let some : whole_packs time ≤ length packs =
    omega (arith, held, schedule.held k picture, schedule.count) in
    let means = means_each (take (whole_packs time) packs) instrs meant in
    let stands =
    stands_at in_turn one_meaning read_back script blocks packs order schedule (whole_packs time) some instrs
    means k picture (whole_packs time) (omega (arith, schedule.fits k picture, ready)) (omega (arith, held))
    (omega arith) in
    let all : take (whole_packs time) instrs ≡ instrs =
    take_all (whole_packs time) instrs
    (omega (arith, means.count, length-take-le (whole_packs time) packs some)) in
    subst (λ (is : List Instr). ShowsPicture script k (standing_after blank is)) all stands.0
