-- If each picture can be ready, each planned change is in time.
use Rattle.std.proofs.Common.{ℕ, ◌<◌, List, length, refl, subst}
use Rattle.picture_script.specs.Script.{Drawing, pictures, picture_pixel}
use Rattle.pack_schedule.specs.Brings.{IsChange, IsNeed}
use Rattle.pack_schedule.specs.PlannedChange.{planned_change}
use Rattle.pack_schedule.specs.Schedule.{IsInTime}
use Rattle.pack_schedule.specs.Shown.{AreColoursInRange}
use Rattle.pack_schedule.proofs.Shortest.{one_need}
use Rattle.subcode_author.specs.AuthorAnswer.{AreReady}

-- the planned change of each picture is in time
abbrev pub ArePrompt : List Drawing → Type 0
ArePrompt script = (k : ℕ) → k < pictures script → IsInTime script k (length (planned_change script k))

abbrev pub PlannedIsChange : Type 0
PlannedIsChange = (script : List Drawing) (k : ℕ) → AreColoursInRange script
    → ((k x y : ℕ) → picture_pixel script k x y < 16) → IsChange script k (planned_change script k)

pub are_prompt : PlannedIsChange → (script : List Drawing) → AreColoursInRange script
    → ((k x y : ℕ) → picture_pixel script k x y < 16) → AreReady script → ArePrompt script
are_prompt is_change script ranges pixels ready k lt =
    let (need, is, prompt) = ready k lt in
    let planned : IsNeed script k (length (planned_change script k)) =
    (planned_change script k, is_change script k ranges pixels, refl) in
    subst (IsInTime script k) (one_need script k need (length (planned_change script k)) is planned) prompt
