-- The stops of the planned pictures, as stops of the whole disc.
use Rattle.cue_sheet.specs.CueSheet.{CueSheet}
use Rattle.std.proofs.Common.{◌≡◌, ◌⊎◌, inl, inr, ℕ, ◌<◌, List, subst, sym}
use Rattle.picture_script.specs.Script.{Drawing, picture_pixel}
use Rattle.pack_schedule.specs.Schedule.{IsLate}
use Rattle.pack_schedule.specs.Shown.{AreColoursInRange, AreTimesInOrder}
use Rattle.pack_schedule.specs.Brings.{CannotBeReady}
use Rattle.subcode_author.specs.AuthorAnswer.{HoldsPictures, HasRoom, IsAccepted, IsPictureStop, IsAuthorStop}
use Rattle.subcode_author.specs.declared.stops.AuthorStop.{AuthorStop}
use Rattle.subcode_author.specs.declared.stops.AuthorStop.TheVariants.{Late, NoMemory, WriteFault}

pub picture_stop : (sheet : CueSheet) (script : List Drawing) (lead_in audio : ℕ) (stop : AuthorStop)
    → HoldsPictures sheet script audio → HasRoom sheet lead_in
    → IsPictureStop script stop → IsAuthorStop sheet script lead_in audio stop
picture_stop sheet script lead_in audio (Late picture need free) disc room late = (disc, room, late)
picture_stop sheet script lead_in audio NoMemory disc room none = (disc, room)
picture_stop sheet script lead_in audio stop disc room none = absurd none

-- for a disc whose pictures were planned, a call stops only if memory is not found or a write fails
pub written_stop : (sheet : CueSheet) (script : List Drawing) (lead_in audio : ℕ) (stop : AuthorStop)
    → IsAccepted sheet script lead_in audio → (stop ≡ NoMemory) ⊎ (stop ≡ WriteFault)
    → IsAuthorStop sheet script lead_in audio stop
written_stop sheet script lead_in audio stop accepted (inl is) =
    subst (IsAuthorStop sheet script lead_in audio) (sym is) (accepted.disc, accepted.room)
written_stop sheet script lead_in audio stop accepted (inr is) =
    subst (IsAuthorStop sheet script lead_in audio) (sym is) accepted

-- a late picture cannot be ready
abbrev pub LateCannotBeReady : Type 0
LateCannotBeReady = (script : List Drawing) (k need free : ℕ) → AreTimesInOrder script
    → AreColoursInRange script → ((k x y : ℕ) → picture_pixel script k x y < 16) → IsLate script k need free
    → CannotBeReady script k need free

pub late_reported : LateCannotBeReady
    → (sheet : CueSheet) (script : List Drawing) (lead_in audio : ℕ) (stop : AuthorStop)
    → AreTimesInOrder script
    → AreColoursInRange script → ((k x y : ℕ) → picture_pixel script k x y < 16)
    → IsAuthorStop sheet script lead_in audio stop → (picture need free : ℕ) → stop ≡ Late picture need free
    → CannotBeReady script picture need free
late_reported law sheet script lead_in audio stop order ranges pixels is picture need free reported =
    law script picture need free order ranges pixels
    (subst (IsAuthorStop sheet script lead_in audio) reported is).2
