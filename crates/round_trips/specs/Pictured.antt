-- The pictures of a script in a stream.
use Rattle.std.specs.Prelude.{◌≡◌, ℕ, ◌<◌, ◌≤◌, ⊤, List, Option, Result, Ok, Err}
use Rattle.std.specs.Io.KnownBytes.{Appends}
use Rattle.cdg_screen.specs.Standing.{Standing}
use Rattle.cdg_screen.specs.Texts.{pixmap}
use Rattle.picture_script.specs.Script.{Drawing, pictures, ready_time, hold_time}
use Rattle.pack_schedule.specs.Schedule.{IsSchedule}
use Rattle.pack_schedule.specs.Shown.{ShowsPicture, AreTimesInOrder}
use Rattle.stream_stages.specs.Convert.{IsDamagedStream}
use Rattle.raw_subcode.specs.declared.form.Form.{Form}
use Rattle.stream_stages.specs.declared.played.Played.{Played}
use Rattle.stream_stages.specs.declared.played.PlayStop.{PlayStop}
use Rattle.stream_stages.specs.declared.played.PlayStop.TheVariants.{ReadFault, WriteFault}

-- The bytes are a damaged copy of a stream whose packs are a schedule of the script.
pub record IsScheduledStream (form : Form) (lead_in : ℕ) (script : List Drawing)
    (bytes : List ℕ) : Type 0 where
  pub blocks : ℕ
  pub packs : List (List ℕ)
  pub stream : IsDamagedStream form lead_in blocks packs bytes
  pub schedule : IsSchedule script blocks packs
  pub order : AreTimesInOrder script

-- The time, in blocks, is from the ready time to the hold time of picture k.
pub record IsHeldAt (script : List Drawing) (k time : ℕ) : Type 0 where
  pub picture : k < pictures script
  pub ready : ready_time script k ≤ time
  pub held : time ≤ hold_time script k

-- The text is the pixmap of a screen that shows picture k.
abbrev pub IsPictureText : List Drawing → ℕ → List ℕ → Type 0
IsPictureText script k text = (now : Standing) × ShowsPicture script k now × (text ≡ pixmap now)

-- No word was bad and picture k was written; or a read or a write failed.
abbrev pub GivesPicture : List Drawing → ℕ → Result Played PlayStop → Option (List ℕ) → Option (List ℕ)
    → Type 0
GivesPicture script k (Ok played) held held' = (played.bad ≡ 0)
    × ((text : List ℕ) × IsPictureText script k text × Appends held held' text)
GivesPicture script k (Err ReadFault) held held' = ⊤
GivesPicture script k (Err WriteFault) held held' = ⊤
GivesPicture script k (Err stop) held held' = ⊥
