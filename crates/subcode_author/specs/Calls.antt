-- The results of the calls that write an authored stream, and the bytes that they write.
use Rattle.std.specs.Prelude.{◌≡◌, ◌≢◌, ◌<◌, ℕ, List, IfErr, OnOk, Err, Result}
use Rattle.std.specs.Io.KnownBytes.{Appends}
use Rattle.cdg_io.specs.Causes.{ReportsFault}
use Rattle.cdg_io.specs.Change.{Bytes}
use Rattle.picture_script.specs.Script.{pictures}
use Rattle.pack_schedule.specs.Brings.{CannotBeReady, IsChange}
use Rattle.pack_schedule.specs.PlannedChange.{planned_change}
use Rattle.subcode_author.specs.Authored.{Disc, IsWrittenStream}
use Rattle.subcode_author.specs.AuthorAnswer.{IsAccepted, IsAuthorStop}
use Rattle.subcode_author.specs.Given.{PutsScriptPart}
use Rattle.subcode_author.specs.declared.stops.AuthorStop.{AuthorStop}
use Rattle.subcode_author.specs.declared.stops.AuthorStop.TheVariants.{Late, WriteFault}

-- The output before and after a call that writes the authored stream of a disc, described by its bytes and its faults.
pub record WritesDisc {T K : Type 0} (held : K → Bytes) (faults : K → ℕ) (disc : Disc) (before after : K)
    (result : Result T AuthorStop) : Type 0 where
  -- the authored stream with the planned changes was written
  pub authored : OnOk result ((bytes : List ℕ) × (packs : List (List ℕ)) × IsWrittenStream disc bytes packs
      × Appends (held before) (held after) bytes)
  -- no stream was written: then nothing was written, unless a write failed
  pub untouched : IfErr result (λ stop. stop ≢ WriteFault → after ≡ before)
  pub write_fault : ReportsFault WriteFault (faults before) (faults after) result
  -- a write failed, and a prefix of the lead-in and of program blocks with packs of the script was written
  pub part : result ≡ Err WriteFault
      → (n : ℕ) × (packs : List (List ℕ)) × PutsScriptPart disc (held before) (held after) n packs

-- This is the result of a call that writes the authored stream of a disc.
pub record AnswersDisc {T : Type 0} (disc : Disc) (result : Result T AuthorStop) : Type 0 where
  pub accepted : OnOk result (IsAccepted disc.sheet disc.script disc.lead_in disc.audio)
  -- the instructions that are sent for each picture are a change for it: no shorter list without scrolls shows it
  pub fewest : OnOk result ((k : ℕ) → k < pictures disc.script
      → IsChange disc.script k (planned_change disc.script k))
  -- the reason why no stream was written
  pub stop : IfErr result (IsAuthorStop disc.sheet disc.script disc.lead_in disc.audio)
  -- a late picture cannot be ready, whatever instructions without scrolls are sent
  pub late : (picture need free : ℕ) → result ≡ Err (Late picture need free)
      → CannotBeReady disc.script picture need free
