-- The pictures of a generated script are in time.
use Rattle.std.proofs.Common.{◌≡◌, ℕ, zero, suc, ◌+◌, ◌-◌, ◌*◌, ◌<◌, ◌≤◌, ◌⊎◌, List, length, refl, inl, inr, subst, arith}
use Rattle.cue_sheet.specs.CueSheet.{CueSheet}
use Rattle.toc_model.specs.Places.{program_blocks}
use Rattle.picture_script.specs.Script.{Drawing, pictures, ready_time, hold_time, picture_pixel}
use Rattle.pack_schedule.specs.Schedule.{IsInTime, free_packs, IsLate}
use Rattle.pack_schedule.specs.Shown.{AreColoursInRange}
use Rattle.pack_schedule.specs.PlannedChange.{planned_change}
use Rattle.pack_schedule.specs.Survey.{IsPastEnd, IsStop}
use Rattle.pack_schedule.specs.declared.stops.Stop.{Stop}
use Rattle.pack_schedule.specs.declared.stops.Stop.TheVariants.{PastEnd as past_end, Late as late, NoMemory as no_memory}
use Rattle.subcode_author.specs.AuthorAnswer.{AreReady, HasLayout, HasRoom, IsAccepted, IsAuthorStop}
use Rattle.subcode_author.proofs.Late.{ready_not_late}
use Rattle.subcode_author.proofs.Prompt.{PlannedIsChange}
use Rattle.subcode_author.specs.declared.stops.AuthorStop.{AuthorStop}
use Rattle.subcode_author.specs.declared.stops.AuthorStop.TheVariants.{LengthShort, DiscTooLong, PastEnd, TextTooLong, LeadInShort, Late, WriteFault, NoMemory}
use Rattle.cdg_workload.specs.Generated.{generated_drawings}

-- the facts about the times of generated scripts
pub record TimesAreKnown : Type 0 where
  pub count : (seed count : ℕ) → pictures (generated_drawings seed count) ≡ count
  pub ready : (seed count k : ℕ) → k < count → ready_time (generated_drawings seed count) k ≡ 800 * (k + 1)
  pub hold : (seed count k : ℕ) → k < count → hold_time (generated_drawings seed count) k ≡ 800 * (k + 1) + 20

-- a change of this length fits between two pictures
in_time : TimesAreKnown → (seed count k need : ℕ) → k < count → need ≤ 3076
    → IsInTime (generated_drawings seed count) k need
in_time times seed count zero need lt few = omega (arith, few, times.ready seed count 0 lt)
in_time times seed count (suc k) need lt few =
    omega (arith, few, times.ready seed count (suc k) lt, times.hold seed count k (omega arith))

pub enough_free : TimesAreKnown → (seed count k : ℕ) → k < count
    → 3120 ≤ free_packs (generated_drawings seed count) k
enough_free times seed count zero lt = omega (arith, times.ready seed count 0 lt)
enough_free times seed count (suc k) lt =
    omega (arith, times.ready seed count (suc k) lt, times.hold seed count k (omega arith))

pub all_ready : TimesAreKnown → PlannedIsChange → (seed count : ℕ)
    → AreColoursInRange (generated_drawings seed count)
    → ((k x y : ℕ) → picture_pixel (generated_drawings seed count) k x y < 16)
    → ((k : ℕ) → length (planned_change (generated_drawings seed count) k) ≤ 3076)
    → AreReady (generated_drawings seed count)
all_ready times is_change seed count ranges small few k lt =
    let script = generated_drawings seed count in
    let need : ℕ = length (planned_change script k) in (
      need,
      (planned_change script k, is_change script k ranges small, refl),
      in_time times seed count k need (omega (arith, lt, times.count seed count)) (few k),
    )

-- if all pictures can be ready, none is late
not_late : (script : List Drawing) (k need free : ℕ) → AreReady script → IsLate script k need free → ⊥
not_late script k need free ready is = ready_not_late script k need free (ready k is.picture) is

-- no picture is held beyond the last hold time
pub not_past_end : TimesAreKnown → (seed count blocks : ℕ) → 800 * count + 20 ≤ blocks
    → ¬ IsPastEnd (generated_drawings seed count) blocks
not_past_end times seed count blocks enough (some, past) =
    let number = times.count seed count in
    let last : ℕ = pictures (generated_drawings seed count) - 1 in
    let held = times.hold seed count last (omega (arith, some, number)) in
    omega (arith, enough, some, past, number, held)

pub survey_stop : TimesAreKnown → (seed count blocks : ℕ) (stop : Stop)
    → AreReady (generated_drawings seed count)
    → 800 * count + 20 ≤ blocks → IsStop (generated_drawings seed count) blocks stop → stop ≡ no_memory
survey_stop times seed count blocks (past_end program) ready enough h =
    absurd (not_past_end times seed count blocks enough h.1)
survey_stop times seed count blocks (late picture need free) ready enough h =
    absurd (not_late (generated_drawings seed count) picture need free ready h.1)
survey_stop times seed count blocks no_memory ready enough h = refl

pub accepted : TimesAreKnown → (sheet : CueSheet) (seed count lead_in audio : ℕ)
    → AreReady (generated_drawings seed count) → HasLayout sheet audio
    → 800 * count + 20 ≤ program_blocks sheet audio → HasRoom sheet lead_in
    → IsAccepted sheet (generated_drawings seed count) lead_in audio
accepted times sheet seed count lead_in audio ready layout enough room = record {
  disc = (layout, not_past_end times seed count (program_blocks sheet audio) enough);
  room = room;
  ready = ready;
}

-- a call for an accepted disc stops only if memory is not found or a write fails
pub author_stop : (sheet : CueSheet) (script : List Drawing) (lead_in audio : ℕ) (stop : AuthorStop)
    → IsAccepted sheet script lead_in audio → IsAuthorStop sheet script lead_in audio stop
    → (stop ≡ NoMemory) ⊎ (stop ≡ WriteFault)
author_stop sheet script lead_in audio (LengthShort need) is h = absurd (omega (arith, h.1, is.disc.0.0))
author_stop sheet script lead_in audio (DiscTooLong blocks) is h =
    absurd (omega (arith, h.1, h.2, is.disc.0.1))
author_stop sheet script lead_in audio (PastEnd blocks) is h =
    absurd (is.disc.1 (subst (IsPastEnd script) h.1 h.2))
author_stop sheet script lead_in audio (TextTooLong packs) is h =
    absurd (omega (arith, h.1.1, h.1.2, (is.room h.1.0).0))
author_stop sheet script lead_in audio (LeadInShort need) is h =
    absurd (omega (arith, h.1.2, h.1.3, (is.room h.1.0).1))
author_stop sheet script lead_in audio (Late picture need free) is h =
    absurd (not_late script picture need free is.ready h.2)
author_stop sheet script lead_in audio WriteFault is h = inr refl
author_stop sheet script lead_in audio NoMemory is h = inl refl
