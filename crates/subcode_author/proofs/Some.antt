-- Each disc is accepted, or there is a reason to refuse it.
use Rattle.std.proofs.Common.{◌≢◌, ℕ, ◌-◌, ◌<◌, ◌⊎◌, List, length, refl, inl, inr, arith}
use Rattle.std.proofs.lemmas.Bool.{cases_lt}
use Rattle.cue_sheet.specs.CueSheet.{CueSheet}
use Rattle.toc_model.specs.Places.{audio_need, program_blocks}
use Rattle.picture_script.specs.Script.{Drawing, pictures, hold_time, picture_pixel}
use Rattle.pack_schedule.specs.Schedule.{free_packs}
use Rattle.pack_schedule.specs.PlannedChange.{planned_change}
use Rattle.pack_schedule.specs.Shown.{AreColoursInRange}
use Rattle.subcode_author.specs.Authored.{text_packs, lead_in_need}
use Rattle.subcode_author.specs.AuthorAnswer.{HasLayout, HoldsPictures, HasRoom, IsAccepted, IsAuthorStop}
use Rattle.subcode_author.specs.declared.stops.AuthorStop.{AuthorStop}
use Rattle.subcode_author.specs.declared.stops.AuthorStop.TheVariants.{LengthShort, DiscTooLong, PastEnd, TextTooLong, LeadInShort, Late, WriteFault, NoMemory}
use Rattle.subcode_author.proofs.Late.{NeedsAreKnown, all_ready, first_late, is_late}

module _ (needs : NeedsAreKnown) (sheet : CueSheet) (script : List Drawing) (lead_in audio : ℕ)
    (ranges : AreColoursInRange script) (small : (k x y : ℕ) → picture_pixel script k x y < 16) where
  -- accepted, or refused for a reason
  abbrev Answer : Type 0
  Answer =
      IsAccepted sheet script lead_in audio
      ⊎ ((stop : AuthorStop)
      × (stop ≢ NoMemory)
      × (stop ≢ WriteFault)
      × IsAuthorStop sheet script lead_in audio stop)

  of_pictures : HoldsPictures sheet script audio → HasRoom sheet lead_in → Answer
  of_pictures disc room = elim (first_late script (pictures script)) [
    | inl all ↦ inl (record { disc = disc; room = room; ready = all_ready needs script ranges small all })
    | inr found ↦
        inr (
          Late found.0 (length (planned_change script found.0)) (free_packs script found.0),
          λ e. cc,
          λ e. cc,
          (disc, room, is_late needs script ranges small found.0 found.1 found.2 found.3),
        )
  ]

  of_lead_in : HoldsPictures sheet script audio → Answer
  of_lead_in disc = elim (cases_lt 0 lead_in) [
    | inr none ↦ of_pictures disc (λ some. absurd (omega (arith, none, some)))
    | inl some ↦ elim (cases_lt 256 (length (text_packs sheet))) [
      | inl many ↦ inr (TextTooLong (length (text_packs sheet)), λ e. cc, λ e. cc, (disc, (some, many, refl)))
      | inr few ↦ elim (cases_lt lead_in (lead_in_need sheet)) [
        | inl short ↦
            inr (LeadInShort (lead_in_need sheet), λ e. cc, λ e. cc, (disc, (some, few, short, refl)))
        | inr enough ↦ of_pictures disc (λ there. (few, enough))
      ]
    ]
  ]

  of_layout : HasLayout sheet audio → Answer
  of_layout layout = elim (cases_lt 0 (pictures script)) [
    | inr none ↦ of_lead_in (layout, λ past. omega (arith, none, past.0))
    | inl some ↦ elim (cases_lt (program_blocks sheet audio) (hold_time script (pictures script - 1))) [
      | inl past ↦ inr (PastEnd (program_blocks sheet audio), λ e. cc, λ e. cc, (layout, refl, (some, past)))
      | inr within ↦ of_lead_in (layout, λ past. omega (arith, within, past.1))
    ]
  ]

  pub an_answer : Answer
  an_answer = elim (cases_lt audio (audio_need sheet)) [
    | inl short ↦ inr (LengthShort (audio_need sheet), λ e. cc, λ e. cc, (refl, short))
    | inr enough ↦ elim (cases_lt 449999 (program_blocks sheet audio)) [
      | inl long ↦ inr (DiscTooLong (program_blocks sheet audio), λ e. cc, λ e. cc, (enough, refl, long))
      | inr fits ↦ of_layout (enough, fits)
    ]
  ]
