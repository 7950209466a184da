-- Each file is pressed, or there is a reason to refuse it.
use Rattle.std.proofs.Common.{◌≢◌, ℕ, ◌*◌, ◌/◌, ◌%◌, ◌⊎◌, List, length, refl, inl, inr, arith}
use Rattle.std.proofs.lemmas.Bool.{cases_lt}
use Rattle.cue_sheet.specs.CueSheet.{CueSheet}
use Rattle.toc_model.specs.Places.{audio_need, program_blocks}
use Rattle.stream_writer.specs.Needs.{text_packs, lead_in_need}
use Rattle.cdg_press.specs.Refusals.{HasDisc, IsPressable, IsPressStop, IsWhole, RunsInTime}
use Rattle.cdg_press.specs.declared.stops.PressStop.{PressStop}
use Rattle.cdg_press.specs.declared.stops.PressStop.TheVariants.{PackTorn, LengthShort, DiscTooLong, Gap, CdgTooLong, TextTooLong, LeadInShort, WriteFault, NoMemory}
use Rattle.cdg_press.proofs.Gaps.{first_gap}

module _ (sheet : CueSheet) (file : List ℕ) (lead_in audio : ℕ) where
  -- pressed, or refused for a reason
  abbrev Answer : Type 0
  Answer =
      IsPressable sheet file lead_in audio
      ⊎ ((stop : PressStop)
      × (stop ≢ NoMemory)
      × (stop ≢ WriteFault)
      × IsPressStop sheet file lead_in audio stop)

  of_time : RunsInTime sheet file audio → Answer
  of_time runs = elim (cases_lt 0 lead_in) [
    | inr none ↦ inl (record { in_time = runs; room = λ some. absurd (omega (arith, none, some)) })
    | inl some ↦ elim (cases_lt 256 (length (text_packs sheet))) [
      | inl many ↦ inr (TextTooLong (length (text_packs sheet)), λ e. cc, λ e. cc, (runs, (some, many, refl)))
      | inr few ↦ elim (cases_lt lead_in (lead_in_need sheet)) [
        | inl short ↦
            inr (LeadInShort (lead_in_need sheet), λ e. cc, λ e. cc, (runs, (some, few, short, refl)))
        | inr enough ↦ inl (record { in_time = runs; room = λ there. (few, enough) })
      ]
    ]
  ]

  of_disc : HasDisc sheet file audio → Answer
  of_disc disc = elim (first_gap sheet) [
    | inr found ↦ inr (Gap found.0, λ e. cc, λ e. cc, (disc, found.1))
    | inl none ↦ elim (cases_lt (4 * audio) (length file / 24)) [
      | inl many ↦
          inr (CdgTooLong (length file / 24) (4 * audio), λ e. cc, λ e. cc, (disc, none, refl, refl, many))
      | inr fits ↦ of_time (disc, none, fits)
    ]
  ]

  of_whole : IsWhole file → Answer
  of_whole whole = elim (cases_lt audio (audio_need sheet)) [
    | inl short ↦ inr (LengthShort (audio_need sheet), λ e. cc, λ e. cc, (whole, refl, short))
    | inr enough ↦ elim (cases_lt 449999 (program_blocks sheet audio)) [
      | inl long ↦
          inr (DiscTooLong (program_blocks sheet audio), λ e. cc, λ e. cc, (whole, enough, refl, long))
      | inr fits ↦ of_disc (whole, (enough, fits))
    ]
  ]

  pub an_answer : Answer
  an_answer = elim (cases_lt 0 (length file % 24)) [
    | inl rest ↦
        let torn : length file % 24 ≢ 0 = λ whole. omega (arith, rest, whole) in
        inr (PackTorn (length file / 24), λ e. cc, λ e. cc, (torn, refl))
    | inr none ↦ of_whole (omega (arith, none))
  ]
