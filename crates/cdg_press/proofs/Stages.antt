-- The reasons of a refusal have an order, and each one requires that the earlier ones do not hold.
use Rattle.std.proofs.Common.{◌≡◌, ◌≢◌, ℕ, zero, suc, ◌*◌, ◌/◌, ◌<◌, ◌≤◌, ◌⊎◌, List, length, refl, inl, inr, ap, sym, subst, ◌∙◌, arith}
use Rattle.std.proofs.lemmas.Bool.{cases_lt}
use Rattle.cue_sheet.specs.CueSheet.{CueSheet}
use Rattle.toc_model.specs.Places.{audio_need, program_blocks}
use Rattle.stream_writer.specs.Needs.{text_packs, lead_in_need}
use Rattle.cdg_press.specs.Refusals.{HasDisc, HasNoGap, IsPressable, IsPressStop, IsWhole, RunsInTime}
use Rattle.cdg_press.specs.declared.stops.PressStop.{PressStop}
use Rattle.cdg_press.specs.declared.stops.PressStop.TheVariants.{PackTorn, LengthShort, DiscTooLong, Gap, CdgTooLong, TextTooLong, LeadInShort, WriteFault, NoMemory}
use Rattle.cdg_press.proofs.Gaps.{one_first_gap}

module _ (sheet : CueSheet) (file : List ℕ) (lead_in audio : ℕ) where
  -- what must hold at each stage; after the last stage, nothing
  abbrev Passes : ℕ → Type 0
  Passes zero = IsWhole file
  Passes (suc zero) = audio_need sheet ≤ audio
  Passes (suc (suc zero)) = program_blocks sheet audio ≤ 449999
  Passes (suc (suc (suc zero))) = HasNoGap sheet
  Passes (suc (suc (suc (suc zero)))) = length file / 24 ≤ 4 * audio
  Passes (suc (suc (suc (suc (suc zero))))) = 0 < lead_in → length (text_packs sheet) ≤ 256
  Passes (suc (suc (suc (suc (suc (suc zero)))))) = 0 < lead_in → lead_in_need sheet ≤ lead_in
  Passes (suc (suc (suc (suc (suc (suc (suc i))))))) = ⊥

  -- the stage of a reason
  abbrev stage : PressStop → ℕ
  stage (PackTorn pack) = 0
  stage (LengthShort need) = 1
  stage (DiscTooLong blocks) = 2
  stage (Gap track) = 3
  stage (CdgTooLong packs room) = 4
  stage (TextTooLong packs) = 5
  stage (LeadInShort need) = 6
  stage WriteFault = 7
  stage NoMemory = 8

  disc_passes : HasDisc sheet file audio → (i : ℕ) → i < 3 → Passes i
  disc_passes disc zero lt = disc.0
  disc_passes disc (suc zero) lt = disc.1.0
  disc_passes disc (suc (suc zero)) lt = disc.1.1
  disc_passes disc (suc (suc (suc i))) lt = absurd (omega (arith, lt))

  gap_passes : HasDisc sheet file audio → HasNoGap sheet → (i : ℕ) → i < 4 → Passes i
  gap_passes disc none i lt = elim (cases_lt i 3) [
    | inl less ↦ disc_passes disc i less
    | inr from ↦ (let last : 3 ≡ i = omega (arith, lt, from) in subst Passes last none)
  ]

  time_passes : RunsInTime sheet file audio → (i : ℕ) → i < 5 → Passes i
  time_passes runs i lt = elim (cases_lt i 4) [
    | inl less ↦ gap_passes runs.0 runs.1 i less
    | inr from ↦ (let last : 4 ≡ i = omega (arith, lt, from) in subst Passes last runs.2)
  ]

  text_passes : RunsInTime sheet file audio → (0 < lead_in → length (text_packs sheet) ≤ 256) → (i : ℕ)
      → i < 6
      → Passes i
  text_passes runs few i lt = elim (cases_lt i 5) [
    | inl less ↦ time_passes runs i less
    | inr from ↦ (let last : 5 ≡ i = omega (arith, lt, from) in subst Passes last few)
  ]

  -- if a reason holds, the earlier stages pass,
  earlier : (stop : PressStop) → IsPressStop sheet file lead_in audio stop → stop ≢ NoMemory → (i : ℕ)
      → i < stage stop
      → Passes i
  earlier (PackTorn pack) h reported i lt = absurd (omega (arith, lt))
  earlier (LengthShort need) h reported zero lt = h.0
  earlier (LengthShort need) h reported (suc i) lt = absurd (omega (arith, lt))
  earlier (DiscTooLong blocks) h reported zero lt = h.0
  earlier (DiscTooLong blocks) h reported (suc zero) lt = h.1
  earlier (DiscTooLong blocks) h reported (suc (suc i)) lt = absurd (omega (arith, lt))
  earlier (Gap track) h reported i lt = disc_passes h.0 i lt
  earlier (CdgTooLong packs room) h reported i lt = gap_passes h.0 h.1 i lt
  earlier (TextTooLong packs) h reported i lt = time_passes h.0 i lt
  earlier (LeadInShort need) h reported i lt = text_passes h.0 (λ some. h.1.1) i lt
  earlier WriteFault h reported i lt = elim (cases_lt i 6) [
    | inl less ↦ text_passes h.in_time (λ some. (h.room some).0) i less
    | inr from ↦ (let last : 6 ≡ i = omega (arith, lt, from) in subst Passes last (λ some. (h.room some).1))
  ]
  earlier NoMemory h reported i lt = absurd (reported refl)

  -- and its own stage does not
  fails : (stop : PressStop) → IsPressStop sheet file lead_in audio stop → stop ≢ NoMemory
      → ¬ Passes (stage stop)
  fails (PackTorn pack) h reported = λ good. h.0 good
  fails (LengthShort need) h reported = λ good. omega (arith, h.2, good)
  fails (DiscTooLong blocks) h reported = λ good. omega (arith, h.2, h.3, good)
  fails (Gap track) h reported = λ good. omega (arith, h.1.2, good h.1.0 h.1.1)
  fails (CdgTooLong packs room) h reported = λ good. omega (arith, h.2, h.3, h.4, good)
  fails (TextTooLong packs) h reported = λ good. omega (arith, h.1.1, h.1.2, good h.1.0)
  fails (LeadInShort need) h reported = λ good. omega (arith, h.1.2, h.1.3, good h.1.0)
  fails WriteFault h reported = λ good. good
  fails NoMemory h reported = absurd (reported refl)

  -- each stage has one reason
  same : (stop other : PressStop) → stage stop ≡ stage other → IsPressStop sheet file lead_in audio stop
      → IsPressStop sheet file lead_in audio other
      → stop ≡ other
  same (PackTorn pack) (PackTorn n) e h h' = ap PackTorn (h.1 ∙ sym h'.1)
  same (PackTorn pack) other e h h' = absurd (omega (arith, e))
  same (LengthShort need) (LengthShort n) e h h' = ap LengthShort (h.1 ∙ sym h'.1)
  same (LengthShort need) other e h h' = absurd (omega (arith, e))
  same (DiscTooLong blocks) (DiscTooLong n) e h h' = ap DiscTooLong (h.2 ∙ sym h'.2)
  same (DiscTooLong blocks) other e h h' = absurd (omega (arith, e))
  same (Gap track) (Gap n) e h h' = ap Gap (one_first_gap sheet track n h.1 h'.1)
  same (Gap track) other e h h' = absurd (omega (arith, e))
  same (CdgTooLong packs room) (CdgTooLong n m) e h h' =
      ap (λ p. CdgTooLong p room) (h.2 ∙ sym h'.2) ∙ ap (CdgTooLong n) (h.3 ∙ sym h'.3)
  same (CdgTooLong packs room) other e h h' = absurd (omega (arith, e))
  same (TextTooLong packs) (TextTooLong n) e h h' = ap TextTooLong (h.1.2 ∙ sym h'.1.2)
  same (TextTooLong packs) other e h h' = absurd (omega (arith, e))
  same (LeadInShort need) (LeadInShort n) e h h' = ap LeadInShort (h.1.3 ∙ sym h'.1.3)
  same (LeadInShort need) other e h h' = absurd (omega (arith, e))
  same WriteFault WriteFault e h h' = refl
  same WriteFault other e h h' = absurd (omega (arith, e))
  same NoMemory NoMemory e h h' = refl
  same NoMemory other e h h' = absurd (omega (arith, e))

  pub one_reason : (stop other : PressStop) → IsPressStop sheet file lead_in audio stop
      → IsPressStop sheet file lead_in audio other → stop ≢ NoMemory → other ≢ NoMemory
      → stop ≡ other
  one_reason stop other h h' reported reported' = elim (cases_lt (stage stop) (stage other)) [
    | inl less ↦ absurd (fails stop h reported (earlier other h' reported' (stage stop) less))
    | inr from ↦ elim (cases_lt (stage other) (stage stop)) [
      | inl less ↦ absurd (fails other h' reported' (earlier stop h reported (stage other) less))
      | inr to ↦ same stop other (omega (arith, from, to)) h h'
    ]
  ]

  -- a file that can be pressed is not refused
  pub not_refused : (stop : PressStop) → IsPressable sheet file lead_in audio
      → IsPressStop sheet file lead_in audio stop
      → (stop ≡ NoMemory) ⊎ (stop ≡ WriteFault)
  not_refused NoMemory is h = inl refl
  not_refused WriteFault is h = inr refl
  not_refused stop is h = inr (one_reason stop WriteFault h is (λ e. cc) (λ e. cc))
