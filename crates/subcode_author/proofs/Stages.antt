-- The reasons of a refusal have an order, and each one requires that the earlier ones do not hold.
use Rattle.std.proofs.Common.{◌≡◌, ◌≢◌, ℕ, zero, suc, ◌<◌, ◌≤◌, ◌⊎◌, List, length, refl, inl, inr, ap, sym, subst, ◌∙◌, arith}
use Rattle.std.proofs.lemmas.Bool.{cases_lt}
use Rattle.cue_sheet.specs.CueSheet.{CueSheet}
use Rattle.toc_model.specs.Places.{audio_need, program_blocks}
use Rattle.picture_script.specs.Script.{Drawing}
use Rattle.pack_schedule.specs.Survey.{IsPastEnd}
use Rattle.pack_schedule.specs.Schedule.{IsLate, free_packs}
use Rattle.pack_schedule.specs.Brings.{IsNeed}
use Rattle.subcode_author.specs.Authored.{text_packs, lead_in_need}
use Rattle.subcode_author.specs.AuthorAnswer.{HoldsPictures, HasRoom, AreReady, IsAccepted, IsAuthorStop}
use Rattle.subcode_author.specs.declared.stops.AuthorStop.{AuthorStop}
use Rattle.subcode_author.specs.declared.stops.AuthorStop.TheVariants.{LengthShort, DiscTooLong, PastEnd, TextTooLong, LeadInShort, Late, WriteFault, NoMemory}
use Rattle.subcode_author.proofs.Late.{NeedsAreKnown, one_is_late, ready_not_late}

module _ (needs : NeedsAreKnown) (sheet : CueSheet) (script : List Drawing) (lead_in audio : ℕ) where
  -- what must hold at each stage; after the last stage, nothing
  abbrev Passes : ℕ → Type 0
  Passes zero = audio_need sheet ≤ audio
  Passes (suc zero) = program_blocks sheet audio ≤ 449999
  Passes (suc (suc zero)) = ¬ IsPastEnd script (program_blocks sheet audio)
  Passes (suc (suc (suc zero))) = 0 < lead_in → length (text_packs sheet) ≤ 256
  Passes (suc (suc (suc (suc zero)))) = 0 < lead_in → lead_in_need sheet ≤ lead_in
  Passes (suc (suc (suc (suc (suc zero))))) = AreReady script
  Passes (suc (suc (suc (suc (suc (suc i)))))) = ⊥

  -- the stage of a reason
  abbrev stage : AuthorStop → ℕ
  stage (LengthShort need) = 0
  stage (DiscTooLong blocks) = 1
  stage (PastEnd blocks) = 2
  stage (TextTooLong packs) = 3
  stage (LeadInShort need) = 4
  stage (Late picture need free) = 5
  stage WriteFault = 6
  stage NoMemory = 7

  disc_passes : HoldsPictures sheet script audio → (i : ℕ) → i < 3 → Passes i
  disc_passes disc zero lt = disc.0.0
  disc_passes disc (suc zero) lt = disc.0.1
  disc_passes disc (suc (suc zero)) lt = disc.1
  disc_passes disc (suc (suc (suc i))) lt = absurd (omega (arith, lt))

  room_passes : HoldsPictures sheet script audio → HasRoom sheet lead_in → (i : ℕ) → i < 5 → Passes i
  room_passes disc room zero lt = disc.0.0
  room_passes disc room (suc zero) lt = disc.0.1
  room_passes disc room (suc (suc zero)) lt = disc.1
  room_passes disc room (suc (suc (suc zero))) lt = λ some. (room some).0
  room_passes disc room (suc (suc (suc (suc zero)))) lt = λ some. (room some).1
  room_passes disc room (suc (suc (suc (suc (suc i))))) lt = absurd (omega (arith, lt))

  -- if a reason holds, the earlier stages pass,
  earlier : (stop : AuthorStop) → IsAuthorStop sheet script lead_in audio stop → stop ≢ NoMemory → (i : ℕ)
      → i < stage stop
      → Passes i
  earlier (LengthShort need) h reported i lt = absurd (omega (arith, lt))
  earlier (DiscTooLong blocks) h reported zero lt = h.0
  earlier (DiscTooLong blocks) h reported (suc i) lt = absurd (omega (arith, lt))
  earlier (PastEnd blocks) h reported zero lt = h.0.0
  earlier (PastEnd blocks) h reported (suc zero) lt = h.0.1
  earlier (PastEnd blocks) h reported (suc (suc i)) lt = absurd (omega (arith, lt))
  earlier (TextTooLong packs) h reported i lt = disc_passes h.0 i lt
  earlier (LeadInShort need) h reported i lt = elim (cases_lt i 3) [
    | inl less ↦ disc_passes h.0 i less
    | inr from ↦ (let last : 3 ≡ i = omega (arith, lt, from) in subst Passes last (λ some. h.1.1))
  ]
  earlier (Late picture need free) h reported i lt = room_passes h.0 h.1 i lt
  earlier WriteFault h reported i lt = elim (cases_lt i 5) [
    | inl less ↦ room_passes h.disc h.room i less
    | inr from ↦ (let last : 5 ≡ i = omega (arith, lt, from) in subst Passes last h.ready)
  ]
  earlier NoMemory h reported i lt = absurd (reported refl)

  -- and its own stage does not
  fails : (stop : AuthorStop) → IsAuthorStop sheet script lead_in audio stop → stop ≢ NoMemory
      → ¬ Passes (stage stop)
  fails (LengthShort need) h reported = λ good. omega (arith, h.1, good)
  fails (DiscTooLong blocks) h reported = λ good. omega (arith, h.1, h.2, good)
  fails (PastEnd blocks) h reported = λ good. good (subst (IsPastEnd script) h.1 h.2)
  fails (TextTooLong packs) h reported = λ good. omega (arith, h.1.1, h.1.2, good h.1.0)
  fails (LeadInShort need) h reported = λ good. omega (arith, h.1.2, h.1.3, good h.1.0)
  fails (Late picture need free) h reported =
      λ good. ready_not_late script picture need free (good picture h.2.picture) h.2
  fails WriteFault h reported = λ good. good
  fails NoMemory h reported = absurd (reported refl)

  one_picture : (k need free k' need' free' : ℕ) → IsLate script k need free → IsLate script k' need' free'
      → Late k need free ≡ Late k' need' free'
  one_picture k need free k' need' free' is is' =
      let picture = one_is_late script k need free k' need' free' is is' in
      let same : need ≡ need' =
      needs.one script k' need need' (subst (λ j. IsNeed script j need) picture is.need_is) is'.need_is in
      let frees : free ≡ free' = is.free_is ∙ ap (free_packs script) picture ∙ sym is'.free_is in
      ap (λ j. Late j need free) picture ∙ ap (λ n. Late k' n free) same ∙ ap (λ n. Late k' need' n) frees

  -- each stage has one reason
  same : (stop other : AuthorStop) → stage stop ≡ stage other → IsAuthorStop sheet script lead_in audio stop
      → IsAuthorStop sheet script lead_in audio other
      → stop ≡ other
  same (LengthShort need) (LengthShort n) e h h' = ap LengthShort (h.0 ∙ sym h'.0)
  same (LengthShort need) other e h h' = absurd (omega (arith, e))
  same (DiscTooLong blocks) (DiscTooLong n) e h h' = ap DiscTooLong (h.1 ∙ sym h'.1)
  same (DiscTooLong blocks) other e h h' = absurd (omega (arith, e))
  same (PastEnd blocks) (PastEnd n) e h h' = ap PastEnd (h.1 ∙ sym h'.1)
  same (PastEnd blocks) other e h h' = absurd (omega (arith, e))
  same (TextTooLong packs) (TextTooLong n) e h h' = ap TextTooLong (h.1.2 ∙ sym h'.1.2)
  same (TextTooLong packs) other e h h' = absurd (omega (arith, e))
  same (LeadInShort need) (LeadInShort n) e h h' = ap LeadInShort (h.1.3 ∙ sym h'.1.3)
  same (LeadInShort need) other e h h' = absurd (omega (arith, e))
  same (Late picture need free) (Late k n m) e h h' = one_picture picture need free k n m h.2 h'.2
  same (Late picture need free) other e h h' = absurd (omega (arith, e))
  same WriteFault WriteFault e h h' = refl
  same WriteFault other e h h' = absurd (omega (arith, e))
  same NoMemory NoMemory e h h' = refl
  same NoMemory other e h h' = absurd (omega (arith, e))

  pub one_reason : (stop other : AuthorStop) → IsAuthorStop sheet script lead_in audio stop
      → IsAuthorStop sheet script lead_in audio other → stop ≢ NoMemory → other ≢ NoMemory
      → stop ≡ other
  one_reason stop other h h' reported reported' = elim (cases_lt (stage stop) (stage other)) [
    | inl less ↦ absurd (fails stop h reported (earlier other h' reported' (stage stop) less))
    | inr from ↦ elim (cases_lt (stage other) (stage stop)) [
      | inl less ↦ absurd (fails other h' reported' (earlier stop h reported (stage other) less))
      | inr to ↦ same stop other (omega (arith, from, to)) h h'
    ]
  ]

  -- an accepted disc is not refused
  pub not_refused : (stop : AuthorStop) → IsAccepted sheet script lead_in audio
      → IsAuthorStop sheet script lead_in audio stop
      → (stop ≡ NoMemory) ⊎ (stop ≡ WriteFault)
  not_refused NoMemory is h = inl refl
  not_refused WriteFault is h = inr refl
  not_refused stop is h = inr (one_reason stop WriteFault h is (λ e. cc) (λ e. cc))
