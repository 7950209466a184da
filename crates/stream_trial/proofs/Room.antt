-- A run has room for the stream of a trial.
use Rattle.std.proofs.Common.{◌≡◌, ℕ, ◌+◌, ◌*◌, ◌<◌, ◌≤◌, List, ◌∷◌, [], length, take, Some, ap, sym, subst, ◌∙◌, arith, length-append, inl, inr, ◌⊎◌, Result, Ok, Err, IfErr}
use Rattle.std.proofs.lemmas.List.{length-take-le}
use Rattle.std.specs.Io.KnownBytes.{Appends}
use Rattle.cdg_io.specs.Causes.{Rose}
use Rattle.cue_sheet.specs.CueSheet.{CueSheet}
use Rattle.picture_script.specs.Script.{Drawing}
use Rattle.subcode_author.specs.Authored.{IsAuthored, disc_of}
use Rattle.subcode_author.specs.AuthorAnswer.{IsAccepted}
use Rattle.subcode_author.specs.declared.stops.AuthorStop.{AuthorStop}
use Rattle.subcode_author.specs.declared.stops.AuthorStop.TheVariants.{NoMemory, WriteFault}
use Rattle.stream_trial.specs.TrialSheet.{trial_sheet}
use Rattle.stream_trial.specs.Trial.{trial_audio}
use Rattle.stream_trial.proofs.Trials.{HasBlocks, stream_size}

-- a count that has risen is not 0
pub rose_some : (before now : ℕ) → Rose before now → 0 < now
rose_some before now (inl more) = omega (arith, more)
rose_some before now (inr last) = omega (arith, last)

-- the sheet and the script that a trial has read are accepted
pub accepted_so : (sheet : CueSheet) (script generated : List Drawing) (audio count : ℕ) → sheet ≡ trial_sheet
    → script ≡ generated → audio ≡ trial_audio count → IsAccepted trial_sheet generated 0 (trial_audio count)
    → IsAccepted sheet script 0 audio
accepted_so sheet script generated audio count sheet_is script_is audio_is accepted =
    subst (λ (s : CueSheet). IsAccepted s script 0 audio) (sym sheet_is)
    (subst (λ (l : List Drawing). IsAccepted trial_sheet l 0 audio) (sym script_is)
    (subst (λ (n : ℕ). IsAccepted trial_sheet generated 0 n) (sym audio_is) accepted))

-- the size of its stream
pub size_so : HasBlocks → (sheet : CueSheet) (script : List Drawing) (audio count : ℕ) (bytes : List ℕ)
    (packs : List (List ℕ)) → sheet ≡ trial_sheet → audio ≡ trial_audio count
    → IsAuthored (disc_of sheet script 0 audio) bytes packs → length bytes ≡ 96 * (170 + 800 * count)
size_so has sheet script audio count bytes packs sheet_is audio_is authored =
    let size : length bytes ≡ 96 * (150 + audio) = stream_size trial_sheet script audio bytes packs
    (subst (λ (s : CueSheet). IsAuthored (disc_of s script 0 audio) bytes packs) sheet_is authored)
    ∙ ap (λ n. 96 * n) (has audio) in
    omega (arith, size, audio_is)

-- after a prefix of the stream was written, there is room for more blocks
pub room_left : (seed count seed' count' : ℕ) (before after bytes : List ℕ) (n blocks filled some : ℕ)
    → before ≡ [] → n ≤ length bytes → length bytes ≡ 96 * (170 + 800 * some) → some ≤ 500
    → Appends (Some (seed ∷ count ∷ before)) (Some (seed' ∷ count' ∷ after)) (take n bytes)
    → length after ≡ 96 * blocks + filled → ¬ (blocks ≡ 1000000)
room_left seed count seed' count' before after bytes n blocks filled some none within size few put known =
    λ full.
    let all : length (seed' ∷ count' ∷ after) ≡ length (seed ∷ count ∷ before) + length (take n bytes) =
    ap length put ∙ length-append (seed ∷ count ∷ before) (take n bytes) in
    let empty : length before ≡ 0 = ap length none in
    let part : length (take n bytes) ≡ n = length-take-le n bytes within in
    omega (arith, all, empty, part, within, size, few, known, full)

-- an answer that is neither a success nor a failed write is `NoMemory`
pub allocations_counted : (answer : Result (Unit {0}) AuthorStop)
    → IfErr answer (λ stop. (stop ≡ NoMemory) ⊎ (stop ≡ WriteFault))
    → ¬ (answer ≡ Err WriteFault) → IfErr answer (λ stop. stop ≡ NoMemory)
allocations_counted (Ok done) stops never = tt
allocations_counted (Err stop) (inl short) never = short
allocations_counted (Err stop) (inr failed) never = absurd (never (ap (λ s. Err s) failed))
