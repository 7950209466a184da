use Rattle.std.proofs.Common.{ap, ℕ, ◌-◌, ◌+◌, ◌≡◌, ◌<◌, ◌≤◌, Ok, Err, arith}
use Rattle.cue_sheet.specs.CueSheet.{CueSheet}
use Rattle.toc_model.specs.Places.{audio_need, pregaps_to, postgaps_to}
use Rattle.std.specs.Prelude.{length}
use Rattle.toc_model.specs.Answers.{IsBlockCount}
use Rattle.toc_model.specs.declared.layout.LayoutStop.TheVariants.{LengthShort, DiscTooLong}
use Rattle.toc_model.proofs.Need.{need_is_last}
use Rattle.toc_model.proofs.layout.count_blocks.Goals as goal

short_refused : (sheet : CueSheet) (audio need : ℕ) → need ≡ audio_need sheet → audio < need
    → IsBlockCount sheet audio (Err (LengthShort need))
short_refused sheet audio need is short = ((is, omega arith), λ same. cc)

long_refused : (sheet : CueSheet) (audio need gaps : ℕ) → need ≡ audio_need sheet → need ≤ audio
    → gaps ≡ pregaps_to sheet (length sheet.tracks) + postgaps_to sheet (length sheet.tracks)
    → 449999 < 150 + audio + gaps → IsBlockCount sheet audio (Err (DiscTooLong (150 + audio + gaps)))
long_refused sheet audio need gaps is enough sum long = ((omega arith, omega arith, omega arith), λ same. cc)

counted : (sheet : CueSheet) (audio need gaps : ℕ) → need ≡ audio_need sheet → need ≤ audio
    → gaps ≡ pregaps_to sheet (length sheet.tracks) + postgaps_to sheet (length sheet.tracks)
    → 150 + audio + gaps ≤ 449999 → IsBlockCount sheet audio (Ok (150 + audio + gaps))
counted sheet audio need gaps is enough sum fits = (omega arith, omega arith, omega arith)

pub returns-then-need-length : goal.returns-then-need-length
returns-then-need-length c =
    short_refused c.args.sheet.now c.args.length (c.index-time.result.1 + 1)
    (need_is_last c.args.sheet.now _ _ c.index-time.result.1 c.tracks-last.ensures.sheet
    (ap (λ n. n - 1) c.tracks-last.ensures.count) (ap (λ n. n - 1) c.indices.ensures.count)
    (ap (λ (l : ℕ × ℕ). l.1) c.index-time.ensures.line)) c.if-need-length.true

pub returns-then-blocks-gt-MOST_PROGRAM : goal.returns-then-blocks-gt-MOST_PROGRAM
returns-then-blocks-gt-MOST_PROGRAM c =
    long_refused c.args.sheet.now c.args.length (c.index-time.result.1 + 1) c.gaps.result
    (need_is_last c.args.sheet.now _ _ c.index-time.result.1 c.tracks-last.ensures.sheet
    (ap (λ n. n - 1) c.tracks-last.ensures.count) (ap (λ n. n - 1) c.indices.ensures.count)
    (ap (λ (l : ℕ × ℕ). l.1) c.index-time.ensures.line)) c.if-need-length.false c.gaps.ensures.sum
    c.if-blocks-gt-MOST_PROGRAM.true

pub returns : goal.returns
returns c =
    counted c.args.sheet.now c.args.length (c.index-time.result.1 + 1) c.gaps.result
    (need_is_last c.args.sheet.now _ _ c.index-time.result.1 c.tracks-last.ensures.sheet
    (ap (λ n. n - 1) c.tracks-last.ensures.count) (ap (λ n. n - 1) c.indices.ensures.count)
    (ap (λ (l : ℕ × ℕ). l.1) c.index-time.ensures.line)) c.if-need-length.false c.gaps.ensures.sum
    c.if-blocks-gt-MOST_PROGRAM.false
