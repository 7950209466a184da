use Rattle.std.proofs.Common.{◌≡◌, ◌==◌, ℕ, List, Bool, false, arith, ◌<◌, length, Some, None, ap, subst, ◌∙◌, refl}
use Rattle.std.specs.Prelude.{Option, IfSome, IfOk, Result, Ok, Err}
use Rattle.std.specs.Result.{is_err}
use Rattle.cue_sheet.specs.CueLines.{CueLine, SaysNothing, SaysCatalogue, SaysFile, SaysTitle, SaysPerformer, SaysSongwriter, SaysTrack, SaysFlags, SaysIsrc, SaysPregap, SaysIndex, SaysPostgap}
use Rattle.cue_sheet.specs.Grammar.{CueState}
use Rattle.cue_sheet.specs.Steps.{after, line_said, stripped, Says}
use Rattle.cue_sheet.proofs.Stepping.{step_is}
use Rattle.cue_sheet.proofs.reader.SheetReader.take.Goals as goal

-- a draft needs neither the file nor the latest time
stripped_after : (s : CueState) (line : CueLine)
    → stripped (after (stripped s) line) ≡ stripped (after s line)
stripped_after s SaysNothing = refl
stripped_after s (SaysCatalogue t) = refl
stripped_after s SaysFile = refl
stripped_after s (SaysTitle t) = refl
stripped_after s (SaysPerformer t) = refl
stripped_after s (SaysSongwriter t) = refl
stripped_after s (SaysTrack number audio) = refl
stripped_after s (SaysFlags n) = refl
stripped_after s (SaysIsrc t) = refl
stripped_after s (SaysPregap n) = refl
stripped_after s (SaysIndex number time) = refl
stripped_after s (SaysPostgap n) = refl

no_draft : (draft : Option CueState) (s : CueState) → draft ≡ None → IfSome draft (λ d. d ≡ stripped s)
no_draft None s none = tt
no_draft (Some d) s none = cc

more_draft : (draft : Option CueState) (d new before : CueState) (line : CueLine)
    → IfSome draft (λ d. d ≡ stripped before) → draft ≡ Some d → new ≡ stripped (after d line)
    → new ≡ stripped (after before line)
more_draft draft d new before line kept is added =
    let same : d ≡ stripped before = subst (λ o. IfSome o (λ d. d ≡ stripped before)) is kept in
    added ∙ (ap (λ (s : CueState). stripped (after s line)) same ∙ stripped_after before line)

added_if : {A E : Type 0} (r : Result A E) (new next : CueState) (bad : Bool) → IfOk r (λ _. new ≡ next)
    → bad ≡ is_err r → bad ≡ false → new ≡ next
added_if (Ok x) new next bad added is good = added
added_if (Err e) new next bad added is good = cc

some_line : (empty : Bool) (line : List ℕ) → empty ≡ (length line == 0) → empty ≡ false → 0 < length line
some_line empty line is other = grind arith

pub returns-in-None : goal.returns-in-None
returns-in-None c = λ before read.
    let some = some_line c.is_empty.result c.trim-line.result.now c.is_empty.ensures c.if-is_empty.false in
    let judged = c.in_ok-said.ensures before read.judged in (
      after before (line_said c.in_ok-said.said),
      Says (line_said c.in_ok-said.said)
          (step_is before c.args.line.now c.trim-line.result.now c.trim-line.ensures.rest some ∙ judged.0)
          judged.1 judged.2 refl,
      record {
        judged = c.add.ensures before read.judged;
        kept = no_draft c.args.self.now.draft (after before (line_said c.in_ok-said.said)) c.in-None.is;
      },
    )

pub returns-then-is_err : goal.returns-then-is_err
returns-then-is_err c = λ before read.
    let some = some_line c.is_empty.result c.trim-line.result.now c.is_empty.ensures c.if-is_empty.false in
    let judged = c.in_ok-said.ensures before read.judged in (
      after before (line_said c.in_ok-said.said),
      Says (line_said c.in_ok-said.said)
          (step_is before c.args.line.now c.trim-line.result.now c.trim-line.ensures.rest some ∙ judged.0)
          judged.1 judged.2 refl,
      record { judged = c.add.ensures before read.judged; kept = tt },
    )

pub returns-else-is_err : goal.returns-else-is_err
returns-else-is_err c = λ before read.
    let some = some_line c.is_empty.result c.trim-line.result.now c.is_empty.ensures c.if-is_empty.false in
    let judged = c.in_ok-said.ensures before read.judged in (
      after before (line_said c.in_ok-said.said),
      Says (line_said c.in_ok-said.said)
          (step_is before c.args.line.now c.trim-line.result.now c.trim-line.ensures.rest some ∙ judged.0)
          judged.1 judged.2 refl,
      record {
        judged = c.add.ensures before read.judged;
        kept =
            more_draft c.args.self.now.draft c.in-Some.draft _ before (line_said c.in_ok-said.said) read.kept
            c.in-Some.is (added_if c.add-kept.result _ _ c.is_err.result c.add-kept.ensures
            c.is_err.ensures.value c.if-is_err.false);
      },
    )
