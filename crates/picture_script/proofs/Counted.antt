-- The part of a script that was read, after one more line.
use Rattle.std.proofs.Common.{◌≡◌, ℕ, ◌+◌, ◌-◌, ◌<◌, List, [], ◌∷◌, ◌++◌, length, get_or, refl, ap, ap₂, sym, subst, ◌∙◌, arith}
use Rattle.std.specs.Prelude.{Option, Some, None, IfSome, Result, Ok, Err, OnOk, IfOk, IfErr}
use Rattle.std.proofs.lemmas.List.{length-append}
use Rattle.std.proofs.Math.Seq.{get_or-append_seam}
use Rattle.picture_script.specs.Script.{Drawing, Show, shows}
use Rattle.picture_script.specs.Lines.{said_in, IsSound, Adds}
use Rattle.picture_script.specs.Reader.{HasCounted}
use Rattle.picture_script.specs.Stops.{StopsAt}
use Rattle.picture_script.specs.declared.reader.ScriptDraft.{ScriptDraft}
use Rattle.picture_script.specs.declared.reader.ScriptReader.{ScriptReader}
use Rattle.picture_script.specs.declared.reasons.ScriptStop.{ScriptStop}
use Rattle.picture_script.specs.declared.reasons.ScriptStop.TheVariants.{NoMemory}
use Rattle.picture_script.specs.declared.reasons.ScriptWhy.{ScriptWhy}
use Rattle.picture_script.proofs.Drafts.{shows-show}

-- no line
pub none_counted : (draft : Option ScriptDraft)
    → HasCounted [] (record { pictures = 0; held = 0; draft = draft })
unfolding shows
none_counted draft = record { count = refl; held = λ some. absurd (omega arith) }

last_hold : List (ℕ × ℕ) → ℕ
last_hold times = (get_or times (length times - 1) (0, 0)).1

-- a line that shows no picture
pub same_counted : (before : List Drawing) (line : Drawing) (old : ScriptReader) (draft : Option ScriptDraft)
    → shows (before ++ line ∷ []) ≡ shows before → HasCounted before old
    → HasCounted (before ++ line ∷ []) (record { pictures = old.pictures; held = old.held; draft = draft })
unfolding last_hold
same_counted before line old draft same counted = record {
  count = counted.count ∙ ap length (sym same);
  held =
      λ some. counted.held (subst (λ (times : List (ℕ × ℕ)). 0 < length times) same some)
      ∙ ap last_hold (sym same);
}

hold_pushed : (times : List (ℕ × ℕ)) (ready hold : ℕ) → last_hold (times ++ (ready, hold) ∷ []) ≡ hold
unfolding last_hold
hold_pushed times ready hold =
    let shown : ℕ × ℕ = (ready, hold) in
    let size = length-append times (shown ∷ []) in
    let at : length (times ++ shown ∷ []) - 1 ≡ length times = omega (arith, size) in
    ap (λ k. (get_or (times ++ shown ∷ []) k (0, 0)).1) at
    ∙ ap (λ (t : ℕ × ℕ). t.1) (get_or-append_seam times shown [] (0, 0))

-- a line that shows a picture
pub one_counted : (before : List Drawing) (ready hold : ℕ) (old : ScriptReader) (draft : Option ScriptDraft)
    → HasCounted before old
    → HasCounted (before ++ Show ready hold ∷ [])
    (record { pictures = old.pictures + 1; held = hold; draft = draft })
unfolding last_hold
one_counted before ready hold old draft counted =
    let more = shows-show before ready hold in
    record {
      count =
          omega (arith, counted.count, ap length more, length-append (shows before) ((ready, hold) ∷ []));
      held = λ some. sym (ap last_hold more ∙ hold_pushed (shows before) ready hold);
    }

-- without a draft, nothing is kept
pub none_kept : (script : List Drawing) (draft : Option ScriptDraft) → draft ≡ None
    → IfSome draft (λ kept. IsSound kept × (said_in kept ≡ script))
none_kept script draft none =
    subst (λ o. IfSome o (λ kept. IsSound kept × (said_in kept ≡ script))) (sym none) tt

-- one more line is kept, if the earlier lines were
pub more_kept : {E : Type 0} (kept : Result (Unit {0}) E) (before : List Drawing) (line added : Drawing)
    (draft : Option ScriptDraft) (old new : ScriptDraft) → draft ≡ Some old
    → IfSome draft (λ kept. IsSound kept × (said_in kept ≡ before)) → added ≡ line
    → OnOk kept (Adds old new added)
    → OnOk kept (IsSound new × (said_in new ≡ before ++ line ∷ []))
more_kept (Ok u) before line added draft old new is had same adds =
    let was = subst (λ o. IfSome o (λ kept. IsSound kept × (said_in kept ≡ before))) is had in
    (adds.sound, adds.lines_are ∙ ap₂ (λ b l. b ++ l ∷ []) was.1 same)
more_kept (Err e) before line added draft old new is had same adds = tt

-- the script that is made of all lines
pub made : {E : Type 0} (result : Result (List Drawing) E) (read : Result (List Drawing) (ℕ × ScriptWhy))
    (script : List Drawing) → read ≡ Ok script → IfOk result (λ made. made ≡ script)
    → IfOk result (λ made. read ≡ Ok made)
made (Ok it) read script is same = is ∙ ap Ok (sym same)
made (Err e) read script is same = tt

pub not_made : {A : Type 0} (result : Result A ScriptStop) (read : Result (List Drawing) (ℕ × ScriptWhy))
    (script : List Drawing) → read ≡ Ok script → IfErr result (λ stop. stop ≡ NoMemory)
    → IfErr result (StopsAt read)
not_made (Ok it) read script is same = tt
not_made (Err stop) read script is same = subst (StopsAt read) (sym same) (script, is)
