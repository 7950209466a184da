-- The state of a reader of a script.
use Rattle.std.specs.Prelude.{◌≡◌, ℕ, ◌-◌, ◌<◌, List, [], ◌∷◌, ◌++◌, Result, Ok, Err, MatchResult, IfSome}
use Rattle.picture_script.specs.Script.{Drawing, pictures, hold_time}
use Rattle.picture_script.specs.ScriptGrammar.{script_step}
use Rattle.picture_script.specs.Lines.{said_in, IsSound}
use Rattle.picture_script.specs.declared.reader.ScriptReader.{ScriptReader}
use Rattle.picture_script.specs.declared.reasons.ScriptWhy.{ScriptWhy}

-- The reader has the number of pictures in these lines, and the hold time of the last one.
pub record HasCounted (script : List Drawing) (reader : ScriptReader) : Type 0 where
  pub count : reader.pictures ≡ pictures script
  pub held : 0 < pictures script → reader.held ≡ hold_time script (pictures script - 1)

-- If there was memory for the lines, the reader has them.
abbrev pub IsKeptBy : List Drawing → ScriptReader → Type 0
IsKeptBy script reader = IfSome reader.draft (λ draft. IsSound draft × (said_in draft ≡ script))

-- The reader is in its state after these lines.
abbrev pub Followed : List Drawing → ScriptReader → Type 0
Followed script reader = HasCounted script reader × IsKeptBy script reader

-- If the check accepted a line, the reader has added it to the previous lines. If not, the result has the reason.
abbrev pub Takes : List Drawing → Result Drawing ScriptWhy → ScriptReader → Result (Unit {0}) ScriptWhy
    → Type 0
Takes before judged reader result =
    MatchResult result (λ _. (line : Drawing) × (judged ≡ Ok line) × Followed (before ++ line ∷ []) reader)
    (λ why. judged ≡ Err why)

-- If the line of text is accepted, the reader is in its state after the line. If not, the result has the reason.
abbrev pub Follows : List Drawing → List ℕ → ScriptReader → Result (Unit {0}) ScriptWhy → Type 0
Follows before line reader result =
    MatchResult result (λ _. (after : List Drawing) × (script_step before line ≡ Ok after)
    × Followed after reader)
    (λ why. script_step before line ≡ Err why)
