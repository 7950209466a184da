-- The errors of reading a script.
use Rattle.std.specs.Prelude.{◌≡◌, ℕ, List, Result, Ok, Err}
use Rattle.picture_script.specs.Script.{Drawing}
use Rattle.picture_script.specs.declared.reasons.ScriptWhy.{ScriptWhy}
use Rattle.picture_script.specs.declared.reasons.ScriptStop.{ScriptStop}
use Rattle.picture_script.specs.declared.reasons.ScriptStop.TheVariants.{Fault, NoMemory}

-- A fault has the first refused line and its first reason. `NoMemory` is possible only if no line is refused.
abbrev pub StopsAt : Result (List Drawing) (ℕ × ScriptWhy) → ScriptStop → Type 0
StopsAt read (Fault line why) = read ≡ Err (line, why)
StopsAt read NoMemory = (script : List Drawing) × (read ≡ Ok script)
