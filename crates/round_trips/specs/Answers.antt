-- The result of a list of texts.
use Rattle.std.specs.Prelude.{◌≡◌, ⊤, ℕ, List, Result, Ok, Err}
use Rattle.std.specs.declared.option.Option.{Option}
use Rattle.std.specs.Io.KnownBytes.{Appends}
use Rattle.cdtext_packs.specs.declared.kinds.TextFault.TheVariants.{NoMemory}
use Rattle.stream_stages.specs.declared.played.Played.{Played}
use Rattle.stream_stages.specs.declared.played.PlayStop.{PlayStop}
use Rattle.stream_stages.specs.declared.played.PlayStop.TheVariants.{ReadFault, WriteFault, Text}

-- If no read, no write and no allocation failed, this text was written, and nothing was bad.
abbrev pub PutsTexts : Result Played PlayStop → Option (List ℕ) → Option (List ℕ) → List ℕ → Type 0
PutsTexts (Ok played) held held' text = (played.bad ≡ 0) × Appends held held' text
PutsTexts (Err ReadFault) held held' text = ⊤
PutsTexts (Err WriteFault) held held' text = ⊤
PutsTexts (Err (Text fault)) held held' text = fault ≡ NoMemory
PutsTexts (Err stop) held held' text = ⊥
