-- What moved, from the changes of its parts.
use Rattle.std.specs.Prelude.{ℕ, List, Option}
use Rattle.cdg_io.specs.Change.{Bytes, Change, Fed, Moved, Passed}
use Rattle.cdg_io.specs.Pump.{Machine}

abbrev pub passing : Change Bytes → Change Bytes → Passed
passing left held = record { left = left; held = held }

abbrev pub feeding : {S : Type 0} → Change Bytes → Change S → Fed S
feeding left state = record { left = left; state = state }

abbrev pub moving : {S : Type 0} → Change Bytes → Change S → Change Bytes → Moved S
moving left state held = record { left = left; state = state; held = held }

abbrev pub machine_of : {S : Type 0} → (S → List ℕ → S) → (S → List ℕ → Option (List ℕ)) → Machine S
machine_of next gives = record { next = next; gives = gives }
