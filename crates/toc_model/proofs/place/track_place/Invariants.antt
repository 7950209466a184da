use Rattle.std.proofs.Common.{◌≡◌, ℕ, ◌+◌, take}
use Rattle.std.specs.Prelude.{map}
use Rattle.cue_sheet.specs.CueSheet.{track_of}
use Rattle.toc_model.proofs.place.track_place.Given as goal

abbrev pub invariant-loop-j : goal.invariant-loop-j
invariant-loop-j l =
    l.lines.items
    ≡ map (λ (line : ℕ × ℕ). (line.0, l.before + line.1)) (take l.j (track_of l.sheet l.k).indices)
