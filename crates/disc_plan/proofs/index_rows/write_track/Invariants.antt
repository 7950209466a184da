use Rattle.std.proofs.Common.{◌≡◌}
use Rattle.std.proofs.Math.Seq.{paste}
use Rattle.cue_sheet.specs.CueSheet.{track_of}
use Rattle.disc_plan.specs.SheetRows.{track_rows}
use Rattle.disc_plan.proofs.index_rows.write_track.Given as goal

abbrev pub invariant-loop-j : goal.invariant-loop-j
invariant-loop-j l = l.rows ≡ paste l.initial.rows l.at (track_rows (track_of l.sheet l.k)) l.j
