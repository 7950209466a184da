use Rattle.std.proofs.Common.{length}
use Rattle.cue_sheet.specs.Grammar.{CueState}
use Rattle.cue_sheet.specs.Judging.{HasReadLines}
use Rattle.cue_sheet.proofs.Reading.{Reading}
use Rattle.cue_sheet.proofs.reader.SheetReader.read.Given as goal

abbrev pub invariant-loop-line : goal.invariant-loop-line
invariant-loop-line l = (said : CueState) × Reading l.fn.text l.rest l.number said × HasReadLines said l.self

abbrev pub decreases-loop-line : goal.decreases-loop-line
decreases-loop-line l = length l.rest
