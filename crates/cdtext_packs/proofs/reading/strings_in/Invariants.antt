use Rattle.std.proofs.Common.{◌≤◌, length, drop}
use Rattle.cdtext_packs.proofs.Cuts.{IsCut}
use Rattle.cdtext_packs.proofs.reading.strings_in.Given as goal

abbrev pub invariant-loop-place : goal.invariant-loop-place
invariant-loop-place l = (l.start ≤ length l.bytes) × IsCut l.bytes (drop l.start l.bytes) l.strings l._place
