use Rattle.std.proofs.Common.{◌≡◌, ◌<◌, ℕ, [], drop, length}
use Rattle.std.specs.Prelude.{slice_index_or}
use Rattle.ribjasper_web.specs.Packs.{IsTakenAs}
use Rattle.ribjasper_web.specs.Packs.{absent_pack}
use Rattle.ribjasper_web.proofs.reading.read_all.Given as goal

abbrev pub invariant-loop-i : goal.invariant-loop-i
invariant-loop-i l = record {
  size : length l.packs ≡ 4;
  reported : (n : ℕ) → n < l.i
      → IsTakenAs (slice_index_or l.words n [])
      (slice_index_or l.packs n absent_pack).symbols (slice_index_or l.packs n absent_pack).wrong;
  rest : drop l.i l.packs ≡ drop l.i l.initial.packs;
}
