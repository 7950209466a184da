use Rattle.std.proofs.Common.{◌≡◌, ◌<◌, ℕ, [], drop, length}
use Rattle.std.specs.Prelude.{slice_index_or}
use Rattle.ribjasper_c.specs.Answers.{IsCorrected}
use Rattle.ribjasper_c.specs.Packs.{no_pack}
use Rattle.ribjasper_c.proofs.taking.read_all.Given as goal

abbrev pub invariant-loop-i : goal.invariant-loop-i
invariant-loop-i l = record {
  size : length l.packs ≡ 4;
  reported : (n : ℕ) → n < l.i
      → IsCorrected (slice_index_or l.words n []) (slice_index_or l.words n [])
      (slice_index_or l.packs n no_pack).symbols (slice_index_or l.packs n no_pack).wrong;
  rest : drop l.i l.packs ≡ drop l.i l.initial.packs;
}
