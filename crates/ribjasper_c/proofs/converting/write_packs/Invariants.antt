use Rattle.std.proofs.Common.{◌≡◌, ◌++◌, drop, length}
use Rattle.ribjasper_c.proofs.Conversions.{stages_after, text_of}
use Rattle.ribjasper_c.proofs.converting.write_packs.Given as goal

abbrev pub invariant-loop-n : goal.invariant-loop-n
invariant-loop-n l = record {
  stages : l.stages ≡ stages_after l.form l.lead_in l.stream l.n;
  at : l.at ≡ length (text_of l.form l.lead_in l.stream l.n);
  packs : l.packs
      ≡ text_of l.form l.lead_in l.stream l.n
      ++ drop (length (text_of l.form l.lead_in l.stream l.n)) l.initial.packs;
}
