use Rattle.std.proofs.Common.{◌≡◌, ◌≤◌, ◌+◌}
use Rattle.std.specs.Prelude.{map}
use Rattle.bit_lists.specs.Counting.{below}
use Rattle.toc_model.specs.Places.{pregaps_to, postgaps_to, place_of}
use Rattle.toc_model.proofs.place.places.Given as goal

abbrev pub invariant-loop-k : goal.invariant-loop-k
invariant-loop-k l = record {
  places : l.places.items ≡ map (place_of l.sheet) (below l.k);
  gaps : l.gaps ≡ pregaps_to l.sheet l.k + postgaps_to l.sheet l.k;
  small : l.gaps ≤ 449999;
}
