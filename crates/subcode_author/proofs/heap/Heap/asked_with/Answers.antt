use Rattle.std.proofs.Common.{refl}
use Rattle.subcode_author.proofs.heap.Heap.asked_with.Goals as goal

pub returns-in-Err-clause-answer : goal.returns-in-Err-clause-answer
returns-in-Err-clause-answer g c = record {
  alloc = _;
  first = _;
  first_is = refl;
  second = _;
  second_is = refl;
  first_left = _;
  second_left = _;
  called = c.call-answer.ensures;
  first_leaves = refl;
  second_leaves = refl;
}

pub returns-in_default-clause-answer : goal.returns-in_default-clause-answer
returns-in_default-clause-answer g c = record {
  alloc = _;
  first = _;
  first_is = refl;
  second = _;
  second_is = refl;
  first_left = _;
  second_left = _;
  called = c.call-answer.ensures;
  first_leaves = refl;
  second_leaves = refl;
}
