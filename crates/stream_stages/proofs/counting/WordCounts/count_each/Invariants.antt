use Rattle.std.proofs.Common.{◌≡◌, ◌+◌, ◌≤◌, take}
use Rattle.stream_stages.specs.CheckSteps.{count_after, with_near}
use Rattle.stream_stages.proofs.counting.WordCounts.count_each.Given as goal

abbrev pub invariant-loop-word : goal.invariant-loop-word
invariant-loop-word l = record {
  counted : with_near l.self l.near ≡ count_after l.fn.self (take l.word-index l.word-items);
  few : l.near.clean + l.near.one + l.near.two ≤ l.word-index;
}
