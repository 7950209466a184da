use Rattle.std.proofs.Common.{◌≡◌, take}
use Rattle.stream_stages.specs.Drawn.{draw_after}
use Rattle.stream_stages.proofs.painting.Painting.draw_each.Given as goal

abbrev pub invariant-loop-word : goal.invariant-loop-word
invariant-loop-word l = l.self ≡ draw_after l.fn.self (take l.word-index l.word-items)
