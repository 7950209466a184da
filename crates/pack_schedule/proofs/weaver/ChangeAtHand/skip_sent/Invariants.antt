use Rattle.std.proofs.Common.{◌≡◌}
use Rattle.pack_schedule.specs.Weaving.{IsWeaving}
use Rattle.pack_schedule.proofs.weaver.ChangeAtHand.skip_sent.Given as goal

abbrev pub invariant-loop-k : goal.invariant-loop-k
invariant-loop-k l = IsWeaving l.script l.self l.given × (l.self.k ≡ l._k)
