use Rattle.std.proofs.Common.{◌≡◌, length, rules, arith, ◌∙◌}
use Rattle.cdg_workload.proofs.BlockRuns.{run_more, some_ready}
use Rattle.cdg_workload.proofs.needle.Needle.scratch_all.Goals as goal

pub pass_burst-at-requires : goal.pass_burst-at-requires
pass_burst-at-requires c = record {
  place = c.loop-at-test.true;
  some = some_ready c.loop-at.self c.make_ready.new.self c.make_ready.ensures;
}

pub loop-at-preserved : goal.loop-at-preserved
loop-at-preserved c =
    let kept = c.loop-at.invariant in
    let passed = c.pass_burst-at.ensures in
    let same : length c.pass_burst-at.new.bytes ≡ length c.loop-at.bytes = search rules in
    let (now, done, rest) = run_more c.args.self.now c.loop-at.self c.make_ready.new.self
    c.pass_burst-at.new.self c.args.bytes.now c.loop-at.bytes c.pass_burst-at.new.bytes c.loop-at.at
    c.pass_burst-at.result passed.further (omega (arith, passed.within, same, kept.size))
    c.make_ready.ensures passed.next passed.gives passed.rest kept.now kept.done kept.rest in
    record {
      size = same ∙ kept.size;
      within = passed.within;
      now = now;
      done = done;
      rest = rest;
    }
