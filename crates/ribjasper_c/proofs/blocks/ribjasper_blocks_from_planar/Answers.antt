use Rattle.std.proofs.Common.{◌+◌, ◌<◌, ◌∙◌, ℕ, [], List, get_or, length, rules, arith}
use Rattle.std.proofs.lemmas.List.{drop-set-lt}
use Rattle.raw_subcode.specs.Channels.{IsPlanarForm}
use Rattle.live_player.proofs.Drops.{more_written, rest_on}
use Rattle.ribjasper_c.proofs.blocks.ribjasper_blocks_from_planar.Goals as goal

pub loop-n-preserved : goal.loop-n-preserved
loop-n-preserved c =
    let fits : c.loop-n.n < length c.loop-n.blocks =
    omega (arith, c.loop-n-test.true, c.min-n-end.ensures, c.loop-n.invariant.size) in
    record {
      size = search rules;
      forms =
          more_written (λ k (block : List ℕ). IsPlanarForm block (get_or c.args.planar.now k []))
          c.loop-n.blocks
          c.loop-n.n c.bytes.result [] fits c.loop-n.invariant.forms (search rules);
      rest =
          drop-set-lt (c.loop-n.n + 1) c.loop-n.blocks c.loop-n.n c.bytes.result (omega arith)
          ∙ rest_on c.loop-n.n (c.loop-n.n + 1) c.loop-n.blocks c.args.blocks.now (omega arith)
          c.loop-n.invariant.rest;
    }

pub returns-clause-rest : goal.returns-clause-rest
returns-clause-rest c =
    rest_on c.loop-n.n _ c.loop-n.blocks c.args.blocks.now
    (omega (arith, c.loop-n-test.false, c.min-n-end.ensures)) c.loop-n.invariant.rest
