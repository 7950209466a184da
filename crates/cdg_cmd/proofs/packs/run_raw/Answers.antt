use Rattle.raw_subcode.specs.Channels.{IsPlanarForm}
use Rattle.raw_subcode.specs.PlanarBytes.{block_from_planar}
use Rattle.cdg_cmd.proofs.TurnRuns.{block_turn, turns}
use Rattle.cdg_cmd.proofs.packs.run_raw.Goals as goal

pub returns-clause-does : goal.returns-clause-does
returns-clause-does g c =
    let (taken, pumps) = c.pump.ensures.pumps in
    record {
      answer = c.pump.result;
      status_is = c.pump_status.ensures;
      taken = taken;
      did =
          turns (λ planar block. IsPlanarForm block planar) block_from_planar block_turn _ taken c.pump.result
          pumps;
      exactly = c.pump.ensures.reads.answer;
    }
