use Rattle.raw_subcode.specs.Channels.{IsPlanarForm}
use Rattle.raw_subcode.specs.PlanarBytes.{planar_form}
use Rattle.cdg_cmd.proofs.TurnRuns.{planar_turn, turns}
use Rattle.cdg_cmd.proofs.packs.run_planar.Goals as goal

pub returns-clause-does : goal.returns-clause-does
returns-clause-does g c =
    let (taken, pumps) = c.pump.ensures.pumps in
    record {
      answer = c.pump.result;
      status_is = c.pump_status.ensures;
      taken = taken;
      did = turns IsPlanarForm planar_form planar_turn _ taken c.pump.result pumps;
      exactly = c.pump.ensures.reads.answer;
    }
