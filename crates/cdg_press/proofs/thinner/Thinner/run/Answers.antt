use Rattle.cdg_press.proofs.Calls.{thins, whole}
use Rattle.cdg_press.proofs.thinner.Thinner.run.Goals as goal

pub returns-clause-thins : goal.returns-clause-thins
returns-clause-thins g c = (
  c.pump_units.ensures.pumps.0,
  thins _ c.pump_units.ensures.pumps.0 c.reset.ensures c.pump_units.result c.pump_units.ensures.pumps.1,
)

pub returns-clause-whole : goal.returns-clause-whole
returns-clause-whole g c = whole _ _ _ c.pump_units.result _ (returns-clause-thins g c).1
