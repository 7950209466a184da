use Rattle.rw_interleave.proofs.Bursts.{damaged_raw, damaged_sector}
use Rattle.rw_interleave.proofs.laws.bursts_are_damage.Goals as goal

pub returns-clause-raw : goal.returns-clause-raw
returns-clause-raw c blocks symbols others size differs = damaged_raw blocks symbols others size differs

pub returns-clause-sector : goal.returns-clause-sector
returns-clause-sector c blocks symbols others size differs = damaged_sector blocks symbols others size differs
