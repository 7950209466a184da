use Rattle.std.proofs.Common.{◌≡◌, rules}
use Rattle.cdg_io.proofs.Frames.{machine_of}
use Rattle.raw_subcode.specs.Channels.{unit_size}
use Rattle.stream_stages.proofs.PumpedBlocks.{plain_pumps, sector_pumps}
use Rattle.stream_stages.proofs.played.pump_blocks.Goals as goal

pub returns-in-Sector-clause-pumps : goal.returns-in-Sector-clause-pumps
returns-in-Sector-clause-pumps g c =
    let (taken, p) = c.pump.ensures.pumps in (
      taken,
      sector_pumps c.args.form (machine_of g.G.Stage.next g.G.Stage.gives) _ c.pump.result taken
          c.in-Sector.is p,
    )

pub returns-in-Raw-clause-pumps : goal.returns-in-Raw-clause-pumps
returns-in-Raw-clause-pumps g c =
    let (taken, p) = c.pump-in-Raw.ensures.pumps in
    let size : unit_size c.args.form ≡ 96 = search rules in (
      taken,
      plain_pumps c.args.form (machine_of g.G.Stage.next g.G.Stage.gives) _ c.pump-in-Raw.result taken size p,
    )
