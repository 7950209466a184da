use Rattle.std.proofs.Common.{refl, arith}
use Rattle.cdg_io.proofs.Frames.{machine_of}
use Rattle.raw_subcode.specs.Channels.{unit_size}
use Rattle.stream_stages.specs.Watch.{on_units}
use Rattle.stream_stages.proofs.Playing.{unit_some}
use Rattle.stream_stages.proofs.WatchedBlocks.{watches, blocks_of_units}
use Rattle.stream_stages.proofs.played.watch.Goals as goal

pub returns-clause-watches : goal.returns-clause-watches
returns-clause-watches g c =
    let (taken, p) = c.pump_blocks.ensures.pumps in
    let form = c.args.form in (
      taken,
      watches form (unit_size form)
          (machine_of (on_units form g.G.Stage.next) (on_units form g.G.Stage.gives)) g.G.Stage.next
          (λ (s : g.row.G.Denot). s) _ taken c.pump_blocks.result refl (unit_some form)
          (λ h. omega (arith, c.pump_blocks.ensures.write_fault.rose h)) (blocks_of_units form g.G.Stage.next)
          p,
    )
