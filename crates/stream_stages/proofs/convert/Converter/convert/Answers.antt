use Rattle.std.proofs.Common.{◌≡◌, rules}
use Rattle.cdg_io.proofs.Frames.{machine_of}
use Rattle.raw_subcode.specs.Channels.{unit_size}
use Rattle.stream_stages.specs.Steps.{packs_next, packs_give}
use Rattle.stream_stages.proofs.Converting.{converted}
use Rattle.stream_stages.proofs.PumpedBlocks.{plain_pumps, sector_pumps}
use Rattle.stream_stages.proofs.Restoring.{restores}
use Rattle.stream_stages.proofs.convert.Converter.convert.Goals as goal

pub returns-in-Sector-clause-plays : goal.returns-in-Sector-clause-plays
returns-in-Sector-clause-plays g c =
    let (taken, p) = c.pump_units-pumped.ensures.pumps in
    let size : unit_size c.args.form ≡ 2448 = search rules in
    converted _ _ c.args.form c.args.lead_in _ _ _ _ c.begin.ensures.words c.begin.ensures.bad
    c.pump_units-pumped.result _ 2448 taken c.played.ensures size
    (sector_pumps c.args.form (machine_of packs_next packs_give) _ c.pump_units-pumped.result taken
    c.in-Sector.is p)
    c.pump_units-pumped.ensures.reads c.pump_units-pumped.ensures.write_fault

pub returns-in-Raw-clause-plays : goal.returns-in-Raw-clause-plays
returns-in-Raw-clause-plays g c =
    let (taken, p) = c.pump_units-pumped-in-Raw.ensures.pumps in
    let size : unit_size c.args.form ≡ 96 = search rules in
    converted _ _ c.args.form c.args.lead_in _ _ _ _ c.begin.ensures.words c.begin.ensures.bad
    c.pump_units-pumped-in-Raw.result _ 96 taken c.played-in-Raw.ensures size
    (plain_pumps c.args.form (machine_of packs_next packs_give) _ c.pump_units-pumped-in-Raw.result taken size
    p)
    c.pump_units-pumped-in-Raw.ensures.reads c.pump_units-pumped-in-Raw.ensures.write_fault

pub returns-in-Sector-clause-restores : goal.returns-in-Sector-clause-restores
returns-in-Sector-clause-restores g c =
    let law = c.damaged_streams_give_packs.ensures in
    let plays = returns-in-Sector-clause-plays g c in
    restores c.args.form c.args.lead_in _ _ _ _ _ plays.taken law.text law.bad plays.puts plays.answer

pub returns-in-Raw-clause-restores : goal.returns-in-Raw-clause-restores
returns-in-Raw-clause-restores g c =
    let law = c.damaged_streams_give_packs.ensures in
    let plays = returns-in-Raw-clause-plays g c in
    restores c.args.form c.args.lead_in _ _ _ _ _ plays.taken law.text law.bad plays.puts plays.answer
