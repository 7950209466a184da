use Rattle.toc_model.specs.Places.{program_blocks}
use Rattle.run_laws.proofs.Streams.{ScratchesAreKnown, is_damaged, all_are}
use Rattle.run_laws.proofs.conversions.scratched_streams_are_damaged.Goals as goal

pub returns-clause-damaged : goal.returns-clause-damaged
returns-clause-damaged c sheet script lead_in audio seed bytes packs lead_in_few blocks_few is =
    let s = c.scratched_streams_are_recovered.ensures in
    let known : ScratchesAreKnown lead_in seed bytes = record {
      size = s.size lead_in seed bytes;
      damaged = s.damaged sheet script lead_in audio seed bytes packs is;
    } in
    is_damaged sheet script lead_in audio seed bytes packs known lead_in_few blocks_few is

pub returns-clause-packs : goal.returns-clause-packs
returns-clause-packs c = all_are

pub returns-clause-scheduled : goal.returns-clause-scheduled
returns-clause-scheduled c sheet script lead_in audio seed bytes packs lead_in_few blocks_few order is =
    let s = c.scratched_streams_are_recovered.ensures in
    let known : ScratchesAreKnown lead_in seed bytes = record {
      size = s.size lead_in seed bytes;
      damaged = s.damaged sheet script lead_in audio seed bytes packs is;
    } in
    record {
      blocks = program_blocks sheet audio;
      packs = packs;
      stream = is_damaged sheet script lead_in audio seed bytes packs known lead_in_few blocks_few is;
      schedule = is.schedule;
      order = order;
    }
