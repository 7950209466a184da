use Rattle.run_laws.proofs.FedStreams.{brought_back}
use Rattle.run_laws.proofs.SaveCalls.{saved_file}
use Rattle.run_laws.proofs.conversions.players_go_on_from_saved_streams.Goals as goal

pub returns : goal.returns
returns c lead_in given bytes file back blocks save there =
    let (pumped, saved, first) = saved_file lead_in bytes file save in
    brought_back lead_in given bytes first blocks file pumped saved back there
