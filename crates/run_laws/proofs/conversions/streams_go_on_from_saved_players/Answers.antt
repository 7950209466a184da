use Rattle.cdg_checkpoint.specs.Checkpoint.{file_of}
use Rattle.live_player.specs.Saving.{checkpoint_of}
use Rattle.run_laws.proofs.FedStreams.{player_is_saved}
use Rattle.run_laws.proofs.SaveCalls.{save_of}
use Rattle.run_laws.proofs.conversions.streams_go_on_from_saved_players.Goals as goal

pub returns : goal.returns
returns c lead_in given bytes saved blocks first played =
    save_of lead_in bytes (file_of (checkpoint_of saved)) first
    (player_is_saved lead_in given bytes first blocks saved played)
