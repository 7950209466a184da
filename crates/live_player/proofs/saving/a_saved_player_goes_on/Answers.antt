use Rattle.live_player.proofs.Saved.{goes_on, is_file, is_raw}
use Rattle.live_player.proofs.saving.a_saved_player_goes_on.Goals as goal

pub returns-clause-raw : goal.returns-clause-raw
returns-clause-raw c lead_in given saved played = is_raw lead_in given saved played

pub returns-clause-accepted : goal.returns-clause-accepted
returns-clause-accepted c lead_in given saved played lead_in_most few =
    is_file lead_in given saved played lead_in_most few

pub returns-clause-goes_on : goal.returns-clause-goes_on
returns-clause-goes_on c lead_in given saved back played lead_in_most few there =
    goes_on lead_in given saved played lead_in_most few back there
