use Rattle.rw_mend.proofs.Recovered.{found_again}
use Rattle.rw_mend.proofs.stream_laws.mended_packs_are_recovered.Goals as goal

pub returns : goal.returns
returns c words lead_in readings programs said found stream recovered =
    found_again words lead_in readings programs said found stream recovered
