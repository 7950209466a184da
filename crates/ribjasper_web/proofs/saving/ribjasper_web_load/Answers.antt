use Rattle.std.proofs.Common.{List, ℕ, subst, rules}
use Rattle.cdg_checkpoint.specs.Checkpoint.{checkpoint_in}
use Rattle.live_player.specs.Plain.{player_of}
use Rattle.live_player.specs.Saving.{IsAt}
use Rattle.live_player.proofs.Saves.{restores}
use Rattle.ribjasper_web.proofs.saving.ribjasper_web_load.Goals as goal

pub returns-clause-loads : goal.returns-clause-loads
returns-clause-loads c =
    let after = c.restore.new.self in
    restores c.args.file.now (player_of c.args.player.now) (player_of after) c.args.byte.now (search rules)
    (subst (λ (file : List ℕ). IsAt (checkpoint_in file) (player_of after)) c.copy_bytes.ensures
    c.restore.ensures)
