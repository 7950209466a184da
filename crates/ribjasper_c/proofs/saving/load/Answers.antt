use Rattle.std.proofs.Common.{List, ℕ, subst, rules}
use Rattle.cdg_checkpoint.specs.Checkpoint.{checkpoint_in}
use Rattle.live_player.specs.Saving.{IsAt}
use Rattle.live_player.proofs.Saves.{restores}
use Rattle.ribjasper_c.proofs.saving.load.Goals as goal

pub returns-clause-loads : goal.returns-clause-loads
returns-clause-loads c =
    restores c.args.file.now c.args.live.now c.restore.new.live c.args.byte.now (search rules)
    (subst (λ (file : List ℕ). IsAt (checkpoint_in file) c.restore.new.live) c.in-Ok.ensures.file
    c.restore.ensures)
