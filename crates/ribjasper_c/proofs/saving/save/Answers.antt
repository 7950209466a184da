use Rattle.std.proofs.Common.{rules}
use Rattle.live_player.proofs.Saves.{refuses}
use Rattle.ribjasper_c.proofs.saving.save.Goals as goal

pub returns-then-not-fits_checkpoint-clause-saves : goal.returns-then-not-fits_checkpoint-clause-saves
returns-then-not-fits_checkpoint-clause-saves c =
    refuses c.args.live.now c.args.file.now (c.fits_checkpoint.ensures.refused (search rules))
