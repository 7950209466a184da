use Rattle.cdg_screen.specs.Memory.{seen}
use Rattle.stream_stages.proofs.IdlePacks.{kept}
use Rattle.stream_stages.proofs.painting.idle_packs_draw_nothing.Goals as goal

pub returns : goal.returns
returns c = kept (seen c.args.screen.now) c.what_stands_is_whole.ensures
