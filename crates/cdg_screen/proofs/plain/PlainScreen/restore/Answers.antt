use Rattle.std.proofs.Common.{◌*◌, ◌+◌, get_or}
use Rattle.cdg_screen.specs.Memory.{at}
use Rattle.cdg_screen.proofs.Lists.{rows_same}
use Rattle.cdg_screen.proofs.plain.PlainScreen.restore.Goals as goal

pub returns : goal.returns
returns c =
    let memory =
    rows_same (at c.restore.new.self) (λ x y. get_or c.args.pixels.now (300 * y + x) 0) c.restore.ensures in
    λ i. record {
      memory = memory i;
      border = c.args.border;
      colours = c.args.colours.now;
      levels = c.args.levels.now;
      h = c.args.offsets.0;
      v = c.args.offsets.1;
    }
