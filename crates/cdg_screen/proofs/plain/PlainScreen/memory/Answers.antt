use Rattle.std.proofs.Common.{sym, ◌∙◌, ap}
use Rattle.cdg_screen.specs.Standing.{Standing, pixel_at}
use Rattle.cdg_screen.specs.Memory.{at, seen}
use Rattle.cdg_screen.proofs.Lists.{pixel_of_rows}
use Rattle.cdg_screen.proofs.plain.PlainScreen.memory.Goals as goal

pub returns-clause-pixel : goal.returns-clause-pixel
returns-clause-pixel c =
    c.get.ensures.pixel
    ∙ sym (pixel_of_rows (at c.self.inside.memory) c.args.x c.args.y c.requires.width c.requires.height)
    ∙ ap (λ (now : Standing). pixel_at now.memory c.args.x c.args.y) (ap seen c.self.view_is)
