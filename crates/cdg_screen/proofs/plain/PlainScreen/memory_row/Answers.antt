use Rattle.std.proofs.Common.{[], ap, get_or, ◌∙◌}
use Rattle.cdg_screen.specs.Memory.{at, seen}
use Rattle.cdg_screen.specs.Standing.{Standing}
use Rattle.cdg_screen.proofs.Lists.{row_is}
use Rattle.cdg_screen.proofs.plain.PlainScreen.memory_row.Goals as goal

pub returns-clause-row : goal.returns-clause-row
returns-clause-row c =
    row_is c.row.result (at c.self.inside.memory) c.args.y c.requires c.row.ensures.size c.row.ensures.pixels
    ∙ ap (λ (now : Standing). get_or now.memory c.args.y []) (ap seen c.self.view_is)
