use Rattle.cdg_screen.specs.Memory.{Kept}
use Rattle.cdg_screen.proofs.Obeyed.{seen_is_whole}
use Rattle.cdg_screen.proofs.plain.PlainScreen.what_stands_is_whole.Goals as goal

pub returns : goal.returns
returns c =
    let kept : Kept = record {
      memory = c.self.inside.memory;
      border = c.self.inside.border;
      colours = c.self.inside.colours;
      levels = c.self.inside.levels;
      h = c.self.inside.h;
      v = c.self.inside.v;
    } in
    rw (← c.self.view_is) (seen_is_whole kept c.self.invariant.colours_count c.self.invariant.levels_count)
