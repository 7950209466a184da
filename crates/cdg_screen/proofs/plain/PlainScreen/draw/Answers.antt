use Rattle.std.proofs.Common.{ap, refl}
use Rattle.cdg_instructions.specs.declared.effect.Effect.TheVariants.{Draw}
use Rattle.cdg_screen.specs.Memory.{Kept, seen}
use Rattle.cdg_screen.proofs.Obeyed.{obeyed_by}
use Rattle.cdg_screen.proofs.plain.PlainScreen.draw.Goals as goal

pub returns : goal.returns
returns c = λ instr draws.
    let old : Kept = record {
      memory = c.self.inside.memory;
      border = c.self.inside.border;
      colours = c.self.inside.colours;
      levels = c.self.inside.levels;
      h = c.self.inside.h;
      v = c.self.inside.v;
    } in
    obeyed_by (seen c.args.self.now) instr (Draw c.args.tile.now) old
    (record old { memory = c.draw_tile.new.self }) (ap seen c.self.view_is) draws
    c.self.invariant.colours_count c.self.invariant.levels_count (record {
      memory = c.draw_tile.ensures;
      border = refl;
      colours = λ k _. refl;
      levels = λ k _. refl;
      h = refl;
      v = refl;
    })
