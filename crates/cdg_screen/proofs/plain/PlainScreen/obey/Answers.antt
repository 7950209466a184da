use Rattle.cdg_screen.specs.Memory.{Kept, seen}
use Rattle.std.proofs.Common.{ap, refl, sym, ◌∙◌, rules}
use Rattle.cdg_instructions.specs.declared.effect.Effect.TheVariants.{Nothing, Clear, Border, Draw, Scroll, Levels, Colours}
use Rattle.cdg_screen.proofs.Obeyed.{obeyed_by}
use Rattle.cdg_screen.proofs.plain.PlainScreen.obey.Goals as goal

pub returns-in-Nothing : goal.returns-in-Nothing
returns-in-Nothing c =
    let old : Kept = record {
      memory = c.self.inside.memory;
      border = c.self.inside.border;
      colours = c.self.inside.colours;
      levels = c.self.inside.levels;
      h = c.self.inside.h;
      v = c.self.inside.v;
    } in
    obeyed_by (seen c.args.self.now) c.args.instr.now (Nothing) old (old) (ap seen c.self.view_is)
    (sym c.effect.ensures.effect ∙ c.in-Nothing.is)
    c.self.invariant.colours_count c.self.invariant.levels_count (record {
      memory = λ x y _ _. refl;
      border = refl;
      colours = λ k _. refl;
      levels = λ k _. refl;
      h = refl;
      v = refl;
    })

pub returns-in-Clear : goal.returns-in-Clear
returns-in-Clear c =
    let old : Kept = record {
      memory = c.self.inside.memory;
      border = c.self.inside.border;
      colours = c.self.inside.colours;
      levels = c.self.inside.levels;
      h = c.self.inside.h;
      v = c.self.inside.v;
    } in
    obeyed_by (seen c.args.self.now) c.args.instr.now (Clear c.in-Clear.colour) old
    (record old { memory = c.clear.new.self }) (ap seen c.self.view_is)
    (sym c.effect.ensures.effect ∙ c.in-Clear.is)
    c.self.invariant.colours_count c.self.invariant.levels_count (record {
      memory = c.clear.ensures;
      border = refl;
      colours = λ k _. refl;
      levels = λ k _. refl;
      h = refl;
      v = refl;
    })

pub returns-in-Border : goal.returns-in-Border
returns-in-Border c =
    let old : Kept = record {
      memory = c.self.inside.memory;
      border = c.self.inside.border;
      colours = c.self.inside.colours;
      levels = c.self.inside.levels;
      h = c.self.inside.h;
      v = c.self.inside.v;
    } in
    obeyed_by (seen c.args.self.now) c.args.instr.now (Border c.in-Border.colour) old
    (record old { border = c.in-Border.colour }) (ap seen c.self.view_is)
    (sym c.effect.ensures.effect ∙ c.in-Border.is)
    c.self.invariant.colours_count c.self.invariant.levels_count (record {
      memory = λ x y _ _. refl;
      border = refl;
      colours = λ k _. refl;
      levels = λ k _. refl;
      h = refl;
      v = refl;
    })

pub returns-in-Draw : goal.returns-in-Draw
returns-in-Draw c =
    let old : Kept = record {
      memory = c.self.inside.memory;
      border = c.self.inside.border;
      colours = c.self.inside.colours;
      levels = c.self.inside.levels;
      h = c.self.inside.h;
      v = c.self.inside.v;
    } in
    obeyed_by (seen c.args.self.now) c.args.instr.now (Draw c.in-Draw.tile) old
    (record old { memory = c.draw_tile.new.self }) (ap seen c.self.view_is)
    (sym c.effect.ensures.effect ∙ c.in-Draw.is)
    c.self.invariant.colours_count c.self.invariant.levels_count (record {
      memory = c.draw_tile.ensures;
      border = refl;
      colours = λ k _. refl;
      levels = λ k _. refl;
      h = refl;
      v = refl;
    })

pub returns-in-Scroll : goal.returns-in-Scroll
returns-in-Scroll c =
    let old : Kept = record {
      memory = c.self.inside.memory;
      border = c.self.inside.border;
      colours = c.self.inside.colours;
      levels = c.self.inside.levels;
      h = c.self.inside.h;
      v = c.self.inside.v;
    } in
    obeyed_by (seen c.args.self.now) c.args.instr.now (Scroll c.in-Scroll.scroll) old
    (record old { memory = c.scroll.new.self; h = c.in-Scroll.scroll.h; v = c.in-Scroll.scroll.v })
    (ap seen c.self.view_is) (sym c.effect.ensures.effect ∙ c.in-Scroll.is)
    c.self.invariant.colours_count c.self.invariant.levels_count (record {
      memory = c.scroll.ensures;
      border = refl;
      colours = λ k _. refl;
      levels = λ k _. refl;
      h = refl;
      v = refl;
    })

pub returns-in-Levels : goal.returns-in-Levels
returns-in-Levels c =
    let old : Kept = record {
      memory = c.self.inside.memory;
      border = c.self.inside.border;
      colours = c.self.inside.colours;
      levels = c.self.inside.levels;
      h = c.self.inside.h;
      v = c.self.inside.v;
    } in
    obeyed_by (seen c.args.self.now) c.args.instr.now (Levels c.in-Levels.levels) old
    (record old { levels = c.in-Levels.levels }) (ap seen c.self.view_is)
    (sym c.effect.ensures.effect ∙ c.in-Levels.is)
    c.self.invariant.colours_count (search rules) (record {
      memory = λ x y _ _. refl;
      border = refl;
      colours = λ k _. refl;
      levels = λ k _. refl;
      h = refl;
      v = refl;
    })

pub returns-in-Colours : goal.returns-in-Colours
returns-in-Colours c =
    let old : Kept = record {
      memory = c.self.inside.memory;
      border = c.self.inside.border;
      colours = c.self.inside.colours;
      levels = c.self.inside.levels;
      h = c.self.inside.h;
      v = c.self.inside.v;
    } in
    obeyed_by (seen c.args.self.now) c.args.instr.now (Colours c.in-Colours.first c.in-Colours.colours) old
    (record old { colours = c.set_half.new.table }) (ap seen c.self.view_is)
    (sym c.effect.ensures.effect ∙ c.in-Colours.is)
    (search rules) c.self.invariant.levels_count (record {
      memory = λ x y _ _. refl;
      border = refl;
      colours = c.set_half.ensures.set;
      levels = λ k _. refl;
      h = refl;
      v = refl;
    })
