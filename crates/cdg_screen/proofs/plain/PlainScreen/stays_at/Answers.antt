use Rattle.cdg_screen.specs.Memory.{Kept, seen}
use Rattle.std.proofs.Common.{◌≡◌, ℕ, List, true, refl, sym, ap, ◌∙◌, arith}
use Rattle.std.specs.Prelude.{IsTrue, slice_index, ◌==◌}
use Rattle.std.proofs.lemmas.Bool.Decides.{nat_tests}
use Rattle.cdg_instructions.specs.declared.effect.Effect.TheVariants.{Nothing, Clear, Border, Draw, Scroll, Levels, Colours}
use Rattle.cdg_screen.specs.Standing.{Standing}
use Rattle.cdg_screen.proofs.Effects.{first_most}
use Rattle.cdg_screen.proofs.Obeyed.{stays_by, colours_kept, colours_back}
use Rattle.cdg_screen.proofs.plain.PlainScreen.stays_at.Goals as goal

pub returns-in-Nothing : goal.returns-in-Nothing
returns-in-Nothing c =
    let kept : Kept = record {
      memory = c.self.inside.memory;
      border = c.self.inside.border;
      colours = c.self.inside.colours;
      levels = c.self.inside.levels;
      h = c.self.inside.h;
      v = c.self.inside.v;
    } in
    stays_by (IsTrue true) (seen c.args.self.now) c.args.instr.now (Nothing) kept (ap seen c.self.view_is)
    (sym c.effect.ensures.effect ∙ c.in-Nothing.is)
    c.self.invariant.colours_count c.self.invariant.levels_count (
      (λ holds. record {
        memory = λ x y _ _. refl;
        border = refl;
        colours = λ k _. refl;
        levels = λ k _. refl;
        h = refl;
        v = refl;
      }),
      λ obeys. refl,
    )

pub returns-in-Clear : goal.returns-in-Clear
returns-in-Clear c =
    let kept : Kept = record {
      memory = c.self.inside.memory;
      border = c.self.inside.border;
      colours = c.self.inside.colours;
      levels = c.self.inside.levels;
      h = c.self.inside.h;
      v = c.self.inside.v;
    } in
    stays_by (IsTrue c.is_filled.result) (seen c.args.self.now) c.args.instr.now (Clear c.in-Clear.colour)
    kept
    (ap seen c.self.view_is) (sym c.effect.ensures.effect ∙ c.in-Clear.is)
    c.self.invariant.colours_count c.self.invariant.levels_count (
      (λ holds. record {
        memory = c.is_filled.ensures.0 holds;
        border = refl;
        colours = λ k _. refl;
        levels = λ k _. refl;
        h = refl;
        v = refl;
      }),
      λ obeys. c.is_filled.ensures.1 obeys.memory,
    )

pub returns-in-Border : goal.returns-in-Border
returns-in-Border c =
    let kept : Kept = record {
      memory = c.self.inside.memory;
      border = c.self.inside.border;
      colours = c.self.inside.colours;
      levels = c.self.inside.levels;
      h = c.self.inside.h;
      v = c.self.inside.v;
    } in
    stays_by (IsTrue (c.self.inside.border == c.in-Border.colour)) (seen c.args.self.now) c.args.instr.now
    (Border c.in-Border.colour) kept (ap seen c.self.view_is) (sym c.effect.ensures.effect ∙ c.in-Border.is)
    c.self.invariant.colours_count c.self.invariant.levels_count (
      (λ holds. record {
        memory = λ x y _ _. refl;
        border = grind (arith, nat_tests);
        colours = λ k _. refl;
        levels = λ k _. refl;
        h = refl;
        v = refl;
      }),
      λ obeys. let e = obeys.border in grind (arith, nat_tests),
    )

pub returns-in-Draw : goal.returns-in-Draw
returns-in-Draw c =
    let kept : Kept = record {
      memory = c.self.inside.memory;
      border = c.self.inside.border;
      colours = c.self.inside.colours;
      levels = c.self.inside.levels;
      h = c.self.inside.h;
      v = c.self.inside.v;
    } in
    stays_by (IsTrue c.keeps_tile.result) (seen c.args.self.now) c.args.instr.now (Draw c.in-Draw.tile) kept
    (ap seen c.self.view_is) (sym c.effect.ensures.effect ∙ c.in-Draw.is)
    c.self.invariant.colours_count c.self.invariant.levels_count (
      (λ holds. record {
        memory = c.keeps_tile.ensures.0 holds;
        border = refl;
        colours = λ k _. refl;
        levels = λ k _. refl;
        h = refl;
        v = refl;
      }),
      λ obeys. c.keeps_tile.ensures.1 obeys.memory,
    )

pub returns-then-has_offsets : goal.returns-then-has_offsets
returns-then-has_offsets c =
    let kept : Kept = record {
      memory = c.self.inside.memory;
      border = c.self.inside.border;
      colours = c.self.inside.colours;
      levels = c.self.inside.levels;
      h = c.self.inside.h;
      v = c.self.inside.v;
    } in
    let same = c.has_offsets.ensures.0 c.if-has_offsets.true in
    let h : c.self.inside.h ≡ c.in-Scroll.scroll.h =
    ap (λ (now : Standing). now.h) (ap seen c.self.view_is) ∙ same.0 in
    let v : c.self.inside.v ≡ c.in-Scroll.scroll.v =
    ap (λ (now : Standing). now.v) (ap seen c.self.view_is) ∙ same.1 in
    stays_by (IsTrue c.keeps_scrolled.result) (seen c.args.self.now) c.args.instr.now
    (Scroll c.in-Scroll.scroll)
    kept (ap seen c.self.view_is) (sym c.effect.ensures.effect ∙ c.in-Scroll.is)
    c.self.invariant.colours_count c.self.invariant.levels_count (
      (λ holds. record {
        memory = c.keeps_scrolled.ensures.0 holds;
        border = refl;
        colours = λ k _. refl;
        levels = λ k _. refl;
        h = h;
        v = v;
      }),
      λ obeys. c.keeps_scrolled.ensures.1 obeys.memory,
    )

pub returns-in-Levels : goal.returns-in-Levels
returns-in-Levels c =
    let kept : Kept = record {
      memory = c.self.inside.memory;
      border = c.self.inside.border;
      colours = c.self.inside.colours;
      levels = c.self.inside.levels;
      h = c.self.inside.h;
      v = c.self.inside.v;
    } in
    let view : c.self.inside.levels ≡ c.args.self.now.levels =
    ap (λ (now : Standing). now.levels) (ap seen c.self.view_is) in
    stays_by (IsTrue c.has_levels.result) (seen c.args.self.now) c.args.instr.now (Levels c.in-Levels.levels)
    kept
    (ap seen c.self.view_is) (sym c.effect.ensures.effect ∙ c.in-Levels.is)
    c.self.invariant.colours_count c.self.invariant.levels_count (
      (λ holds. record {
        memory = λ x y _ _. refl;
        border = refl;
        colours = λ k _. refl;
        levels =
            λ k lt.
            ap (λ (levels : List ℕ). slice_index levels k) view ∙ sym (c.has_levels.ensures.0 holds k lt);
        h = refl;
        v = refl;
      }),
      λ obeys. c.has_levels.ensures.1
          (λ k lt. sym (obeys.levels k lt) ∙ ap (λ (levels : List ℕ). slice_index levels k) view),
    )

pub returns-in-Colours : goal.returns-in-Colours
returns-in-Colours c =
    let kept : Kept = record {
      memory = c.self.inside.memory;
      border = c.self.inside.border;
      colours = c.self.inside.colours;
      levels = c.self.inside.levels;
      h = c.self.inside.h;
      v = c.self.inside.v;
    } in
    let view : c.self.inside.colours ≡ c.args.self.now.colours =
    ap (λ (now : Standing). now.colours) (ap seen c.self.view_is) in
    stays_by (IsTrue c.has_colours.result) (seen c.args.self.now) c.args.instr.now
    (Colours c.in-Colours.first c.in-Colours.colours) kept (ap seen c.self.view_is)
    (sym c.effect.ensures.effect ∙ c.in-Colours.is)
    c.self.invariant.colours_count c.self.invariant.levels_count (
      (λ holds. record {
        memory = λ x y _ _. refl;
        border = refl;
        colours =
            colours_kept c.in-Colours.first c.in-Colours.colours c.self.inside.colours
            (rw view (c.has_colours.ensures.0 holds));
        levels = λ k _. refl;
        h = refl;
        v = refl;
      }),
      λ obeys. c.has_colours.ensures.1 (rw (← view) (colours_back c.in-Colours.first c.in-Colours.colours
          c.self.inside.colours (first_most c.effect.result c.in-Colours.first c.in-Colours.colours
          (c.effect.ensures.range c.requires) c.in-Colours.is) obeys.colours)),
    )
