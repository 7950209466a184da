use Rattle.picture_script.proofs.Ranges.{pixels_below, borders_below, colours_below, times_held, times_later, times_end}
use Rattle.picture_script.proofs.script.Script.pictures.Goals as goal

pub returns-clause-held : goal.returns-clause-held
returns-clause-held c =
    rw (← c.self.view_is) (λ k lt. times_held c.self.inside.pixels.items c.self.inside.lines.items
    c.self.inside.shown.items k c.self.invariant lt)

pub returns-clause-later : goal.returns-clause-later
returns-clause-later c =
    rw (← c.self.view_is) (λ k lt. times_later c.self.inside.pixels.items c.self.inside.lines.items
    c.self.inside.shown.items k c.self.invariant lt)

pub returns-clause-ends : goal.returns-clause-ends
returns-clause-ends c =
    rw (← c.self.view_is) (λ k lt. times_end c.self.inside.pixels.items c.self.inside.lines.items
    c.self.inside.shown.items k c.self.invariant lt)

pub returns-clause-pixels : goal.returns-clause-pixels
returns-clause-pixels c =
    rw (← c.self.view_is) (λ k x y. pixels_below c.self.inside.pixels.items c.self.inside.lines.items
    c.self.inside.shown.items k x y c.self.invariant)

pub returns-clause-borders : goal.returns-clause-borders
returns-clause-borders c =
    rw (← c.self.view_is) (λ k. borders_below c.self.inside.pixels.items c.self.inside.lines.items
    c.self.inside.shown.items k c.self.invariant)

pub returns-clause-colours : goal.returns-clause-colours
returns-clause-colours c =
    rw (← c.self.view_is) (λ k n. colours_below c.self.inside.pixels.items c.self.inside.lines.items
    c.self.inside.shown.items k n c.self.invariant)
