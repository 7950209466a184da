use Rattle.std.proofs.Common.{refl}
use Rattle.picture_script.proofs.canvas.Canvas.draw.Goals as goal

pub returns-in-BorderColour : goal.returns-in-BorderColour
returns-in-BorderColour c = record {
  drawn = λ before was.
      let old = rw (← c.self.view_is) at was in
      rw c.in-BorderColour.is
      (record { pixels_are = old.pixels_are; border_is = refl; colours_are = old.colours_are });
}

pub returns-in-Filled : goal.returns-in-Filled
returns-in-Filled c = record {
  drawn = λ before was.
      let old = rw (← c.self.view_is) at was in
      rw c.in-Filled.is
      (record { pixels_are = c.clear.ensures; border_is = old.border_is; colours_are = old.colours_are });
}

pub returns-in-Rectangle : goal.returns-in-Rectangle
returns-in-Rectangle c = record {
  drawn = λ before was.
      let old = rw (← c.self.view_is) at was in
      let filled = rw (
        c.from-in-Rectangle.ensures,
        c.from-in-Rectangle-2.ensures,
        c.from-in-Rectangle-3.ensures,
        c.from-in-Rectangle-4.ensures,
      ) at c.fill.ensures in
      rw c.in-Rectangle.is (record {
        pixels_are = λ x y x_lt y_lt. rw (old.pixels_are x y x_lt y_lt) at (filled x y x_lt y_lt);
        border_is = old.border_is;
        colours_are = old.colours_are;
      });
}

pub returns-in-ShowLine : goal.returns-in-ShowLine
returns-in-ShowLine c = record { drawn = λ before was. rw c.in-ShowLine.is was }
