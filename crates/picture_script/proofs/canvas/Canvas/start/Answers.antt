use Rattle.std.proofs.Common.{◌<◌, ℕ, refl, sym, subst, arith}
use Rattle.picture_script.proofs.Windows.{new-is_window, new-becomes, no_colour}
use Rattle.picture_script.proofs.canvas.Canvas.start.Goals as goal

pub invariant_of-result : goal.invariant_of-result
invariant_of-result c =
    new-is_window c.in_ok-pixels.pixels.items 55296 (c.in_ok-pixels.ensures.items_if_clones_equal (λ y h. h))
    refl

pub invariant_of-result-2 : goal.invariant_of-result-2
invariant_of-result-2 c = record {
  border_below = omega arith;
  colours_count = refl;
  colours_below = λ i. subst (λ (n : ℕ). n < 4096) (sym (no_colour i)) (omega arith);
}

pub returns-clause-blank : goal.returns-clause-blank
returns-clause-blank c = record {
  pixels_are =
      new-becomes c.in_ok-pixels.pixels.items 55296
      (c.in_ok-pixels.ensures.items_if_clones_equal (λ y h. h)) refl;
  border_is = refl;
  colours_are = λ n lt. no_colour n;
}
