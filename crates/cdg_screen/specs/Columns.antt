-- Columns of a row of the screen.
use Rattle.std.specs.Prelude.{◌≡◌, ℕ, ◌+◌, ◌<◌, List, length, slice_index}
use Rattle.cdg_instructions.specs.Sizes.{colour_count}
use Rattle.cdg_screen.specs.Standing.{Standing, screen_pixel}

-- The list has the colour numbers of `count` pixels of row y of the screen, from column x on.
pub record AreColumns (now : Standing) (x y count : ℕ) (columns : List ℕ) : Type 0 where
  pub size : length columns ≡ count
  pub pixels : (i : ℕ) → i < count → slice_index columns i ≡ screen_pixel now (x + i) y
  pub range : (i : ℕ) → slice_index columns i < colour_count
