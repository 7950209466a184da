-- Rectangles of the screen.
use Rattle.std.specs.Prelude.{ℕ}
use Rattle.live_player.specs.declared.looking.ScreenPart.{ScreenPart}

-- the rectangle that begins at (x, y) and has this width and height
abbrev pub shown_rect : ℕ → ℕ → ℕ → ℕ → ScreenPart
shown_rect x y width height = record { left = x; top = y; width = width; height = height }
