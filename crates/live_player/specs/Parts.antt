-- Parts of the screen.
use Rattle.std.specs.Prelude.{◌≡◌, ◌+◌, ◌*◌, ◌<◌, ◌≤◌, ℕ, List, slice_index}
use Rattle.cdg_instructions.specs.Sizes.{screen_height, screen_width}
use Rattle.cdg_screen.specs.Standing.{Standing, screen_pixel}
use Rattle.live_player.specs.declared.looking.ScreenPart.{ScreenPart}

-- all of a part is on the screen
abbrev pub IsOnScreen : ScreenPart → Type 0
IsOnScreen part = (part.left + part.width ≤ screen_width) × (part.top + part.height ≤ screen_height)

-- `room` bytes suffice for the rows of a part, each `stride` bytes after the row before.
abbrev pub HasRoomFor : ScreenPart → ℕ → ℕ → Type 0
HasRoomFor part stride room = (j : ℕ) → j < part.height → j * stride + part.width ≤ room

-- The colour numbers of a part are written row by row; each row is `stride` bytes after the row before. All other
-- bytes are unchanged.
pub record ShowsPart (now : Standing) (part : ScreenPart) (stride : ℕ) (old new : List ℕ) : Type 0 where
  pub pixels : (i j : ℕ) → i < part.width → j < part.height
      → slice_index new (j * stride + i) ≡ screen_pixel now (part.left + i) (part.top + j)
  pub others : (n : ℕ) → ((i j : ℕ) → i < part.width → j < part.height → ¬ (n ≡ j * stride + i))
      → slice_index new n ≡ slice_index old n
