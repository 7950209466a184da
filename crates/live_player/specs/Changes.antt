-- The part of the screen that instructions may change.
use Rattle.std.specs.Prelude.{◌≡◌, ◌+◌, ◌-◌, ◌*◌, ◌<◌, ◌≤◌, ◌&&◌, ◌++◌, ℕ, List, [], ◌∷◌, map, reverse, max, min, nat_lt, if◌then◌else◌}
use Rattle.cdg_io.specs.Run.{run_state}
use Rattle.cdg_instructions.specs.declared.effect.Effect.{Effect}
use Rattle.cdg_instructions.specs.declared.effect.Effect.TheVariants.{Scroll}
use Rattle.cdg_instructions.specs.Sizes.{last_column, last_row}
use Rattle.cdg_instructions.specs.declared.instr.Instr.{Instr}
use Rattle.cdg_screen.specs.Standing.{Standing, offsets_from, screen_pixel, standing_after}
use Rattle.cdg_screen.specs.Touched.{touched_by}
use Rattle.cdg_screen.specs.declared.touching.Touched.{Touched}
use Rattle.cdg_screen.specs.declared.touching.Touched.TheVariants.{Nothing, Tile, All, Border, Colours, Levels}
use Rattle.raw_subcode.specs.declared.form.Form.{Form}
use Rattle.live_player.specs.Lives.{Given, Fed, HasPlayed, instructions_in, standing_on}
use Rattle.live_player.specs.declared.live.LivePlayer.{LivePlayer}
use Rattle.live_player.specs.declared.change.ScreenChange.{ScreenChange}
use Rattle.live_player.specs.declared.watch.Watch.{Watch}

-- no change: the rectangle is empty
abbrev pub no_change : ScreenChange
no_change = record { left = 300; top = 216; right = 0; bottom = 0; colours = 0; levels = 0 }

-- the pixels from left to right and from top to bottom, without the last column and row; no change if there are none
abbrev pub rectangle : ℕ → ℕ → ℕ → ℕ → ScreenChange
rectangle left top right bottom =
    if nat_lt left right && nat_lt top bottom
    then record { left = left; top = top; right = right; bottom = bottom; colours = 0; levels = 0 }
    else no_change

-- the part of the window that shows a tile of the memory, on a screen that begins h pixels further right and v further
-- down in the memory
abbrev pub tile_change : ℕ → ℕ → ℕ → ℕ → ScreenChange
tile_change row column h v =
    rectangle (max (6 * column - h) 6) (max (12 * row - v) 12) (min (6 * column + 6 - h) 294)
    (min (12 * row + 12 - v) 204)

-- what may change if this part is touched: the window shows the memory, and the border is around the window
abbrev pub touched_change : Touched → ℕ → ℕ → ScreenChange
touched_change Nothing h v = no_change
touched_change (Tile row column) h v = tile_change row column h v
touched_change All h v = rectangle 6 12 294 204
touched_change Border h v = rectangle 0 0 300 216
touched_change Colours h v = record no_change { colours = 1 }
touched_change Levels h v = record no_change { levels = 1 }

-- the union of two changes: the smallest rectangle that contains both
abbrev pub join : ScreenChange → ScreenChange → ScreenChange
join one other = record {
  left = min one.left other.left;
  top = min one.top other.top;
  right = max one.right other.right;
  bottom = max one.bottom other.bottom;
  colours = max one.colours other.colours;
  levels = max one.levels other.levels;
}

-- the rectangle begins at or before the end of the screen
abbrev pub IsWithinScreen : ScreenChange → Type 0
IsWithinScreen change = (change.left ≤ 300) × (change.top ≤ 216)

-- the offsets of the screen after an effect
abbrev pub offsets_by : Effect → ℕ × ℕ → ℕ × ℕ
offsets_by (Scroll scroll) offsets = (scroll.h, scroll.v)
offsets_by _ offsets = offsets

-- a watch before any change, with these offsets
abbrev pub watch_from : ℕ → ℕ → Watch
watch_from h v = record { change = no_change; across = h; down = v }

-- a watch after one more instruction
abbrev pub sees : Watch → Instr → Watch
sees watch instr = record {
  change = join watch.change (touched_change (touched_by instr) watch.across watch.down);
  across = (offsets_from (watch.across, watch.down) (instr ∷ [])).0;
  down = (offsets_from (watch.across, watch.down) (instr ∷ [])).1;
}

-- the rectangle of changes contains the part of a tile that the window shows
pub record HoldsTile (watch : Watch) (row column : ℕ) : Type 0 where
  pub column_most : column ≤ last_column
  pub row_most : row ≤ last_row
  pub left : watch.change.left + watch.across ≤ 6 * column
  pub right : 6 * column + 6 ≤ watch.change.right + watch.across
  pub top : watch.change.top + watch.down ≤ 12 * row
  pub bottom : 12 * row + 12 ≤ watch.change.bottom + watch.down

-- what may change on the screen if instructions are drawn in turn, from this state of the screen
abbrev pub changes_on : Standing → List Instr → ScreenChange
changes_on now instrs = (run_state sees (watch_from now.h now.v) instrs).change

-- the rectangle contains the pixel
pub record IsInChange (change : ScreenChange) (x y : ℕ) : Type 0 where
  pub left : change.left ≤ x
  pub right : x < change.right
  pub top : change.top ≤ y
  pub bottom : y < change.bottom

-- Only the reported part differs between two states of the screen: the pixels outside the rectangle are equal, and the
-- colours and levels are equal unless they are reported.
pub record KeepsUnchanged (change : ScreenChange) (old new : Standing) : Type 0 where
  pub pixels : (x y : ℕ) → ¬ IsInChange change x y → x < 300 → y < 216
      → screen_pixel new x y ≡ screen_pixel old x y
  pub colours : change.colours ≡ 0 → new.colours ≡ old.colours
  pub levels : change.levels ≡ 0 → new.levels ≡ old.levels

-- A player draws these instructions for these blocks: if it is known what the player was given before, they are the
-- instructions that the blocks add.
abbrev pub AreDrawnFor : List (List ℕ) → LivePlayer → List Instr → Type 0
AreDrawnFor blocks player instrs = (form : Form) (lead_in : ℕ) (given : List Given)
    → HasPlayed form lead_in given player
    → instructions_in form lead_in (map Fed (reverse blocks) ++ given)
    ≡ instructions_in form lead_in given ++ instrs

-- These instructions are drawn on a player's picture, and what may have changed on the screen is reported.
pub record ReportsChange (change : ScreenChange) (instrs : List Instr) (before after : LivePlayer)
    : Type 0 where
  pub reported : change ≡ changes_on (standing_on before) instrs
  pub stands : standing_on after ≡ standing_after (standing_on before) instrs
  pub keeps : KeepsUnchanged change (standing_on before) (standing_on after)
