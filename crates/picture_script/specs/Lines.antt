-- The lines of a script as the code stores them.
use Rattle.std.specs.Prelude.{◌≡◌, ℕ, ◌+◌, ◌<◌, ◌≤◌, Bool, true, false, ◌&&◌, nat_le, nat_lt, List, [], ◌∷◌, ◌++◌, length, map, take, drop, slice_index_or, All}
use Rattle.disc_time.specs.Counts.{time_count}
use Rattle.picture_script.specs.Script.{Drawing, Colour, Border, Fill, Rect, Row, Show, shows, lines_before}
use Rattle.picture_script.specs.Sizes.{most_pictures}
use Rattle.picture_script.specs.Board.{AreColours}
use Rattle.picture_script.specs.declared.script.ScriptLine.{ScriptLine}
use Rattle.picture_script.specs.declared.script.ScriptLine.TheVariants.{TableColour, BorderColour, Filled, Rectangle, PixelRow, ShowLine}
use Rattle.picture_script.specs.declared.script.Shown.{Shown}
use Rattle.picture_script.specs.declared.reader.ScriptDraft.{ScriptDraft}
use Rattle.cdg_instructions.specs.Sizes.{colour_count, colour_values, window_height, window_width}

-- the command of a line; the colours of a row are a part of the colours of all rows
abbrev pub said : List ℕ → ScriptLine → Drawing
said pixels (TableColour number value) = Colour number value
said pixels (BorderColour colour) = Border colour
said pixels (Filled colour) = Fill colour
said pixels (Rectangle x y width height colour) = Rect x y width height colour
said pixels (PixelRow y x first count) = Row x y (take count (drop first pixels))
said pixels (ShowLine ready hold) = Show ready hold

unfoldable pub all_said : List ℕ → List ScriptLine → List Drawing
all_said pixels lines = map (said pixels) lines

-- whether the numbers of a line are in their ranges, if all rows together have `size` pixels
abbrev pub is_kept : ℕ → ScriptLine → Bool
is_kept size (TableColour number value) = nat_lt number colour_count && nat_lt value colour_values
is_kept size (BorderColour colour) = nat_lt colour colour_count
is_kept size (Filled colour) = nat_lt colour colour_count
is_kept size (Rectangle x y width height colour) = nat_le (x + width) window_width
    && nat_le (y + height) window_height
    && nat_lt colour colour_count
is_kept size (PixelRow y x first count) = nat_le (x + count) window_width && nat_lt y window_height
    && nat_le (first + count) size
is_kept size (ShowLine ready hold) = true

abbrev pub no_show : Shown
no_show = record { place = 0; ready = 0; hold = 0 }

abbrev pub times_of : Shown → ℕ × ℕ
times_of shown = (shown.ready, shown.hold)

-- `shown` has the number of lines before each show line, and the times of this line. All lines are in their ranges.
pub record IsIndexed (pixels : List ℕ) (lines : List ScriptLine) (shown : List Shown) : Type 0 where
  pub kept : All (λ line. is_kept (length pixels) line ≡ true) lines
  pub colours : AreColours pixels
  pub times : map times_of shown ≡ shows (all_said pixels lines)
  pub places : (k : ℕ) → k < length shown
      → (slice_index_or shown k no_show).place ≡ length (lines_before (all_said pixels lines) k)
  pub lasting : (k : ℕ) → k < length shown
      → (slice_index_or shown k no_show).ready ≤ (slice_index_or shown k no_show).hold
  pub ending : (k : ℕ) → k < length shown → (slice_index_or shown k no_show).hold < time_count
  pub ordered : (k : ℕ) → k + 1 < length shown
      → (slice_index_or shown k no_show).hold < (slice_index_or shown (k + 1) no_show).ready
  pub most : length shown ≤ most_pictures

-- the commands of a draft
abbrev pub said_in : ScriptDraft → List Drawing
said_in draft = all_said draft.pixels.items draft.lines.items

abbrev pub IsSound : ScriptDraft → Type 0
IsSound draft = IsIndexed draft.pixels.items draft.lines.items draft.shown.items

-- The new draft has the lines of the old one and one more line.
pub record Adds (old new : ScriptDraft) (line : Drawing) : Type 0 where
  pub sound : IsSound new
  pub lines_are : said_in new ≡ said_in old ++ line ∷ []

-- whether a line draws
abbrev pub is_drawing : ScriptLine → Bool
is_drawing (ShowLine ready hold) = false
is_drawing _ = true
