-- The script of a seed.
use Rattle.std.specs.Prelude.{ℕ, ◌+◌, ◌-◌, ◌*◌, ◌/◌, ◌%◌, List, [], ◌∷◌, ◌++◌, flat_map, codes, decimal}
use Rattle.std.specs.Char.{digit_char}
use Rattle.bit_lists.specs.Counting.{below}
use Rattle.bit_lists.specs.Digits.{line_feed}
use Rattle.disc_time.specs.Time.{time_text}
use Rattle.cdg_workload.specs.Generator.{generator_word, low_half, high_half}

-- the maximum number of pictures of a generated script: with them and a pause the longest trial has 400,170 program blocks,
-- and a disc has room for 449,999
abbrev pub most_generated : ℕ
most_generated = 500

-- a rectangle of the window: its place, its size and the number of its colour
pub record Rectangle : Type 0 where
  pub x : ℕ
  pub y : ℕ
  pub width : ℕ
  pub height : ℕ
  pub colour : ℕ

-- the rectangle that two words make
abbrev pub rectangle_of : ℕ → ℕ → Rectangle
rectangle_of a b =
    let x = low_half a % 288 in
    let y = high_half a % 192 in record {
      x = x;
      y = y;
      width = 1 + low_half b % (288 - x);
      height = 1 + high_half b % (192 - y);
      colour = b / 256 % 16;
    }

-- the line of the rectangle that two words make
unfoldable pub generated_rect_line : ℕ → ℕ → List ℕ
generated_rect_line a b =
    let rect = rectangle_of a b in
    codes "rect " ++ decimal rect.x ++ codes " " ++ decimal rect.y ++ codes " " ++ decimal rect.width
    ++ codes " " ++ decimal rect.height
    ++ codes " " ++ decimal rect.colour ++ line_feed

-- the block at which picture k is ready
abbrev pub ready_block : ℕ → ℕ
ready_block k = 800 * (k + 1)

-- the block until which picture k is held
abbrev pub hold_block : ℕ → ℕ
hold_block k = ready_block k + 20

-- the line that makes colour k the grey of level k
unfoldable pub grey_line : ℕ → List ℕ
grey_line k = codes "colour " ++ decimal k ++ codes " 0" ++ digit_char k ∷ digit_char k ∷ digit_char k ∷ []
    ++ line_feed

-- the line with the times at which picture k is ready and until which it is held
unfoldable pub generated_show_line : ℕ → List ℕ
generated_show_line k =
    codes "show " ++ time_text (ready_block k) ++ codes " " ++ time_text (hold_block k) ++ line_feed

-- the lines of picture k: three rectangles, and its times
unfoldable pub picture_lines : ℕ → ℕ → List ℕ
picture_lines seed k = flat_map
    (λ i. generated_rect_line (generator_word seed (6 * k + 2 * i)) (generator_word seed (6 * k + 2 * i + 1)))
    (below 3) ++ generated_show_line k

-- the script of this number of pictures
unfoldable pub generated_script : ℕ → ℕ → List ℕ
generated_script seed count = flat_map grey_line (below 16) ++ flat_map (picture_lines seed) (below count)
