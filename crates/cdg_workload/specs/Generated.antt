-- The drawings of a generated script.
use Rattle.std.specs.Prelude.{ℕ, ◌+◌, ◌*◌, List, [], ◌∷◌, ◌++◌, map, flat_map}
use Rattle.bit_lists.specs.Counting.{below}
use Rattle.picture_script.specs.Script.{Drawing, Colour, Rect, Show}
use Rattle.cdg_workload.specs.Generator.{generator_word}
use Rattle.cdg_workload.specs.Script.{rectangle_of, ready_block, hold_block}

-- the drawing that makes colour k the grey of level k
abbrev pub grey : ℕ → Drawing
grey k = Colour k (256 * k + 16 * k + k)

-- the drawing of the rectangle that two words make
abbrev pub rect : ℕ → ℕ → Drawing
rect a b = let r = rectangle_of a b in Rect r.x r.y r.width r.height r.colour

-- the drawings of picture k
unfoldable pub picture : ℕ → ℕ → List Drawing
picture seed k =
    rect (generator_word seed (6 * k)) (generator_word seed (6 * k + 1)) ∷ rect
    (generator_word seed (6 * k + 2)) (generator_word seed (6 * k + 3))
    ∷ rect (generator_word seed (6 * k + 4)) (generator_word seed (6 * k + 5)) ∷ Show (ready_block k)
    (hold_block k) ∷ []

-- all drawings of a script of `count` pictures
unfoldable pub generated_drawings : ℕ → ℕ → List Drawing
generated_drawings seed count = map grey (below 16) ++ flat_map (picture seed) (below count)
