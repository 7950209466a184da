-- The planned change, which is one of the shortest changes.
use Rattle.std.specs.Prelude.{ℕ, zero, suc, ◌+◌, List, [], ◌∷◌, ◌++◌, length, map, flat_map, sum_by, Option, Some, None, nat_lt, if◌then◌else◌}
use Rattle.bit_lists.specs.Counting.{below}
use Rattle.tile_author.specs.Plan.{plan, steps}
use Rattle.picture_script.specs.Script.{Drawing, picture_tile}
use Rattle.pack_schedule.specs.Change.{settings, window_places, preset_of, tiles_before}
use Rattle.cdg_instructions.specs.Sizes.{colour_count}
use Rattle.cdg_instructions.specs.declared.instr.Instr.{Instr}

-- the instructions of the plans of all tiles in the window
unfoldable pub planned_tiles : List Drawing → ℕ → Option ℕ → List Instr
planned_tiles script k start = flat_map (λ p. plan p.0 p.1 (tiles_before script k start p.0 p.1)
    (picture_tile script k p.0 p.1)) window_places

-- the number of instructions in the plans of all tiles of the window
unfoldable pub tile_steps : List Drawing → ℕ → Option ℕ → ℕ
tile_steps script k start =
    sum_by (λ p. steps (tiles_before script k start p.0 p.1) (picture_tile script k p.0 p.1)) window_places

-- the list of instructions that draws picture k with this start. If `start` is a colour, the list first sets the memory to
-- this colour. If `start` is `None`, the list keeps the memory.
unfoldable pub planned_from : List Drawing → ℕ → Option ℕ → List Instr
planned_from script k start = preset_of start ++ settings script k ++ planned_tiles script k start

-- the number of instructions of `planned_from` with this start
unfoldable pub planned_length : List Drawing → ℕ → Option ℕ → ℕ
planned_length script k start =
    length (preset_of start) + length (settings script k) + tile_steps script k start

-- `best` or an element of the list: the one with the smallest result of the function `number`. If several have this result,
-- it is the first of them.
unfoldable pub first_least : {X : Type 0} → (X → ℕ) → X → List X → X
first_least number best [] = best
first_least number best (x ∷ rest) =
    first_least number (if nat_lt (number x) (number best) then x else best) rest

-- the preferred start: colour 0 for the first picture, and `None` for a later one
abbrev pub preferred : ℕ → Option ℕ
preferred zero = Some 0
preferred (suc k) = None

-- the start with the shortest list. If several starts have lists of this length: the preferred start, if it is one of them,
-- and otherwise the colour with the lowest number
unfoldable pub chosen_start : List Drawing → ℕ → Option ℕ
chosen_start script k = first_least (planned_length script k) (preferred k) (map Some (below colour_count))

-- the planned change of picture k, which `author` writes: the list of `planned_from` with the chosen start
unfoldable pub planned_change : List Drawing → ℕ → List Instr
planned_change script k = planned_from script k (chosen_start script k)
