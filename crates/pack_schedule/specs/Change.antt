-- Changes in the fixed order in which they are written: the border and the colours first, and then tile after tile.
use Rattle.std.specs.Prelude.{◌≡◌, ℕ, zero, suc, ◌+◌, ◌-◌, ◌<◌, ◌≤◌, List, [], ◌∷◌, ◌++◌, length, map, flat_map, replicate, Option, Some, None, ⊤, ◌==◌, if◌then◌else◌}
use Rattle.bit_lists.specs.Counting.{below}
use Rattle.tile_author.specs.Plan.{are_equal}
use Rattle.picture_script.specs.Script.{Drawing, picture_border, picture_tile, low_colours, high_colours}
use Rattle.cdg_instructions.specs.Sizes.{colour_count, tile_pixels, window_columns, window_rows}
use Rattle.cdg_instructions.specs.Drawing.{Turns, IsLeast}
use Rattle.cdg_instructions.specs.declared.instr.Instr.{Instr}
use Rattle.cdg_instructions.specs.declared.instr.Instr.TheVariants.{MemoryPreset, BorderPreset, ColoursLow, ColoursHigh}

-- the rows and columns of the tiles in the window: rows 1 to 16, and in each of them columns 1 to 48
abbrev pub window_places : List (ℕ × ℕ)
window_places = flat_map (λ r. map (λ c. (r + 1, c + 1)) (below window_columns)) (below window_rows)

-- the instructions that set the border and both halves of the colours: all three for the first picture; for a later
-- picture, only those that change a value of the previous picture
abbrev pub settings : List Drawing → ℕ → List Instr
settings script zero = BorderPreset (picture_border script 0) ∷ ColoursLow (low_colours script 0) ∷
    ColoursHigh (high_colours script 0) ∷ []
settings script (suc k) =
    (if picture_border script k == picture_border script (suc k) then []
    else BorderPreset (picture_border script (suc k)) ∷ [])
    ++ (if are_equal (low_colours script k) (low_colours script (suc k)) then []
    else ColoursLow (low_colours script (suc k)) ∷ [])
    ++ (if are_equal (high_colours script k) (high_colours script (suc k)) then []
    else ColoursHigh (high_colours script (suc k)) ∷ [])

-- The instructions are, for each of these places in order, a shortest list that turns its old tile into its new one.
abbrev pub AreTileChanges : (ℕ → ℕ → List ℕ) → (ℕ → ℕ → List ℕ) → List (ℕ × ℕ) → List Instr → Type 0
AreTileChanges old new [] instrs = instrs ≡ []
AreTileChanges old new (place ∷ rest) instrs =
    let row = place.0 in
    let column = place.1 in
    (first : List Instr) × (others : List Instr) × (instrs ≡ first ++ others)
    × Turns row column (old row column) (new row column) first
    × IsLeast row column (old row column) (new row column) (length first)
    × AreTileChanges old new rest others

-- the maximum number of instructions for the tiles of a picture: four for each of 768
abbrev pub most_tile_steps : ℕ
most_tile_steps = 3072

-- the maximum number of instructions in a change: one preset, three settings, and four for each of 768 tiles
abbrev pub most_change : ℕ
most_change = 3076

-- A start is the colour of a memory preset, or none. Picture 0 has a colour.
abbrev pub IsStart : ℕ → Option ℕ → Type 0
IsStart k (Some colour) = colour < colour_count
IsStart zero None = ⊥
IsStart (suc k) None = ⊤

-- the instruction that sets the memory to the colour of the start, or no instruction if the start is `None`
abbrev pub preset_of : Option ℕ → List Instr
preset_of (Some colour) = MemoryPreset colour 0 ∷ []
preset_of None = []

-- the pixels of a tile before the instructions of its plan for picture k: all have the colour of the start. If the start is
-- `None`, they are those of the previous picture.
abbrev pub tiles_before : List Drawing → ℕ → Option ℕ → ℕ → ℕ → List ℕ
tiles_before script k (Some colour) row column = replicate tile_pixels colour
tiles_before script k None row column = picture_tile script (k - 1) row column

-- The instructions are a change for picture k with this start.
pub record IsChangeFrom (script : List Drawing) (k : ℕ) (start : Option ℕ)
    (instrs : List Instr) : Type 0 where
  pub allowed : IsStart k start
  pub tiles : List Instr
  pub whole : instrs ≡ preset_of start ++ settings script k ++ tiles
  pub tile_changes : AreTileChanges (tiles_before script k start) (picture_tile script k) window_places tiles

-- The instructions are an ordered change for picture k: a change from some start, and no change from any start is shorter.
pub record IsOrderedChange (script : List Drawing) (k : ℕ) (instrs : List Instr) : Type 0 where
  pub start : Option ℕ
  pub change : IsChangeFrom script k start instrs
  pub shortest : (other : Option ℕ) (others : List Instr) → IsChangeFrom script k other others
      → length instrs ≤ length others
