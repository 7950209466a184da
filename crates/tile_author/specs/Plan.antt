-- The plan of a tile: a shortest list of instructions, chosen by a fixed rule.
use Rattle.std.specs.Prelude.{◌/◌, ℕ, ◌+◌, ◌*◌, Bool, true, false, List, [], ◌∷◌, ◌++◌, length, map, slice_index, ◌==◌, nat_le, ◌&&◌, ◌||◌, if◌then◌else◌, bit_xor, max, min}
use Rattle.std.specs.List.{list_all}
use Rattle.bit_lists.specs.Counting.{below, parts}
use Rattle.bit_lists.specs.Bits.{has_bit, number_of}
use Rattle.cdg_instructions.specs.Sizes.{tile_height, tile_pixels, tile_width}
use Rattle.cdg_instructions.specs.declared.instr.Instr.{Instr}
use Rattle.cdg_instructions.specs.declared.instr.Instr.TheVariants.{SetTile, XorTile}

-- whether a number is a combination: the exclusive or of some (or none) of these members
unfoldable pub is_combination : List ℕ → ℕ → Bool
is_combination [] number = number == 0
is_combination (first ∷ rest) number =
    is_combination rest number || is_combination rest (bit_xor first number)

-- the list `members`, followed by each number of the second list that is not a combination of the members before it
unfoldable pub basis_from : List ℕ → List ℕ → List ℕ
basis_from members [] = members
basis_from members (number ∷ rest) =
    basis_from (if is_combination members number then members else members ++ number ∷ []) rest

-- the difference (exclusive or) of each pixel from the first pixel
unfoldable pub differences_from_first : List ℕ → List ℕ
differences_from_first pixels = map (bit_xor (slice_index pixels 0)) pixels

-- the basis of a tile: each difference from the first pixel, unless it is a combination of differences before it
unfoldable pub basis : List ℕ → List ℕ
basis pixels = basis_from [] (differences_from_first pixels)

-- the number of instructions that a plan needs to draw these pixels, or to combine them with the old pixels
unfoldable pub weight : List ℕ → ℕ
weight pixels = max 1 (length (basis pixels))

-- the members whose combination equals this number: bit j of the result is 1 if member j is one of these members
unfoldable pub selection : List ℕ → ℕ → ℕ
selection [] number = 0
selection (first ∷ rest) number =
    if is_combination rest number then 2 * selection rest number
    else 1 + 2 * selection rest (bit_xor first number)

-- the combination of the selected members; bit 0 selects the first one
unfoldable pub combination : List ℕ → ℕ → ℕ
combination [] chosen = 0
combination (first ∷ rest) chosen =
    bit_xor (if has_bit 0 chosen then first else 0) (combination rest (chosen / 2))

-- The difference of each pixel from the first pixel is a combination of members of the basis. For each pixel: whether
-- member j is in this combination
unfoldable pub member_bits : List ℕ → ℕ → List Bool
member_bits pixels j = map (λ d. has_bit j (selection (basis pixels) d)) (differences_from_first pixels)

-- the bits of `member_bits` as twelve numbers of six bits, one number for each line; the leftmost pixel is the highest bit
unfoldable pub tile_lines : List ℕ → ℕ → List ℕ
tile_lines pixels j = map number_of (parts tile_height tile_width (member_bits pixels j))

-- instruction j (from 0) of a plan. If `draws` is true, the plan draws the pixels. Otherwise, it combines them with the old
-- pixels.
unfoldable pub planned : Bool → ℕ → ℕ → List ℕ → ℕ → Instr
planned draws row column pixels j =
    let colour0 = if j == 0 then slice_index pixels 0 else 0 in
    let colour1 = bit_xor colour0 (slice_index (basis pixels) j) in
    let lines = tile_lines pixels j in
    if draws && j == 0 then SetTile colour0 colour1 row column lines
    else XorTile colour0 colour1 row column lines

-- the differences of a tile: for each pixel, the exclusive or of its old and its new colour number
unfoldable pub delta : List ℕ → List ℕ → List ℕ
delta old new = map (λ p. bit_xor (slice_index old p) (slice_index new p)) (below tile_pixels)

-- whether two lists of at most 72 numbers are equal, for example the old and the new pixels of a tile. A missing number
-- counts as 0.
unfoldable pub are_equal : List ℕ → List ℕ → Bool
are_equal old new = list_all (λ d. d == 0) (delta old new)

-- the plan of a tile: no instructions if the tile does not change. Otherwise, the instructions draw the new pixels; or, if
-- fewer instructions do this, they combine the differences with the old pixels.
unfoldable pub plan : ℕ → ℕ → List ℕ → List ℕ → List Instr
plan row column old new =
    let d = delta old new in
    if are_equal old new
    then []
    else (if nat_le (weight new) (weight d)
    then map (planned true row column new) (below (weight new))
    else map (planned false row column d) (below (weight d)))

-- the number of instructions in the plan of a tile
unfoldable pub steps : List ℕ → List ℕ → ℕ
steps old new = if are_equal old new then 0 else min (weight new) (weight (delta old new))
