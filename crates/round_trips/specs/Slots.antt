-- The packs in the slots of a lead-in.
use Rattle.std.specs.Prelude.{ℕ, ◌%◌, List, [], length, map, replicate, slice_index_or, ◌==◌, if◌then◌else◌}
use Rattle.bit_lists.specs.Counting.{below}

-- the pack in slot j if packs are repeated; eighteen zeros if there are no packs
abbrev pub pack_in_slot : List (List ℕ) → ℕ → List ℕ
pack_in_slot packs j = if length packs == 0 then replicate 18 0
    else slice_index_or packs (j % length packs) []

-- the packs in the first `count` slots
abbrev pub packs_in_slots : List (List ℕ) → ℕ → List (List ℕ)
packs_in_slots packs count = map (pack_in_slot packs) (below count)
