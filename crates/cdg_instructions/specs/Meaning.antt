-- The meaning of a word, as a function, which the steps of stages that read packs need.
use Rattle.std.specs.Prelude.{ℕ, ◌%◌, ◌==◌, if◌then◌else◌, List, slice_index, drop, map}
use Rattle.cdg_instructions.specs.Instruction.{content, content_of, move, offset_across, offset_down, table_colour}
use Rattle.bit_lists.specs.Counting.{below}
use Rattle.cdg_instructions.specs.declared.instr.Instr.{Instr}
use Rattle.cdg_instructions.specs.declared.instr.Instr.TheVariants.{Idle, Foreign, Unknown, MemoryPreset, BorderPreset, SetTile, XorTile, ScrollPreset, ScrollCopy, Transparency, ColoursLow, ColoursHigh}

-- the meaning of a graphics word with this number
abbrev pub graphics : List ℕ → ℕ → Instr
graphics word code =
    if code == 1 then MemoryPreset (content word 0 % 16) (content word 1 % 16)
    else if code == 2 then BorderPreset (content word 0 % 16)
    else if code == 6 then SetTile (content word 0 % 16) (content word 1 % 16) (content word 2 % 32)
    (content word 3) (drop 4 (content_of word))
    else if code == 20 then ScrollPreset (content word 0 % 16) (move (content word 1))
    (offset_across (content word 1)) (move (content word 2)) (offset_down (content word 2))
    else if code == 24 then ScrollCopy (content word 0 % 16) (move (content word 1))
    (offset_across (content word 1)) (move (content word 2)) (offset_down (content word 2))
    else if code == 28 then Transparency (content_of word)
    else if code == 30 then ColoursLow (map (table_colour word) (below 8))
    else if code == 31 then ColoursHigh (map (table_colour word) (below 8))
    else if code == 38 then XorTile (content word 0 % 16) (content word 1 % 16) (content word 2 % 32)
    (content word 3) (drop 4 (content_of word))
    else Unknown

-- the meaning of a word with this mode and number: mode 9 is graphics, mode 0 is idle
abbrev pub meaning_by : List ℕ → ℕ → ℕ → Instr
meaning_by word mode code = if mode == 0 then Idle else if mode == 9 then graphics word code else Foreign

-- the meaning of a word
unfoldable pub meaning : List ℕ → Instr
meaning word = meaning_by word (slice_index word 0) (slice_index word 1)
