-- A checkpoint in the middle of a stream, its file, and which checkpoints are sound.
use Rattle.std.specs.Prelude.{ℕ, zero, suc, ◌+◌, ◌*◌, ◌/◌, ◌%◌, ◌^◌, List, [], ◌∷◌, ◌++◌, take, drop, flat_map, slice_index, ◌≡◌, ◌<◌, ◌≤◌, length}
use Rattle.bit_lists.specs.Counting.{below}
use Rattle.bit_lists.specs.Check.{check_of}
use Rattle.cdg_instructions.specs.Sizes.{screen_width, colour_values, screen_height}
use Rattle.cdg_screen.specs.Standing.{Standing, pixel_at, rows_of, sixteen, IsWholeStanding}
use Rattle.cdg_checkpoint.specs.declared.fields.StreamCounts.{StreamCounts}
use Rattle.cdg_checkpoint.specs.Table.{Part, Mark, ToCome, LeadIn, Program, Bad, Slots, Memory, Border, Across, Down, Colours, Levels, Check, row, body_parts, mark, number, slots_bytes, empty_symbols}
use Rattle.disc_time.specs.Counts.{most_lead_in}
use Rattle.raw_subcode.specs.Sizes.{most_units}
use Rattle.rw_interleave.specs.Interleave.{whole_packs}

-- the fields of a checkpoint: the lead-in blocks that are not read yet and those that are, the program blocks read,
-- the bad words so far, the symbols of the last seven slots (zeros before the first slot), and the state of the screen
pub record Checkpoint : Type 0 where
  pub to_come : ℕ
  pub lead_in : ℕ
  pub program : ℕ
  pub bad : ℕ
  pub slots : List ℕ
  pub standing : Standing

-- the checkpoint of these counts, slots and state of the screen
abbrev pub kept : StreamCounts → List ℕ → Standing → Checkpoint
kept counts slots now = record {
  to_come = counts.to_come;
  lead_in = counts.lead_in;
  program = counts.program;
  bad = counts.bad;
  slots = slots;
  standing = now;
}

-- Writing

-- the number that is written in field k of a part
abbrev pub written_value : Checkpoint → Part → ℕ → ℕ
written_value c Mark k = mark
written_value c ToCome k = c.to_come
written_value c LeadIn k = c.lead_in
written_value c Program k = c.program
written_value c Bad k = c.bad
written_value c Slots k = slice_index c.slots k
written_value c Memory k = pixel_at c.standing.memory (k % screen_width) (k / screen_width)
written_value c Border k = c.standing.border
written_value c Across k = c.standing.h
written_value c Down k = c.standing.v
written_value c Colours k = slice_index c.standing.colours k
written_value c Levels k = slice_index c.standing.levels k
written_value c Check k = 0

-- a number as `size` bytes, the highest first
abbrev pub bytes_of : ℕ → ℕ → List ℕ
bytes_of zero n = []
bytes_of (suc size) n = (n / 256 ^ size % 256) ∷ bytes_of size n

-- the bytes of a part
unfoldable pub part_bytes : Checkpoint → Part → List ℕ
part_bytes c part = flat_map (λ k. bytes_of (row part).size (written_value c part k)) (below (row part).count)

-- bytes followed by those of parts
abbrev pub with_parts : List ℕ → Checkpoint → List Part → List ℕ
with_parts file c [] = file
with_parts file c (part ∷ rest) = with_parts (file ++ part_bytes c part) c rest

-- the bytes that the check covers
abbrev pub body : Checkpoint → List ℕ
body c = flat_map (part_bytes c) body_parts

-- the file of a checkpoint
unfoldable pub file_of : Checkpoint → List ℕ
file_of c = body c ++ bytes_of 2 (check_of (body c))

-- Reading

-- the state of the screen in a file: its memory row by row from the left
abbrev pub standing_in : List ℕ → Standing
standing_in file = record {
  memory = rows_of (λ x y. number file Memory (screen_width * y + x));
  border = number file Border 0;
  colours = sixteen (number file Colours);
  levels = sixteen (number file Levels);
  h = number file Across 0;
  v = number file Down 0;
}

-- the checkpoint in a file
abbrev pub checkpoint_in : List ℕ → Checkpoint
checkpoint_in file = record {
  to_come = number file ToCome 0;
  lead_in = number file LeadIn 0;
  program = number file Program 0;
  bad = number file Bad 0;
  slots = take slots_bytes (drop (row Slots).first file);
  standing = standing_in file;
}

-- the state of the screen is complete, and its colours, levels and offsets are in their ranges
pub record IsSoundStanding (now : Standing) : Type 0 where
  pub whole : IsWholeStanding now
  pub memory : (x y : ℕ) → x < screen_width → y < screen_height → pixel_at now.memory x y < 16
  pub border : now.border < 16
  pub colour : (k : ℕ) → k < 16 → slice_index now.colours k < colour_values
  pub level : (k : ℕ) → k < 16 → slice_index now.levels k < 64
  pub h : now.h ≤ 5
  pub v : now.v ≤ 11

-- the counts, the symbols of the slots and the state of the screen are in their ranges
pub record IsSoundCheckpoint (c : Checkpoint) : Type 0 where
  pub lead_in : c.to_come + c.lead_in ≤ most_lead_in
  pub blocks : c.lead_in + c.program ≤ most_units
  pub none_yet : 0 < c.to_come → c.program ≡ 0
  pub bad : c.bad ≤ whole_packs c.program
  pub slots_size : length c.slots ≡ slots_bytes
  pub slots_below : (k : ℕ) → k < slots_bytes → slice_index c.slots k < 64
  pub slots_empty : (k : ℕ) → k < empty_symbols c.program → slice_index c.slots k ≡ 0
  pub standing : IsSoundStanding c.standing
