-- The steps of the stage that writes the lines of the Q channel.
use Rattle.bit_lists.specs.Counting.{counted}
use Rattle.std.specs.Prelude.{ℕ, ◌-◌, min, if◌then◌else◌, List, Option, Some, is_err}
use Rattle.raw_subcode.specs.Channels.{q_bits}
use Rattle.raw_subcode.specs.Sizes.{most_units}
use Rattle.q_channel.specs.QLine.{q_line}
use Rattle.q_channel.specs.ReadingOf.{reading_of}
use Rattle.q_channel.specs.declared.q_lines.QLines.{QLines}

-- the counts after a block: all blocks, and those with a refused frame
unfoldable pub q_next : QLines → List ℕ → QLines
q_next s block = record {
  block = counted s.block;
  bad = if is_err (reading_of (q_bits block)) then counted s.bad else s.bad;
}

-- the line of a block with its number, which is at most the last number in a stream
unfoldable pub q_give : QLines → List ℕ → Option (List ℕ)
q_give s block = Some (q_line (min s.block (most_units - 1)) (reading_of (q_bits block)))
