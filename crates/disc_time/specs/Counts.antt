-- The numbers of blocks in a second, a minute, a lead-in and a program, of tracks on a disc, and of bytes in a text. Code
-- calls them by the names of src/counts.rt.
use Rattle.std.specs.Prelude.{ℕ}

-- blocks in a second: a block takes 588 samples, of 44,100 samples in a second (IEC 60908)
abbrev pub blocks_a_second : ℕ
blocks_a_second = 75

-- blocks in a minute
abbrev pub blocks_a_minute : ℕ
blocks_a_minute = 4500

-- blocks in the pause before the first track: two seconds, so that file time 00:00:00 is absolute time 00:02:00
abbrev pub pause_blocks : ℕ
pause_blocks = 150

-- the number of times that can be written: 00:00:00 to 99:59:74, since minutes have two decimal digits
abbrev pub time_count : ℕ
time_count = 450000

-- the number of the last block whose time can be written: 99:59:74
abbrev pub last_block : ℕ
last_block = 449999

-- the maximum number of blocks in a lead-in: each of them has a different time
abbrev pub most_lead_in : ℕ
most_lead_in = time_count

-- the maximum number of blocks in a program. The lead-out begins at the next block, and the time of this block can be at
-- most 99:59:74.
abbrev pub most_program : ℕ
most_program = last_block

-- the maximum number of tracks on a disc: their numbers have two decimal digits, from 01 on
abbrev pub most_tracks : ℕ
most_tracks = 99

-- the maximum number of bytes in a text: 2^26. Cue sheets and scripts with a thousand pictures of the whole window are
-- shorter. An input without an end is refused before it uses all memory.
abbrev pub most_text_bytes : ℕ
most_text_bytes = 67108864
