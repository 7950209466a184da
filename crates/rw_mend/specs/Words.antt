-- The words of a program, as they were read.
use Rattle.std.specs.Prelude.{◌==◌, ℕ, ◌+◌, ◌-◌, ◌*◌, ◌/◌, ◌≤◌, Bool, if◌then◌else◌, List, [], map, drop, slice_range, slice_index_or}
use Rattle.std.specs.List.{list_all, list_any, range_with_len}
use Rattle.raw_subcode.specs.Channels.{symbols_of}
use Rattle.raw_subcode.specs.Sizes.{block_bytes}
use Rattle.rw_interleave.specs.Interleave.{word_of}
use Rattle.rw_mend.specs.Candidates.{candidate_of}
use Rattle.rw_mend.specs.declared.candidates.Coverage.{Coverage}
use Rattle.rw_mend.specs.declared.candidates.Coverage.TheVariants.{Whole, Partly, Unread}
use Rattle.rw_mend.specs.declared.candidates.WordReading.{WordReading}
use Rattle.rw_mend.specs.declared.candidates.Candidate.{Candidate}

-- the bytes of the program blocks of a raw stream
abbrev pub program_of : ℕ → List ℕ → List ℕ
program_of lead_in bytes = drop (block_bytes * lead_in) bytes

-- block b of a program
abbrev pub block_at : List ℕ → ℕ → List ℕ
block_at program b = slice_range program (block_bytes * b) (block_bytes * b + block_bytes)

-- A program of `size` bytes has all blocks under word n.
abbrev pub HoldsWord : ℕ → ℕ → Type 0
HoldsWord n size = block_bytes * ((n + 7) / 4) + block_bytes ≤ size

-- whether all symbols of a block are 0
abbrev pub is_blank_block : List ℕ → Bool
is_blank_block block = list_all (λ symbol. symbol == 0) (symbols_of block)

-- whether a block was not read: all its bytes are 0
abbrev pub is_unread_block : List ℕ → Bool
is_unread_block block = list_all (λ byte. byte == 0) block

-- the blocks under word n: those of the eight slots that have its symbols
abbrev pub blocks_under : List ℕ → ℕ → List (List ℕ)
blocks_under program n = map (block_at program) (range_with_len (n / 4) ((n + 7) / 4 - n / 4 + 1))

-- how much of some blocks was read
abbrev pub coverage_of : List (List ℕ) → Coverage
coverage_of blocks = if list_all is_unread_block blocks then Unread
    else (if list_any is_unread_block blocks then Partly else Whole)

-- the reading of word n of a program
unfoldable pub reading_at : List ℕ → ℕ → WordReading
reading_at program n = record {
  word = word_of (symbols_of program) n;
  coverage = coverage_of (blocks_under program n);
}

-- the candidate of reading r of some programs at word n, regardless of the other readings
abbrev pub given_at : List (List ℕ) → ℕ → ℕ → Candidate
given_at programs r n = candidate_of (reading_at (slice_index_or programs r []) n)
