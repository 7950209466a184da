-- Which bits P and Q and which symbols of the readings of a block are chosen. The order of the readings plays no part.
use Rattle.std.specs.Prelude.{◌≡◌, ◌==◌, ◌<◌, ◌/◌, ◌%◌, ◌&&◌, ◌||◌, ℕ, Bool, false, true, not, if◌then◌else◌, List, [], ◌∷◌, length, map, count_by, slice_index, slice_index_or, Option, Some, None, is_ok}
use Rattle.std.specs.Cmp.Lexicographic.{slice_cmp}
use Rattle.std.specs.List.{list_any}
use Rattle.std.specs.Ordering.{is_gt, nat_cmp}
use Rattle.std.specs.Str.{bytes_eq}
use Rattle.bit_lists.specs.Counting.{below}
use Rattle.raw_subcode.specs.Channels.{q_bits}
use Rattle.raw_subcode.specs.Sizes.{block_bytes}
use Rattle.q_channel.specs.ReadingOf.{reading_of}
use Rattle.rw_mend.specs.Words.{block_at, is_unread_block}

-- block b of each reading
abbrev pub blocks_at : List (List ℕ) → ℕ → List (List ℕ)
blocks_at readings b = map (λ reading. block_at reading b) readings

-- whether the Q channel of a block is a frame
unfoldable pub is_framed_block : List ℕ → Bool
is_framed_block block = is_ok (reading_of (q_bits block))

-- whether a block was read: not all its bytes are 0
abbrev pub is_read_block : List ℕ → Bool
is_read_block block = not (is_unread_block block)

-- ---- A rule, and the block that it chooses.

-- A rule: which blocks are eligible, how many known symbols a block has, and the part of a block that is chosen.
pub record Rule : Type 0 where
  pub is_eligible : List ℕ → Bool
  pub matches : List ℕ → ℕ
  pub part : List ℕ → List ℕ

-- the number of eligible blocks that have this part
unfoldable pub votes_for : Rule → List (List ℕ) → List ℕ → ℕ
votes_for rule blocks part =
    count_by (λ block. rule.is_eligible block && bytes_eq (rule.part block) part) blocks

-- The rank of a block: how many known symbols it has, then the votes for its part, then the part itself.
abbrev pub rank_of : Rule → List (List ℕ) → List ℕ → List ℕ
rank_of rule blocks block = rule.matches block ∷ votes_for rule blocks (rule.part block) ∷ rule.part block

-- One rank is not above another. The first number in which two ranks differ decides.
abbrev pub IsAtMost : List ℕ → List ℕ → Type 0
IsAtMost rank other = is_gt (slice_cmp nat_cmp rank other) ≡ false

-- This is the part of an eligible block, and no eligible block has a higher rank.
pub record IsChosen (rule : Rule) (blocks : List (List ℕ)) (part : List ℕ) : Type 0 where
  pub reading : ℕ
  pub within : reading < length blocks
  pub eligible : rule.is_eligible (slice_index_or blocks reading []) ≡ true
  pub is : part ≡ rule.part (slice_index_or blocks reading [])
  pub highest : (r : ℕ) → r < length blocks → rule.is_eligible (slice_index_or blocks r []) ≡ true
      → IsAtMost (rank_of rule blocks (slice_index_or blocks r []))
      (rank_of rule blocks (slice_index_or blocks reading []))

-- ---- Symbols.

-- The blocks that were read are eligible for symbols; if none was read, all are.
unfoldable pub has_eligible_symbols : List (List ℕ) → List ℕ → Bool
has_eligible_symbols blocks block = is_read_block block || not (list_any is_read_block blocks)

-- whether a byte has the symbol that is known
abbrev pub has_symbol : Option ℕ → ℕ → Bool
has_symbol (Some symbol) byte = byte % 64 == symbol
has_symbol None byte = false

-- the symbol that is known, or else that of a byte
abbrev pub symbol_or : Option ℕ → ℕ → ℕ
symbol_or (Some symbol) byte = symbol
symbol_or None byte = byte % 64

-- the number of places at which a block has the symbol that is known there
unfoldable pub matches_of : List (Option ℕ) → List ℕ → ℕ
matches_of known block =
    count_by (λ k. has_symbol (slice_index_or known k None) (slice_index block k)) (below block_bytes)

-- the symbols of a block, with the known symbols in their places
unfoldable pub completed : List (Option ℕ) → List ℕ → List ℕ
completed known block =
    map (λ k. symbol_or (slice_index_or known k None) (slice_index block k)) (below block_bytes)

-- For symbols the blocks with the most known symbols rank first, then those whose symbols most blocks have.
abbrev pub symbol_rule : List (Option ℕ) → List (List ℕ) → Rule
symbol_rule known blocks = record {
  is_eligible = has_eligible_symbols blocks;
  matches = matches_of known;
  part = completed known;
}

-- ---- Channels P and Q.

-- The blocks whose Q channel is a frame are eligible for P and Q; if there is none, those that are eligible for symbols.
unfoldable pub has_eligible_channels : List (List ℕ) → List ℕ → Bool
has_eligible_channels blocks block =
    if list_any is_framed_block blocks then is_framed_block block else has_eligible_symbols blocks block

-- the bits P and Q of each byte of a block, as a number below 4
abbrev pub channels_of : List ℕ → List ℕ
channels_of block = map (λ byte. byte / 64) block

-- For P and Q the blocks rank first whose bits most blocks have.
abbrev pub channel_rule : List (List ℕ) → Rule
channel_rule blocks = record {
  is_eligible = has_eligible_channels blocks;
  matches = λ block. 0;
  part = channels_of;
}
