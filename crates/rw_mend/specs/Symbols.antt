-- The symbols of mended words in a stream.
use Rattle.std.specs.Prelude.{◌≡◌, ◌≢◌, ◌==◌, ◌&&◌, ◌+◌, ◌-◌, ◌*◌, ◌/◌, ◌%◌, ◌<◌, ◌≤◌, not, nat_lt, if◌then◌else◌, ℕ, List, length, map, slice_index, Option, Some, None}
use Rattle.bit_lists.specs.Counting.{below}
use Rattle.raw_subcode.specs.Channels.{symbols_of}
use Rattle.raw_subcode.specs.Sizes.{block_bytes, slots_a_block, symbols_a_slot}
use Rattle.rw_interleave.specs.Interleave.{place, span, swapped}
use Rattle.rw_mend.specs.Tallies.{no_source}
use Rattle.rw_mend.specs.Words.{block_at}
use Rattle.rw_mend.specs.Chosen.{IsChosen, blocks_at, channel_rule, channels_of, completed, symbol_rule}
use Rattle.rw_mend.specs.declared.words.Words.{Words}

-- the place of symbol i of word n in a stream with this number of lead-in blocks
abbrev pub stream_place : ℕ → ℕ → ℕ → ℕ
stream_place lead_in n i = block_bytes * lead_in + place n i

-- the slot of a stream in which the first word has its symbol at the position of byte p
abbrev pub first_slot : ℕ → ℕ → ℕ
first_slot lead_in p = slots_a_block * lead_in + p % symbols_a_slot % span

-- the symbol at byte p if it belongs to word n and this word is mended; the text has the symbols of mended words
abbrev pub text_symbol : Words → List ℕ → ℕ → ℕ → Option ℕ
text_symbol words text p n =
    if nat_lt n words.count && not (slice_index words.sources.now n == no_source)
    then Some (slice_index text (symbols_a_slot * n + swapped (p % symbols_a_slot)) % 64) else None

-- the symbol of a mended word at byte p, from the text, if the byte belongs to such a word
unfoldable pub held_symbol : Words → List ℕ → ℕ → Option ℕ
held_symbol words text p = if nat_lt (p / symbols_a_slot) (first_slot words.lead_in p) then None
    else text_symbol words text p (p / symbols_a_slot - first_slot words.lead_in p)

-- the symbols of mended words in block b, from the text
abbrev pub held_symbols : Words → List ℕ → ℕ → List (Option ℕ)
held_symbols words text b = map (λ k. held_symbol words text (block_bytes * b + k)) (below block_bytes)

-- The block has channels P and Q of `framed`, the known symbols, and the other symbols of `read`.
pub record IsBlock (known : List (Option ℕ)) (framed read block : List ℕ) : Type 0 where
  pub channels : channels_of block ≡ channels_of framed
  pub symbols : symbols_of block ≡ completed known read

-- This is block b of the stream: its channels P and Q and its symbols are those chosen of the blocks of readings.
pub record IsStreamBlock (words : Words) (text : List ℕ) (blocks : List (List ℕ)) (b : ℕ) (block : List ℕ)
    : Type 0 where
  pub channels : IsChosen (channel_rule blocks) blocks (channels_of block)
  pub symbols : IsChosen (symbol_rule (held_symbols words text b) blocks) blocks (symbols_of block)

-- These are the first blocks of a stream.
abbrev pub AreBlocks : Words → List ℕ → List (List ℕ) → ℕ → List ℕ → Type 0
AreBlocks words text readings count bytes = (b : ℕ) → b < count
    → IsStreamBlock words text (blocks_at readings b) b (block_at bytes b)

-- there is a source for each word
abbrev pub HaveSources : Words → Type 0
HaveSources words = words.count ≤ length words.sources.now

-- The text is long enough for all words.
abbrev pub HasWordText : Words → List ℕ → Type 0
HasWordText words text = symbols_a_slot * words.count ≤ length text

-- Each word with a symbol in block b was mended: the words that begin in the slots of the block, or in the seven slots
-- before.
pub record AreMendedUnder (words : Words) (b : ℕ) : Type 0 where
  pub first : 4 * words.lead_in + 7 ≤ 4 * b
  pub last : 4 * b + 4 ≤ 4 * words.lead_in + words.count
  pub found : (n : ℕ) → 4 * b ≤ 4 * words.lead_in + 7 + n → 4 * words.lead_in + n < 4 * b + 4
      → slice_index words.sources.now n ≢ no_source
