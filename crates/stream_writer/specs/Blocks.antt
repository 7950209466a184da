-- The blocks of a stream, made of a P bit, a frame and symbols.
use Rattle.std.specs.Prelude.{◌≡◌, ℕ, ◌+◌, ◌*◌, ◌<◌, Bool, false, List, [], ◌∷◌, ◌++◌, length, take, drop, flat_map, replicate, All, if◌then◌else◌}
use Rattle.bit_lists.specs.Check.{check_bits}
use Rattle.bit_lists.specs.Counting.{below}
use Rattle.raw_subcode.specs.Channels.{p_bits, q_bits, symbols_of}
use Rattle.raw_subcode.specs.Sizes.{block_bytes}
use Rattle.q_channel.specs.QFrame.{fields_of, spelled, IsFrame}
use Rattle.q_channel.specs.declared.frame.QFrame.{QFrame}
use Rattle.toc_model.specs.Places.{DiscLayout}
use Rattle.toc_model.specs.Layout.{p_bit, program_frame, toc_frame}
use Rattle.cdtext_packs.specs.LeadIn.{lead_in_symbols}

-- a byte of a block: the bit of channel P is the highest one, that of Q the next, and the symbol has the rest
abbrev pub built_byte : Bool → Bool → ℕ → ℕ
built_byte p q symbol = (if p then 128 else 0) + (if q then 64 else 0) + symbol

-- the bytes with this P bit, and each with its Q bit and its symbol
unfoldable pub built_block : Bool → List Bool → List ℕ → List ℕ
built_block p [] symbols = []
built_block p (q ∷ qs) [] = []
built_block p (q ∷ qs) (symbol ∷ symbols) = built_byte p q symbol ∷ built_block p qs symbols

-- the 96 bits of a frame: its fields and their check
unfoldable pub bits_of_frame : QFrame → List Bool
bits_of_frame frame = spelled (fields_of frame) ++ check_bits (spelled (fields_of frame))

-- block l of the lead-in: the P bit is 0, the frame is an entry of the table of contents, the symbols are text packs
unfoldable pub lead_in_block : DiscLayout → List (List ℕ) → ℕ → ℕ → List ℕ
lead_in_block layout texts lead_in l =
    built_block false (bits_of_frame (toc_frame layout lead_in l)) (lead_in_symbols texts l)

-- the symbols of block b, taken from the symbols of all program blocks
abbrev pub symbols_at : List ℕ → ℕ → List ℕ
symbols_at symbols b = take block_bytes (drop (block_bytes * b) symbols)

-- program block b with these symbols
unfoldable pub carrying_block : DiscLayout → ℕ → List ℕ → List ℕ
carrying_block layout b symbols =
    built_block (p_bit layout b) (bits_of_frame (program_frame layout b)) symbols

-- program block b, taken from the symbols of all program blocks
abbrev pub program_block : DiscLayout → List ℕ → ℕ → List ℕ
program_block layout symbols b = carrying_block layout b (symbols_at symbols b)

-- a stream: the lead-in blocks, and the first program blocks of a disc with these symbols
unfoldable pub stream_bytes : DiscLayout → List (List ℕ) → ℕ → ℕ → List ℕ → List ℕ
stream_bytes layout texts lead_in blocks symbols =
    flat_map (lead_in_block layout texts lead_in) (below lead_in)
    ++ flat_map (program_block layout symbols) (below blocks)

-- The block has this P bit in each byte, and this frame.
pub record HasChannels (block : List ℕ) (paused : Bool) (frame : QFrame) : Type 0 where
  pub p : p_bits block ≡ replicate block_bytes paused
  pub q : IsFrame frame (q_bits block)

-- The list is a block of 96 bytes with this P bit, this frame and these symbols.
pub record IsBuilt (block : List ℕ) (paused : Bool) (frame : QFrame) (symbols : List ℕ) : Type 0 where
  pub size : length block ≡ block_bytes
  pub are_bytes : All (λ byte. byte < 256) block
  pub channels : HasChannels block paused frame
  pub carried : symbols_of block ≡ symbols
