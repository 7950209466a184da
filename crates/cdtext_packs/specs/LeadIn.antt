-- The packs in the symbols of the lead-in.
use Rattle.std.specs.Prelude.{ℕ, ◌+◌, ◌*◌, ◌%◌, List, [], length, map, flat_map, take, drop, replicate, slice_index_or, ◌==◌, if◌then◌else◌}
use Rattle.bit_lists.specs.Counting.{below}
use Rattle.bit_lists.specs.Bits.{bits_of_bytes, numbers_of}
use Rattle.raw_subcode.specs.Channels.{symbols_of, symbol_bits}
use Rattle.raw_subcode.specs.Sizes.{slots_a_block, symbols_a_slot}

-- the symbols of a pack: its 144 bits, six in each symbol
abbrev pub pack_symbols : List ℕ → List ℕ
pack_symbols pack = numbers_of 6 (bits_of_bytes pack)

-- the symbols of slot j of the lead-in: the packs are repeated again and again; without packs, all symbols are zeros
abbrev pub lead_in_slot : List (List ℕ) → ℕ → List ℕ
lead_in_slot packs j = if length packs == 0 then replicate symbols_a_slot 0
    else pack_symbols (slice_index_or packs (j % length packs) [])

-- the symbols of a block of the lead-in, which has four slots
abbrev pub lead_in_symbols : List (List ℕ) → ℕ → List ℕ
lead_in_symbols packs block =
    flat_map (λ k. lead_in_slot packs (slots_a_block * block + k)) (below slots_a_block)

-- pack k of the four of a block: the bits of 24 symbols
abbrev pub pack_at : List ℕ → ℕ → List ℕ
pack_at block k = numbers_of 8
    (symbol_bits (take symbols_a_slot (drop (symbols_a_slot * k) (symbols_of block))))

-- the packs of blocks of the lead-in
abbrev pub lead_in_packs : List (List ℕ) → List (List ℕ)
lead_in_packs blocks = flat_map (λ block. map (pack_at block) (below slots_a_block)) blocks
