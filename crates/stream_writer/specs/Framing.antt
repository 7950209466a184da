-- The P bits, the Q frames and the texts of a stream.
use Rattle.std.specs.Prelude.{◌≡◌, ℕ, ◌+◌, ◌*◌, ◌<◌, false, List, [], length, slice_index_or, All}
use Rattle.raw_subcode.specs.Channels.{symbols_of, blocks_of}
use Rattle.raw_subcode.specs.Sizes.{block_bytes}
use Rattle.raw_subcode.specs.declared.form.Form.TheVariants.{Raw}
use Rattle.toc_model.specs.Places.{DiscLayout}
use Rattle.toc_model.specs.Layout.{p_bit, program_frame, toc_frame}
use Rattle.cdtext_packs.specs.LeadIn.{lead_in_symbols}
use Rattle.stream_writer.specs.Blocks.{HasChannels}

-- block n of the raw blocks of a stream
abbrev pub raw_block : List ℕ → ℕ → List ℕ
raw_block bytes n = slice_index_or (blocks_of Raw bytes) n []

-- The bytes are a lead-in with the table of contents and these text packs, followed by the program of a disc with its P
-- bits and frames.
pub record HasFraming (layout : DiscLayout) (packs : List (List ℕ)) (lead_in : ℕ)
    (bytes : List ℕ) : Type 0 where
  pub size : length bytes ≡ block_bytes * (lead_in + layout.blocks)
  pub are_bytes : All (λ byte. byte < 256) bytes
  pub program : (b : ℕ) → b < layout.blocks
      → HasChannels (raw_block bytes (lead_in + b)) (p_bit layout b) (program_frame layout b)
  pub contents : (l : ℕ) → l < lead_in → HasChannels (raw_block bytes l) false (toc_frame layout lead_in l)
  pub texts : (l : ℕ) → l < lead_in → symbols_of (raw_block bytes l) ≡ lead_in_symbols packs l
