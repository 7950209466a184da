-- The channels and symbols of a stream determine its bytes, and so do its packs.
use Rattle.std.proofs.Common.{◌≡◌, ℕ, ◌+◌, ◌*◌, ◌<◌, Bool, false, List, length, drop, All, sym, ap, subst, ◌∙◌, arith}
use Rattle.std.proofs.lemmas.List.{length-take-le, length-drop}
use Rattle.std.proofs.lemmas.List.Elements.{All-take, All-drop}
use Rattle.raw_subcode.specs.Channels.{symbols_of, program_symbols}
use Rattle.raw_subcode.specs.declared.form.Form.TheVariants.{Raw}
use Rattle.q_channel.specs.declared.frame.QFrame.{QFrame}
use Rattle.rw_interleave.specs.Interleave.{Carries}
use Rattle.toc_model.specs.Places.{DiscLayout}
use Rattle.toc_model.specs.Layout.{p_bit, program_frame, toc_frame}
use Rattle.cdtext_packs.specs.LeadIn.{lead_in_symbols}
use Rattle.stream_writer.specs.Blocks.{built_block, bits_of_frame, lead_in_block, carrying_block, program_block, symbols_at, stream_bytes, HasChannels}
use Rattle.stream_writer.specs.Framing.{raw_block, HasFraming}
use Rattle.stream_writer.proofs.Built.{made_of}
use Rattle.stream_writer.proofs.Cuts.{bytes_at, raw_block_at, symbols_of_block, two_parts}
use Rattle.stream_writer.proofs.Symbols.{same_symbols}

-- a block of bytes is determined by its P bit, its frame and its symbols
block_is : (paused : Bool) (frame : QFrame) (symbols block : List ℕ) → length block ≡ 96
    → All (λ b. b < 256) block → HasChannels block paused frame → symbols_of block ≡ symbols
    → built_block paused (bits_of_frame frame) symbols ≡ block
unfolding bits_of_frame
block_is paused frame symbols block size small channels carried =
    sym (made_of paused (bits_of_frame frame) symbols block size small channels.p channels.q.spelling carried)

module _ (layout : DiscLayout) (texts : List (List ℕ)) (lead_in : ℕ) (bytes : List ℕ)
    (framing : HasFraming layout texts lead_in bytes) where
  size_at : (k : ℕ) → k < lead_in + layout.blocks → length (bytes_at bytes k) ≡ 96
  size_at k lt =
      length-take-le 96 (drop (96 * k) bytes) (omega (arith, lt, framing.size, length-drop (96 * k) bytes))

  small_at : (k : ℕ) → All (λ b. b < 256) (bytes_at bytes k)
  small_at k =
      All-take (λ b. b < 256) 96 (drop (96 * k) bytes)
      (All-drop (λ b. b < 256) (96 * k) bytes framing.are_bytes)

  lead_in_is : (l : ℕ) → l < lead_in → lead_in_block layout texts lead_in l ≡ bytes_at bytes l
  unfolding lead_in_block
  lead_in_is l lt =
      let here : raw_block bytes l ≡ bytes_at bytes l =
      raw_block_at bytes (lead_in + layout.blocks) l framing.size (omega arith) in
      block_is false (toc_frame layout lead_in l) (lead_in_symbols texts l) (bytes_at bytes l)
      (size_at l (omega arith)) (small_at l)
      (subst (λ (block : List ℕ). HasChannels block false (toc_frame layout lead_in l)) here
      (framing.contents l lt)) (ap symbols_of (sym here) ∙ framing.texts l lt)

  program_is : (b : ℕ) → b < layout.blocks
      → program_block layout (program_symbols Raw bytes lead_in) b ≡ bytes_at bytes (lead_in + b)
  unfolding carrying_block
  program_is b lt =
      let here : raw_block bytes (lead_in + b) ≡ bytes_at bytes (lead_in + b) =
      raw_block_at bytes (lead_in + layout.blocks) (lead_in + b) framing.size (omega arith) in
      block_is (p_bit layout b) (program_frame layout b) (symbols_at (program_symbols Raw bytes lead_in) b)
      (bytes_at bytes (lead_in + b)) (size_at (lead_in + b) (omega arith)) (small_at (lead_in + b))
      (subst (λ (block : List ℕ). HasChannels block (p_bit layout b) (program_frame layout b)) here
      (framing.program b lt)) (symbols_of_block bytes lead_in layout.blocks b framing.size)

  -- the bytes are those of the layout, the texts and the program symbols
  pub stream_is : stream_bytes layout texts lead_in layout.blocks (program_symbols Raw bytes lead_in) ≡ bytes
  unfolding stream_bytes
  stream_is =
      two_parts bytes (lead_in_block layout texts lead_in)
      (program_block layout (program_symbols Raw bytes lead_in)) lead_in layout.blocks framing.size lead_in_is
      program_is

-- the packs and the framing determine the bytes
pub same_bytes : (layout : DiscLayout) (texts : List (List ℕ)) (lead_in : ℕ) (bytes bytes' : List ℕ)
    (packs packs' : List (List ℕ)) → packs ≡ packs'
    → HasFraming layout texts lead_in bytes → HasFraming layout texts lead_in bytes'
    → Carries layout.blocks (program_symbols Raw bytes lead_in) packs
    → Carries layout.blocks (program_symbols Raw bytes' lead_in) packs'
    → bytes ≡ bytes'
same_bytes layout texts lead_in bytes bytes' packs packs' same framing framing' carries carries' =
    let symbols : program_symbols Raw bytes lead_in ≡ program_symbols Raw bytes' lead_in =
    same_symbols layout.blocks (program_symbols Raw bytes lead_in) (program_symbols Raw bytes' lead_in) packs'
    (subst (λ (ps : List (List ℕ)). Carries layout.blocks (program_symbols Raw bytes lead_in) ps) same
    carries) carries' in
    sym (stream_is layout texts lead_in bytes framing)
    ∙ ap (stream_bytes layout texts lead_in layout.blocks) symbols
    ∙ stream_is layout texts lead_in bytes' framing'
