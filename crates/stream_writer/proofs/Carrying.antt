-- A disc with a layout has a stream for any codewords.
use Rattle.std.proofs.Common.{◌≡◌, ℕ, ◌*◌, ◌<◌, ◌≤◌, false, List, [], length, get_or, take, drop, All, sym, ap, subst, ◌∙◌, inl, inr, arith}
use Rattle.std.specs.List.{AllByRecursion}
use Rattle.std.proofs.lemmas.List.{length-take-le, length-drop}
use Rattle.std.proofs.lemmas.List.Elements.{All-take, All-drop, All-get_or, All-from_get_or, recursion_from_All}
use Rattle.rw_code.specs.Codeword.{IsCodeword}
use Rattle.rw_interleave.specs.Interleave.{whole_packs, Carries}
use Rattle.rw_interleave.specs.Spreading.{filled_with_idle}
use Rattle.q_channel.specs.QFrame.{IsValid}
use Rattle.cue_sheet.specs.CueSheet.{CueSheet, IsSheet}
use Rattle.toc_model.specs.Places.{DiscLayout, layout_of, program_blocks}
use Rattle.toc_model.specs.Layout.{p_bit, program_frame, toc_frame}
use Rattle.cdtext_packs.specs.LeadIn.{lead_in_symbols}
use Rattle.stream_writer.specs.SheetTexts.{texts_of_sheet}
use Rattle.stream_writer.specs.Blocks.{carrying_block, lead_in_block, program_block, stream_bytes, symbols_at, IsBuilt}
use Rattle.stream_writer.specs.Framing.{HasFraming}
use Rattle.stream_writer.specs.Given.{symbols_from}
use Rattle.stream_writer.specs.Needs.{text_packs, HasLayout}
use Rattle.raw_subcode.specs.Channels.{program_symbols}
use Rattle.raw_subcode.specs.declared.form.Form.TheVariants.{Raw}
use Rattle.stream_writer.proofs.Framed.{AreBuilt, framing, program_is}
use Rattle.stream_writer.proofs.Whole.{SpreadCarries}
use Rattle.stream_writer.proofs.Symbols.{in_pack, symbol_of_pack}
use Rattle.stream_writer.proofs.Frames.{sheet_program_valid, sheet_toc_valid}
use Rattle.stream_writer.proofs.LeadIns.{IsSymbols, lead_in_is, packs_eighteen}
use Rattle.stream_writer.proofs.BuiltBlocks.{is_built}

-- the symbols of a stream that carries packs are below 64
carried_small : (blocks : ℕ) (symbols : List ℕ) (packs : List (List ℕ)) → Carries blocks symbols packs
    → All (λ s. s < 64) symbols
carried_small blocks symbols packs carries =
    All-from_get_or (λ s. s < 64) symbols 0 (λ p lt. elim (in_pack p (whole_packs blocks)) [
      | inl (n, i, n_lt, i_lt, here) ↦
          let codeword : IsCodeword (get_or packs n []) =
          All-get_or IsCodeword packs n [] (omega (arith, n_lt, carries.count)) carries.codewords in
          let is : get_or (get_or packs n []) i 0 ≡ get_or symbols p 0 =
          ap (λ (w : List ℕ). get_or w i 0) (sym (carries.words n n_lt))
          ∙ symbol_of_pack symbols n i i_lt
          ∙ ap (λ k. get_or symbols k 0) here in
          subst (λ s. s < 64) is (All-get_or (λ s. s < 64) (get_or packs n []) i 0
          (omega (arith, i_lt, codeword.is_word.size)) codeword.is_word.symbols)
      | inr none ↦
          subst (λ s. s < 64) (sym (carries.others p (omega (arith, lt, carries.size)) none)) (omega arith)
    ])

block_symbols : (symbols : List ℕ) (blocks b : ℕ) → length symbols ≡ 96 * blocks → b < blocks
    → All (λ s. s < 64) symbols
    → IsSymbols 96 (symbols_at symbols b)
block_symbols symbols blocks b size lt small = (
  length-take-le 96 (drop (96 * b) symbols) (omega (arith, size, lt, length-drop (96 * b) symbols)),
  recursion_from_All (λ s. s < 64) (take 96 (drop (96 * b) symbols))
      (All-take (λ s. s < 64) 96 (drop (96 * b) symbols) (All-drop (λ s. s < 64) (96 * b) symbols small)),
)

module _ (layout : DiscLayout) (texts : List (List ℕ)) (lead_in : ℕ) (symbols : List ℕ)
    (size : length symbols ≡ 96 * layout.blocks) (small : All (λ s. s < 64) symbols)
    (eighteen : AllByRecursion (λ (pack : List ℕ). length pack ≡ 18) texts)
    (contents_valid : (l : ℕ) → l < lead_in → IsValid (toc_frame layout lead_in l))
    (program_valid : (b : ℕ) → b < layout.blocks → IsValid (program_frame layout b)) where
  contents_built : (l : ℕ) → l < lead_in
      → IsBuilt (lead_in_block layout texts lead_in l) false (toc_frame layout lead_in l)
      (lead_in_symbols texts l)
  unfolding lead_in_block
  contents_built l lt =
      is_built false (toc_frame layout lead_in l) (lead_in_symbols texts l) (contents_valid l lt)
      (lead_in_is texts l eighteen)

  program_built : (b : ℕ) → b < layout.blocks
      → IsBuilt (program_block layout symbols b) (p_bit layout b) (program_frame layout b)
      (symbols_at symbols b)
  unfolding carrying_block
  program_built b lt =
      is_built (p_bit layout b) (program_frame layout b) (symbols_at symbols b) (program_valid b lt)
      (block_symbols symbols layout.blocks b size lt small)

  blocks_are : AreBuilt layout texts lead_in symbols
  blocks_are = record { contents = contents_built; program = program_built }

-- a disc with a layout has a stream for any codewords, as many as fit
pub carrying_stream : SpreadCarries → (sheet : CueSheet) (lead_in audio : ℕ) (packs : List (List ℕ))
    → IsSheet sheet → HasLayout sheet audio → lead_in ≤ 450000
    → length packs ≡ whole_packs (program_blocks sheet audio) → All IsCodeword packs
    → (bytes : List ℕ)
    × HasFraming (layout_of sheet audio) (text_packs sheet) lead_in bytes
    × Carries (program_blocks sheet audio) (program_symbols Raw bytes lead_in) packs
carrying_stream spread sheet lead_in audio packs is_sheet disc few count codewords =
    let layout : DiscLayout = layout_of sheet audio in
    let blocks : ℕ = program_blocks sheet audio in
    let texts : List (List ℕ) = text_packs sheet in
    let symbols : List ℕ = symbols_from [] (filled_with_idle (4 * blocks) packs) in
    let carries : Carries blocks symbols packs = spread blocks packs count codewords in
    let contents_valid = sheet_toc_valid sheet audio is_sheet disc.0 disc.1 lead_in in
    let program_valid = sheet_program_valid sheet audio is_sheet disc.0 disc.1 in
    let built =
    blocks_are layout texts lead_in symbols carries.size (carried_small blocks symbols packs carries)
    (packs_eighteen (texts_of_sheet sheet)) (λ l lt. contents_valid l lt few) program_valid in (
      stream_bytes layout texts lead_in blocks symbols,
      framing layout texts lead_in symbols built,
      subst (λ (s : List ℕ). Carries blocks s packs)
          (sym (program_is layout texts lead_in symbols built carries.size)) carries,
    )
