-- The stream of one reading.
use Rattle.std.proofs.Common.{◌≡◌, ℕ, ◌+◌, ◌*◌, ◌/◌, ◌%◌, ◌<◌, ◌≤◌, List, [], ◌∷◌, length, get_or, None, sym, ap, ◌∙◌, arith}
use Rattle.std.specs.declared.option.Option.{Option}
use Rattle.std.proofs.lemmas.List.FromFn.{fill_by_all}
use Rattle.raw_subcode.specs.Channels.{program_symbols}
use Rattle.raw_subcode.specs.declared.form.Form.TheVariants.{Raw}
use Rattle.rw_interleave.specs.Interleave.{place, word_of}
use Rattle.rw_mend.specs.Words.{block_at}
use Rattle.rw_mend.specs.declared.choice.Mended.{Mended}
use Rattle.rw_mend.specs.Chosen.{IsChosen, Rule, blocks_at, channels_of}
use Rattle.rw_mend.specs.StreamLaws.{IsReadSymbol}
use Rattle.rw_mend.specs.Stream.{IsMendedPlace, IsMendedStream}
use Rattle.rw_mend.specs.Symbols.{stream_place}
use Rattle.rw_mend.proofs.Bytes.{channel_at}
use Rattle.rw_mend.proofs.Recovered.{other_word, own_byte, program_symbol}
use Rattle.rw_mend.proofs.StreamBlocks.{block_long}

-- the only block is chosen
only : (rule : Rule) (reading part : List ℕ) (b : ℕ)
    (chosen : IsChosen rule (blocks_at (reading ∷ []) b) part)
    → get_or (blocks_at (reading ∷ []) b) chosen.reading [] ≡ block_at reading b
only rule reading part b chosen =
    let first : chosen.reading ≡ 0 = omega (arith, chosen.within) in
    ap (λ r. get_or (blocks_at (reading ∷ []) b) r []) first

word_is : (symbols : List ℕ) (n : ℕ) (word : List ℕ) → length word ≡ 24
    → ((i : ℕ) → i < 24 → get_or word i 0 ≡ get_or symbols (place n i) 0) → word ≡ word_of symbols n
unfolding word_of
word_is symbols n word size each =
    fill_by_all (λ i. get_or symbols (place n i) 0) word 24 0 size each

module _ (lead_in : ℕ) (reading : List ℕ) (found : List (Option Mended)) (stream : List ℕ)
    (is : IsMendedStream lead_in (reading ∷ []) found stream) where
  pub own_channels : (p : ℕ) → p < length stream → get_or stream p 0 / 64 ≡ get_or reading p 0 / 64
  own_channels p lt =
      let b : ℕ = p / 96 in
      let k : ℕ = p % 96 in
      let inside : b < length stream / 96 = omega (arith, lt, is.whole) in
      let fits : 96 * b + 96 ≤ length stream = omega (arith, inside) in
      let its : 96 * b + 96 ≤ length reading = omega (arith, fits, is.size) in
      let block = is.blocks b inside in
      let small : k < 96 = omega arith in
      ap (λ x. x / 64) (own_byte stream p)
      ∙ sym (channel_at (block_at stream b) k (omega (arith, small, block_long stream b fits)))
      ∙ ap (λ l. get_or l k 0)
      (block.channels.is ∙ ap channels_of (only _ reading (channels_of (block_at stream b)) b block.channels))
      ∙ channel_at (block_at reading b) k (omega (arith, small, block_long reading b its))
      ∙ ap (λ x. x / 64) (sym (own_byte reading p))

  pub own_kept : (p : ℕ) → p < length stream
      → ((n i : ℕ) (own : Mended) → ¬ IsMendedPlace lead_in found p n i own)
      → get_or stream p 0 ≡ get_or reading p 0
  own_kept p lt none =
      let b : ℕ = p / 96 in
      let k : ℕ = p % 96 in
      let there : 96 * b + k ≡ p = omega arith in
      let block = is.blocks b (omega (arith, lt, is.whole)) in
      let high : get_or stream p 0 / 64 ≡ get_or reading p 0 / 64 = own_channels p lt in
      let low : get_or stream p 0 % 64 ≡ get_or reading p 0 % 64 =
      ap (λ x. x % 64) (own_byte stream p)
      ∙ block.others k (omega arith) (λ n i own at.
      none n i own (record { word = at.word; symbol = at.symbol; is = at.is; place = at.place ∙ there }))
      ∙ ap (λ l. get_or l k 0 % 64) (only _ reading _ b block.symbols)
      ∙ ap (λ x. x % 64) (sym (own_byte reading p)) in
      omega (arith, high, low)

  read_own : (p symbol : ℕ) → IsReadSymbol lead_in (reading ∷ []) found p symbol
      → symbol ≡ get_or reading p 0 % 64
  read_own p symbol read =
      read.is
      ∙ ap (λ l. get_or l (p % 96) 0 % 64) (only _ reading read.symbols (p / 96) read.chosen)
      ∙ ap (λ x. x % 64) (sym (own_byte reading p))

  pub own_word : (n : ℕ) → length stream % 96 ≡ 0 → n < length found → get_or found n None ≡ None
      → word_of (program_symbols Raw stream lead_in) n ≡ word_of (program_symbols Raw reading lead_in) n
  own_word n whole lt none =
      let same : length reading % 96 ≡ 0 = ap (λ m. m % 96) (sym is.size) ∙ whole in
      let read = other_word lead_in (reading ∷ []) found stream is whole n lt none in
      word_is (program_symbols Raw reading lead_in) n (word_of (program_symbols Raw stream lead_in) n)
      read.size (λ i small.
      read_own (stream_place lead_in n i) _ (read.symbols i small)
      ∙ sym (program_symbol lead_in (place n i) reading same))
