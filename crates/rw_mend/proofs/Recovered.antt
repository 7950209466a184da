-- The words of a mended stream.
use Rattle.std.proofs.Common.{◌≡◌, ℕ, zero, suc, ◌+◌, ◌-◌, ◌*◌, ◌/◌, ◌%◌, ◌<◌, List, [], ◌++◌, length, get_or, take, drop, map, flat_map, Some, None, refl, sym, ap, subst, ◌∙◌, length-drop, arith}
use Rattle.std.specs.declared.option.Option.{Option}
use Rattle.std.proofs.Math.ListN.{get_or-map}
use Rattle.std.proofs.Math.Seq.{drop-nil}
use Rattle.std.proofs.lemmas.List.{drop-drop, get_or-drop, length-map, map-append, nil_from_length, take-append-drop}
use Rattle.std.proofs.lemmas.List.FromFn.{fill_by_all, get_or-map-range_with_len, length-map-range_with_len}
use Rattle.bit_lists.specs.Counting.{parts}
use Rattle.raw_subcode.specs.Channels.{symbols_of, block_of, program_symbols}
use Rattle.raw_subcode.specs.declared.form.Form.TheVariants.{Raw}
use Rattle.rw_code.specs.Codeword.{IsCodeword}
use Rattle.rw_code.specs.Finding.{IsFinding}
use Rattle.rw_code.proofs.Differing.{differences_self}
use Rattle.rw_code.proofs.Finding.{only_finding}
use Rattle.rw_interleave.specs.Interleave.{place, swapped, whole_packs, word_of}
use Rattle.rw_interleave.specs.Stream.{IsRecovered}
use Rattle.rw_interleave.proofs.Places.{swapped-lt}
use Rattle.rw_mend.specs.Streams.{AreMended}
use Rattle.rw_mend.specs.declared.choice.Mended.{Mended}
use Rattle.rw_mend.specs.declared.candidates.Candidate.{Candidate}
use Rattle.rw_mend.specs.Words.{block_at}
use Rattle.rw_mend.specs.StreamLaws.{AreFoundAgain, IsReadSymbol, IsReadWord}
use Rattle.rw_mend.specs.Stream.{IsMendedStream}
use Rattle.rw_mend.specs.Symbols.{stream_place}
use Rattle.rw_mend.proofs.Codewords.{own_codeword}
use Rattle.rw_mend.proofs.Standing.{slot_of}
use Rattle.rw_mend.proofs.StreamBlocks.{block_byte}

-- ---- The program of a stream of whole blocks.

blocks_symbols : (n l k : ℕ) (bytes : List ℕ) → length bytes ≡ n * 96 → k ≡ 96 * l
    → flat_map symbols_of (drop l (map (block_of Raw) (parts n 96 bytes))) ≡ symbols_of (drop k bytes)
blocks_symbols zero l k bytes size at =
    let none : bytes ≡ [] = nil_from_length bytes (omega (arith, size)) in
    ap (flat_map symbols_of) (drop-nil l)
    ∙ sym (ap (λ b. symbols_of (drop k b)) none ∙ ap symbols_of (drop-nil k))
blocks_symbols (suc n) zero k bytes size at =
    let here : 0 ≡ k = omega (arith, at) in
    ap (λ l. symbols_of (take 96 bytes) ++ l) (blocks_symbols n 0 0 (drop 96 bytes) (length-drop 96 bytes
    ∙ omega (arith, size)) refl)
    ∙ sym (map-append (λ byte. byte % 64) (take 96 bytes) (drop 96 bytes))
    ∙ ap symbols_of (take-append-drop 96 bytes) ∙ ap (λ m. symbols_of (drop m bytes)) here
blocks_symbols (suc n) (suc l) k bytes size at =
    let there : 96 + 96 * l ≡ k = omega (arith, at) in
    blocks_symbols n l (96 * l) (drop 96 bytes) (length-drop 96 bytes ∙ omega (arith, size)) refl
    ∙ ap symbols_of (drop-drop (96 * l) 96 bytes ∙ ap (λ m. drop m bytes) there)

pub program_is : (lead_in : ℕ) (bytes : List ℕ) → length bytes % 96 ≡ 0
    → program_symbols Raw bytes lead_in ≡ symbols_of (drop (96 * lead_in) bytes)
program_is lead_in bytes whole =
    blocks_symbols (length bytes / 96) lead_in (96 * lead_in) bytes (omega (arith, whole)) refl

pub program_symbol : (lead_in p : ℕ) (bytes : List ℕ) → length bytes % 96 ≡ 0
    → get_or (program_symbols Raw bytes lead_in) p 0 ≡ get_or bytes (96 * lead_in + p) 0 % 64
program_symbol lead_in p bytes whole =
    ap (λ l. get_or l p 0) (program_is lead_in bytes whole)
    ∙ get_or-map (λ (byte : ℕ). byte % 64) (drop (96 * lead_in) bytes) p 0
    ∙ ap (λ x. x % 64) (get_or-drop (96 * lead_in) bytes p 0)

program_size : (lead_in : ℕ) (bytes : List ℕ) → length bytes % 96 ≡ 0
    → length (program_symbols Raw bytes lead_in) / 96 ≡ length bytes / 96 - lead_in
program_size lead_in bytes whole =
    let size : length (program_symbols Raw bytes lead_in) ≡ length bytes - 96 * lead_in =
    ap (λ (l : List ℕ). length l) (program_is lead_in bytes whole)
    ∙ length-map (drop (96 * lead_in) bytes) (λ (byte : ℕ). byte % 64)
    ∙ length-drop (96 * lead_in) bytes in
    omega (arith, size, whole)

-- byte p, in its block
pub own_byte : (stream : List ℕ) (p : ℕ) → get_or stream p 0 ≡ get_or (block_at stream (p / 96)) (p % 96) 0
own_byte stream p =
    let there : 96 * (p / 96) + p % 96 ≡ p = omega arith in
    sym (block_byte stream (p / 96) (p % 96) (omega arith) ∙ ap (λ k. get_or stream k 0) there)

-- ---- Words.

within : (lead_in size words n i : ℕ) → size % 96 ≡ 0 → words ≡ whole_packs (size / 96 - lead_in) → n < words
    → i < 24 → stream_place lead_in n i < size
within lead_in size words n i whole count lt small =
    let position : swapped i < 24 = swapped-lt i small in
    omega (arith, whole, count, lt, position)

module _ (lead_in : ℕ) (readings : List (List ℕ)) (found : List (Option Mended)) (stream : List ℕ)
    (is : IsMendedStream lead_in readings found stream) (whole : length stream % 96 ≡ 0) where
  abbrev pub symbols : List ℕ
  symbols = program_symbols Raw stream lead_in

  mended_symbol : (n i : ℕ) (own : Mended) → n < length found → i < 24 → get_or found n None ≡ Some own
      → get_or symbols (place n i) 0 ≡ get_or own.pack i 0
  mended_symbol n i own lt small here =
      let at : ℕ = stream_place lead_in n i in
      let inside : at < length stream =
      within lead_in (length stream) (length found) n i whole is.words lt small in
      let there : 96 * (at / 96) + at % 96 ≡ at = omega arith in
      program_symbol lead_in (place n i) stream whole
      ∙ ap (λ x. x % 64) (own_byte stream at)
      ∙ (is.blocks (at / 96) (omega (arith, inside, whole))).mended (at % 96) n i own (omega arith)
      (record { word = lt; symbol = small; is = here; place = sym there })

  other_symbol : (n i : ℕ) → n < length found → i < 24 → get_or found n None ≡ None
      → IsReadSymbol lead_in readings found (stream_place lead_in n i) (get_or symbols (place n i) 0)
  other_symbol n i lt small none =
      let at : ℕ = stream_place lead_in n i in
      let inside : at < length stream =
      within lead_in (length stream) (length found) n i whole is.words lt small in
      let there : 96 * (at / 96) + at % 96 ≡ at = omega arith in
      let block = is.blocks (at / 96) (omega (arith, inside, whole)) in
      record {
        symbols = symbols_of (block_at stream (at / 96));
        chosen = block.symbols;
        is =
            program_symbol lead_in (place n i) stream whole
            ∙ ap (λ x. x % 64) (own_byte stream at)
            ∙ block.others (at % 96) (omega arith) (λ m j own place.
            let here = slot_of lead_in n i at small refl in
            let other = slot_of lead_in m j at place.symbol (place.place ∙ there) in
            let same : m ≡ n = omega (arith, here.1, other.1) in
            let lost : get_or found m None ≡ None = ap (λ k. get_or found k None) same ∙ none in
            cc (lost, place.is));
      }

  pub mended_word : (n : ℕ) (own : Mended) → n < length found → get_or found n None ≡ Some own
      → length own.pack ≡ 24 → word_of symbols n ≡ own.pack
  unfolding word_of
  mended_word n own lt here size =
      sym (fill_by_all (λ i. get_or symbols (place n i) 0) own.pack 24 0 size
      (λ i small. sym (mended_symbol n i own lt small here)))

  pub other_word : (n : ℕ) → n < length found → get_or found n None ≡ None
      → IsReadWord lead_in readings found n (word_of symbols n)
  unfolding word_of
  other_word n lt none = record {
    size = length-map-range_with_len (λ (i : ℕ). get_or symbols (place n i) 0) 0 24;
    symbols =
        λ i small.
        subst (IsReadSymbol lead_in readings found (stream_place lead_in n i))
        (sym
        (get_or-map-range_with_len (λ (j : ℕ). get_or symbols (place n j) 0) 0 24 i i 0 small (omega arith)))
        (other_symbol n i lt small none);
  }

only_itself : (codeword : List ℕ) (found : Option (List ℕ)) → IsCodeword codeword → IsFinding codeword found
    → found ≡ Some codeword
only_itself codeword found is finds =
    only_finding codeword is.is_word found finds
    ∙ sym (only_finding codeword is.is_word (Some codeword) (record {
      is_codeword = is;
      is_near = omega (arith, differences_self codeword);
    }))

pub found_again : (words lead_in : ℕ) (readings programs : List (List ℕ)) (said : List (List Candidate))
    (found : List (Option Mended)) (stream : List ℕ) (recovered : List (Option (List ℕ)))
    → AreMended words programs said found → IsMendedStream lead_in readings found stream
    → length stream % 96 ≡ 0 → IsRecovered Raw (program_symbols Raw stream lead_in) recovered
    → AreFoundAgain lead_in readings found recovered
found_again words lead_in readings programs said found stream recovered are is whole again =
    let symbols : List ℕ = program_symbols Raw stream lead_in in
    let count : whole_packs (length symbols / 96) ≡ length found =
    ap whole_packs (program_size lead_in stream whole) ∙ sym is.words in
    record {
      count = again.count ∙ count;
      mended =
          λ n own lt here.
          let codeword : IsCodeword own.pack =
          own_codeword words programs said found n own are (omega (arith, lt, are.count)) here in
          only_itself own.pack (get_or recovered n None) codeword
          (subst (λ w. IsFinding w (get_or recovered n None))
          (mended_word lead_in readings found stream is whole n own lt here codeword.is_word.size)
          (again.each n (omega (arith, lt, count))));
      others =
          λ n lt none.
          record {
            word = word_of symbols n;
            is = other_word lead_in readings found stream is whole n lt none;
            finding = again.each n (omega (arith, lt, count));
          };
    }
