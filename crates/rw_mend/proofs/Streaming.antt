-- A stream that was written over the text of its words is the mended stream.
use Rattle.std.proofs.Common.{◌≡◌, ◌≢◌, ℕ, ◌+◌, ◌-◌, ◌*◌, ◌/◌, ◌%◌, ◌<◌, ◌≤◌, List, [], ◌++◌, length, get_or, map, take, drop, Some, None, refl, sym, ap, ◌∙◌, subst, inl, inr, arith, append-nil, append_assoc, length-append, length-drop}
use Rattle.std.specs.Prelude.{slice_range}
use Rattle.std.proofs.Math.Nat.{mul-le-mul_right}
use Rattle.rw_interleave.specs.Interleave.{whole_packs}
use Rattle.std.specs.declared.option.Option.{Option}
use Rattle.std.proofs.lemmas.List.{drop_at, drop-drop, get_or-map, get_or-take, get_or_append_left, get_or_past, length-map, length-take-le, take-append-drop, drop_all}
use Rattle.std.proofs.lemmas.List.Elements.{All-get_or}
use Rattle.bit_lists.specs.Counting.{parts}
use Rattle.rw_mend.specs.Many.{AreAllReported, programs_of, words_in_each}
use Rattle.rw_mend.specs.Streams.{AreMended, mended_bytes, mended_text}
use Rattle.rw_mend.specs.Tallies.{source_byte}
use Rattle.rw_mend.specs.Words.{program_of}
use Rattle.rw_mend.specs.declared.choice.Mended.{Mended}
use Rattle.rw_mend.specs.declared.tallies.Tallies.{Tallies}
use Rattle.rw_mend.specs.declared.candidates.Candidate.{Candidate}
use Rattle.rw_mend.specs.Words.{block_at}
use Rattle.raw_subcode.specs.Channels.{symbols_of}
use Rattle.rw_interleave.specs.Interleave.{swapped}
use Rattle.rw_interleave.proofs.Places.{swapped-lt}
use Rattle.rw_interleave.proofs.Ranges.{map_range}
use Rattle.std.proofs.lemmas.Bool.{cases_lt}
use Rattle.rw_mend.specs.Chosen.{IsChosen, blocks_at, symbol_rule}
use Rattle.rw_mend.specs.Stream.{AreReportedIntoStream, IsMendedBlock, found_symbol, mended_symbol, mended_symbols}
use Rattle.rw_mend.specs.Symbols.{AreBlocks, IsStreamBlock, held_symbol, held_symbols}
use Rattle.rw_mend.specs.declared.words.Words.{Words}
use Rattle.rw_mend.proofs.Heaps.{part_at, parts_length}
use Rattle.rw_mend.proofs.FoundSymbols.{mended_before, mended_block, mended_there}
use Rattle.rw_mend.proofs.Standing.{none_before, none_there, symbol_there}
use Rattle.rw_mend.proofs.StreamBlocks.{block_long, block_same}
use Rattle.rw_mend.proofs.Codewords.{own_codeword, own_long, own_source, text_at}

-- the text of mended words contains their symbols
word_symbol : (lead_in : ℕ) (programs : List (List ℕ)) (said : List (List Candidate))
    (found : List (Option Mended)) (words : Words) (text : List ℕ) (p n : ℕ) (own : Option Mended)
    → AreMended (length found) programs said found → length programs ≤ 254 → words.count ≡ length found
    → ((k : ℕ) → k < length found → get_or words.sources.now k 0 ≡ source_byte (get_or found k None))
    → ((j : ℕ) → j < length (mended_text found) → get_or text j 0 ≡ get_or (mended_text found) j 0)
    → length (mended_text found) ≡ 24 * length found → n < length found
    → p / 24 ≡ 4 * words.lead_in + p % 24 % 8 + n → get_or found n None ≡ own
    → held_symbol words text p ≡ found_symbol own (swapped (p % 24))
word_symbol lead_in programs said found words text p n None are few count sources same long within slot is =
    none_there words text p n slot (λ lt. sources n within ∙ ap source_byte is)
word_symbol lead_in programs said found words text p n (Some own) are few count sources same long within slot
    is =
    let i : ℕ = swapped (p % 24) in
    let lt : i < 24 = swapped-lt (p % 24) (omega arith) in
    let codeword = own_codeword (length found) programs said found n own are within is in
    let named : get_or words.sources.now n 0 ≢ 255 =
    λ (none : get_or words.sources.now n 0 ≡ 255).
    own_source (length found) programs said found n own are within few is (sym (sources n within) ∙ none) in
    let small : get_or own.pack i 0 < 64 =
    All-get_or (λ symbol. symbol < 64) own.pack i 0 (omega (arith, codeword.is_word.size, lt))
    codeword.is_word.symbols in
    let symbol : get_or text (24 * n + i) 0 ≡ get_or own.pack i 0 =
    same (24 * n + i) (omega (arith, long, within, lt))
    ∙ text_at found n i (λ k lt. own_long (length found) programs said found k are lt) within lt
    ∙ ap (λ f. get_or (mended_bytes f) i 0) is in
    let reduced : get_or own.pack i 0 % 64 ≡ get_or own.pack i 0 = omega (arith, small) in
    symbol_there words text p n slot (omega (arith, within, count)) named
    ∙ ap (λ x. Some (x % 64)) symbol
    ∙ ap Some reduced

held_is_mended : (lead_in : ℕ) (programs : List (List ℕ)) (said : List (List Candidate))
    (found : List (Option Mended)) (words : Words) (text : List ℕ) (p : ℕ)
    → AreMended (length found) programs said found → length programs ≤ 254 → words.count ≡ length found
    → words.lead_in ≡ lead_in
    → ((n : ℕ) → n < length found → get_or words.sources.now n 0 ≡ source_byte (get_or found n None))
    → ((j : ℕ) → j < length (mended_text found) → get_or text j 0 ≡ get_or (mended_text found) j 0)
    → length (mended_text found) ≡ 24 * length found
    → held_symbol words text p ≡ mended_symbol lead_in found p
held_is_mended lead_in programs said found words text p are few count begin sources same long =
    elim (cases_lt (p / 24) (4 * lead_in + p % 24 % 8)) [
      | inl before ↦
          none_before words text p (omega (arith, before, begin)) ∙ sym (mended_before lead_in found p before)
      | inr behind ↦
          let n : ℕ = p / 24 - (4 * lead_in + p % 24 % 8) in
          let slot : p / 24 ≡ 4 * lead_in + p % 24 % 8 + n = omega (arith, behind) in
          let own_slot : p / 24 ≡ 4 * words.lead_in + p % 24 % 8 + n = omega (arith, slot, begin) in
          elim (cases_lt n (length found)) [
            | inl within ↦
                word_symbol lead_in programs said found words text p n (get_or found n None) are few count
                sources same long within own_slot refl
                ∙ sym (mended_there lead_in found p n slot)
            | inr outside ↦
                none_there words text p n own_slot (λ lt. absurd (omega (arith, lt, outside, count)))
                ∙ sym
                (mended_there lead_in found p n slot
                ∙ ap (λ f. found_symbol f (swapped (p % 24))) (get_or_past found n None outside))
          ]
    ]

-- ---- The buffer.

-- text that is written at the end of the buffer is behind the bytes before it
text_put : (old packs now : List ℕ) (start size : ℕ) → now ≡ take start old ++ packs ++ drop size old
    → start ≤ length old → drop start now ≡ packs ++ drop size old
text_put old packs now start size is fits =
    let front : length (take start old) ≡ start = length-take-le start old fits in
    ap (drop start) (is ∙ append_assoc (take start old) packs (drop size old))
    ∙ drop_at (take start old) (packs ++ drop size old) start front

behind_text : (old packs now : List ℕ) (start size : ℕ) → now ≡ take start old ++ packs ++ drop size old
    → start ≤ length old → start + length packs ≡ size → drop size now ≡ drop size old
behind_text old packs now start size is fits long =
    let front : length (take start old) ≡ start = length-take-le start old fits in
    ap (drop size) is
    ∙ drop_at (take start old ++ packs) (drop size old) size
    (length-append (take start old) packs ∙ omega (arith, front, long))

-- text that replaces as many bytes
whole_text : (found : List (Option Mended)) (old new : List ℕ)
    → new ≡ mended_text found ++ drop (length (mended_text found)) old
    → length old ≡ length (mended_text found) → new ≡ mended_text found
whole_text found old new is same =
    is
    ∙ ap (λ l. mended_text found ++ l) (drop_all (length (mended_text found)) old (omega (arith, same)))
    ∙ append-nil (mended_text found)

source_at : (found : List (Option Mended)) (old new : List ℕ) (n : ℕ)
    → new ≡ map source_byte found ++ old → n < length found
    → get_or new n 0 ≡ source_byte (get_or found n None)
source_at found old new n is within =
    ap (λ l. get_or l n 0) is
    ∙ get_or_append_left (map source_byte found) old 0 n (omega (arith, within, length-map found source_byte))
    ∙ get_or-map source_byte found n None 0 within

pub first_long : (count size : ℕ) (readings : List ℕ) → 0 < count → length readings ≡ count * size
    → length (get_or (parts count size readings) 0 []) ≡ size
first_long count size readings some long =
    let none : size * 0 ≡ 0 = omega arith in
    ap (λ (l : List ℕ). length l)
    (part_at count size readings 0 some ∙ ap (λ n. take size (drop n readings)) none)
    ∙ length-take-le size readings (omega (arith, long, mul-le-mul_right size some))

-- text that is written into the middle of a buffer
in_middle : (old packs : List ℕ) (start size : ℕ) → start ≤ size
    → take start old ++ (packs ++ drop (size - start) (drop start old))
    ≡ take start old ++ packs ++ drop size old
in_middle old packs start size fits =
    ap (λ l. take start old ++ (packs ++ l))
    (drop-drop (size - start) start old ∙ ap (λ n. drop n old) (omega (arith, fits)))
    ∙ sym (append_assoc (take start old) packs (drop size old))

pub stream_done : (count lead_in start : ℕ) (readings old new packs sources new_sources : List ℕ)
    (words : Words) (tallies : Tallies) (lost : List ℕ)
    → AreBlocks words
    (drop (length readings / count - 24 * words.count)
    (take start old ++ (packs ++ drop (length readings / count - start) (drop start old))))
    (parts count (length readings / count) readings) (length readings / count / 96) new
    → 0 < count → count ≤ 254 → length readings ≡ count * (length readings / count)
    → (length readings / count) % 96 ≡ 0
    → words.count ≡ words_in_each count lead_in readings → words.lead_in ≡ lead_in
    → words.sources.now ≡ new_sources → words_in_each count lead_in readings ≤ length sources
    → start ≡ length readings / count - 24 * words.count → 24 * words.count ≤ length readings / count
    → length readings / count ≤ length old
    → AreAllReported count lead_in readings (slice_range old start (length readings / count)) packs sources
    new_sources tallies lost
    → length new
    ≡ length (take start old ++ (packs ++ drop (length readings / count - start) (drop start old)))
    → drop (length readings / count) new
    ≡ drop (length readings / count)
    (take start old ++ (packs ++ drop (length readings / count - start) (drop start old)))
    → AreReportedIntoStream count lead_in readings old new sources new_sources tallies lost
stream_done count lead_in start readings old new packs sources new_sources words tallies lost blocks some few
    equal
    whole number begin own enough at fits room reported same_size behind =
    let are = reported.into in
    let mended : List ℕ =
    take start old ++ (packs ++ drop (length readings / count - start) (drop start old)) in
    let is : mended ≡ take start old ++ packs ++ drop (length readings / count) old =
    in_middle old packs start (length readings / count) (omega (arith, at)) in
    let size : ℕ = length readings / count in
    let all : List (List ℕ) = parts count size readings in
    let found : List (Option Mended) = are.found in
    let count_is : length found ≡ words_in_each count lead_in readings = are.mended.count in
    let each : words.count ≡ length found = number ∙ sym count_is in
    let long : length (mended_text found) ≡ 24 * length found = are.size ∙ omega (arith, count_is) in
    let before : start ≤ length old = omega (arith, at, room) in
    let part : length (slice_range old start size) ≡ length (mended_text found) =
    length-take-le (size - start) (drop start old) (omega (arith, length-drop start old, room))
    ∙ omega (arith, at, fits, long, each) in
    let text : packs ≡ mended_text found =
    whole_text found (slice_range old start size) packs are.text part in
    let packs_long : length packs ≡ 24 * length found = ap (λ (l : List ℕ). length l) text ∙ long in
    let sum : start + length packs ≡ size = omega (arith, at, fits, packs_long, each) in
    let text_there : drop (size - 24 * words.count) mended ≡ mended_text found ++ drop size old =
    ap (λ n. drop n mended) (sym at)
    ∙ text_put old packs mended start size is before
    ∙ ap (λ l. l ++ drop size old) text in
    let mended_size : length mended ≡ length old =
    ap (λ (l : List ℕ). length l) is
    ∙ length-append (take start old ++ packs) (drop size old)
    ∙ omega (
      arith,
      length-append (take start old) packs,
      length-take-le start old before,
      sum,
      length-drop size old,
      room,
    ) in
    let text_at_end : List ℕ = drop (size - 24 * words.count) mended in
    let stream : List ℕ = take size new in
    let stream_size : length stream ≡ size =
    length-take-le size new (omega (arith, same_size, mended_size, room)) in
    let named : new_sources ≡ map source_byte found ++ drop (length found) sources =
    are.sources enough ∙ ap (λ n. map source_byte found ++ drop n sources) (sym count_is) in
    let programs : List (List ℕ) = programs_of count lead_in readings in
    let programs_few : length programs ≤ 254 =
    omega (arith, length-map all (program_of lead_in), parts_length count size readings, few) in
    record {
      into = record {
        said = are.said;
        found = found;
        mended = are.mended;
        tallies_are = are.tallies_are;
        dropped = are.dropped;
        stream = stream;
        is = record {
          size = stream_size ∙ sym (first_long count size readings some equal);
          words = count_is ∙ ap (λ n. whole_packs (n / 96 - lead_in)) (sym stream_size);
          whole = ap (λ n. n % 96) stream_size ∙ whole;
          blocks =
              λ b lt.
              let inside : 96 * b + 96 ≤ size = omega (arith, lt, stream_size) in
              let is_block : IsStreamBlock words text_at_end (blocks_at all b) b (block_at new b) =
              blocks b (omega (arith, lt, stream_size)) in
              let same_block : block_at new b ≡ block_at stream b =
              block_same new stream b (omega (arith, inside, same_size, mended_size, room))
              (omega (arith, inside, stream_size)) (λ k small.
              sym (get_or-take size new (96 * b + k) 0 (omega (arith, inside, small)))) in
              let symbols_are : held_symbols words text_at_end b ≡ mended_symbols lead_in found b =
              map_range (λ k. held_symbol words text_at_end (96 * b + k))
              (λ k. mended_symbol lead_in found (96 * b + k)) 0 96 (λ k from to.
              held_is_mended lead_in programs are.said found words text_at_end (96 * b + k)
              (subst (λ n. AreMended n programs are.said found) (sym count_is) are.mended) programs_few each
              begin
              (λ n small. ap (λ l. get_or l n 0) own
              ∙ source_at found (drop (length found) sources) new_sources n named small)
              (λ j small. ap (λ l. get_or l j 0) text_there
              ∙ get_or_append_left (mended_text found) (drop size old) 0 j small) long) in
              subst (IsMendedBlock lead_in all found b) same_block
              (mended_block lead_in all found b (block_at new b)
              (block_long new b (omega (arith, inside, same_size, mended_size, room))) is_block.channels
              (subst (λ known. IsChosen (symbol_rule known (blocks_at all b)) (blocks_at all b)
              (symbols_of (block_at new b))) symbols_are is_block.symbols));
        };
        blocks =
            sym (take-append-drop size new)
            ∙ ap (λ l. stream ++ l) (behind ∙ behind_text old packs mended start size is before sum)
            ∙ ap (λ n. stream ++ drop n old) (sym stream_size);
        sources = named;
      };
      losses = reported.losses;
    }
