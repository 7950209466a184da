-- Blocks that overwrite text which is still needed.
use Rattle.std.proofs.Common.{◌≡◌, ℕ, ◌+◌, ◌-◌, ◌*◌, ◌/◌, ◌%◌, ◌<◌, ◌≤◌, List, ◌++◌, length, get_or, take, drop, sym, ap, ◌∙◌, subst, inl, inr, arith, below_more, length-append}
use Rattle.std.specs.Prelude.{Some}
use Rattle.std.proofs.lemmas.Bool.{cases_eq, cases_lt}
use Rattle.std.proofs.lemmas.List.{drop_at, drop-drop, get_or-drop, get_or-take, get_or_append_left, get_or-append_right, length-take-le, take_rest}
use Rattle.rw_interleave.specs.Interleave.{swapped}
use Rattle.rw_interleave.proofs.Ranges.{map_range}
use Rattle.rw_mend.specs.Words.{block_at}
use Rattle.rw_mend.specs.Chosen.{IsChosen, blocks_at, symbol_rule}
use Rattle.raw_subcode.specs.Channels.{symbols_of}
use Rattle.rw_mend.specs.Symbols.{AreBlocks, IsStreamBlock, held_symbol, held_symbols}
use Rattle.rw_mend.specs.declared.words.Words.{Words}
use Rattle.rw_mend.proofs.Standing.{none_before, none_there, symbol_there}
use Rattle.rw_mend.proofs.StreamBlocks.{block_same, block_with}

-- lists that agree from a place have the same elements there
pub same_behind : (now old : List ℕ) (m q : ℕ) → drop m now ≡ drop m old → m ≤ q
    → get_or now q 0 ≡ get_or old q 0
same_behind now old m q same from =
    let there : m + (q - m) ≡ q = omega (arith, from) in
    ap (λ k. get_or now k 0) (sym there)
    ∙ sym (get_or-drop m now (q - m) 0)
    ∙ ap (λ l. get_or l (q - m) 0) same
    ∙ get_or-drop m old (q - m) 0
    ∙ ap (λ k. get_or old k 0) there

-- the text of a word is behind the blocks that are written before the block of its last symbol
text_behind : (words : Words) (size start p b n i : ℕ) → start ≡ size - 24 * words.count
    → (0 < words.count → 24 * words.count + 96 * words.lead_in + 24 * 7 ≤ size) → n < words.count
    → 96 * b ≤ p → p / 24 ≡ 4 * words.lead_in + p % 24 % 8 + n → 96 * b ≤ start + (24 * n + i)
text_behind words size start p b n i at late within from slot =
    let some : 0 < words.count = omega (arith, within) in
    let room : 24 * words.count + 96 * words.lead_in + 24 * 7 ≤ size = late some in
    let first : 4 * b ≤ p / 24 = omega (arith, from) in
    let delay : p % 24 % 8 ≤ 7 = omega arith in
    omega (arith, at, room, first, delay, slot)

-- so the symbol of word n is still in the text
same_word : (words : Words) (now old : List ℕ) (size start p b n : ℕ) → start ≡ size - 24 * words.count
    → (0 < words.count → 24 * words.count + 96 * words.lead_in + 24 * 7 ≤ size)
    → drop (96 * b) now ≡ drop (96 * b) old → 96 * b ≤ p → p / 24 ≡ 4 * words.lead_in + p % 24 % 8 + n
    → held_symbol words (drop start now) p ≡ held_symbol words (drop start old) p
same_word words now old size start p b n at late same from slot =
    elim (cases_lt n words.count) [
      | inr outside ↦
          none_there words (drop start now) p n slot (λ within. absurd (omega (arith, within, outside)))
          ∙ sym
          (none_there words (drop start old) p n slot (λ within. absurd (omega (arith, within, outside))))
      | inl within ↦
          elim (cases_eq (get_or words.sources.now n 0) 255) [
            | inl lost ↦
                none_there words (drop start now) p n slot (λ own. lost)
                ∙ sym (none_there words (drop start old) p n slot (λ own. lost))
            | inr found ↦
                let i : ℕ = swapped (p % 24) in
                let behind : 96 * b ≤ start + (24 * n + i) =
                text_behind words size start p b n i at late within from slot in
                let read : get_or (drop start now) (24 * n + i) 0 ≡ get_or (drop start old) (24 * n + i) 0 =
                get_or-drop start now (24 * n + i) 0
                ∙ same_behind now old (96 * b) (start + (24 * n + i)) same behind
                ∙ sym (get_or-drop start old (24 * n + i) 0) in
                symbol_there words (drop start now) p n slot within found
                ∙ ap (λ s. Some (s % 64)) read
                ∙ sym (symbol_there words (drop start old) p n slot within found)
          ]
    ]

same_symbol : (words : Words) (now old : List ℕ) (size start p b : ℕ) → start ≡ size - 24 * words.count
    → (0 < words.count → 24 * words.count + 96 * words.lead_in + 24 * 7 ≤ size)
    → drop (96 * b) now ≡ drop (96 * b) old → 96 * b ≤ p
    → held_symbol words (drop start now) p ≡ held_symbol words (drop start old) p
same_symbol words now old size start p b at late same from =
    elim (cases_lt (p / 24) (4 * words.lead_in + p % 24 % 8)) [
      | inl before ↦
          none_before words (drop start now) p before ∙ sym (none_before words (drop start old) p before)
      | inr behind ↦
          let n : ℕ = p / 24 - (4 * words.lead_in + p % 24 % 8) in
          let slot : p / 24 ≡ 4 * words.lead_in + p % 24 % 8 + n = omega (arith, behind) in
          same_word words now old size start p b n at late same from slot
    ]

pub same_symbols : (words : Words) (now old : List ℕ) (size start b : ℕ) → start ≡ size - 24 * words.count
    → (0 < words.count → 24 * words.count + 96 * words.lead_in + 24 * 7 ≤ size)
    → drop (96 * b) now ≡ drop (96 * b) old
    → held_symbols words (drop start now) b ≡ held_symbols words (drop start old) b
same_symbols words now old size start b at late same =
    map_range (λ k. held_symbol words (drop start now) (96 * b + k))
    (λ k. held_symbol words (drop start old) (96 * b + k)) 0 96 (λ k from to.
    same_symbol words now old size start (96 * b + k) b at late same (omega arith))

pub same_stream_block : (words : Words) (text other : List ℕ) (blocks : List (List ℕ)) (b : ℕ)
    (block : List ℕ)
    → held_symbols words text b ≡ held_symbols words other b → IsStreamBlock words text blocks b block
    → IsStreamBlock words other blocks b block
same_stream_block words text other blocks b block same is = record {
  channels = is.channels;
  symbols = subst (λ known. IsChosen (symbol_rule known blocks) blocks (symbols_of block)) same is.symbols;
}

-- ---- A block written in its place.

pub kept_before : (list block new : List ℕ) (m p : ℕ) → new ≡ take m list ++ block ++ drop (m + 96) list
    → m ≤ length list → p < m → get_or new p 0 ≡ get_or list p 0
kept_before list block new m p is fits before =
    let front : length (take m list) ≡ m = length-take-le m list fits in
    ap (λ l. get_or l p 0) is
    ∙ get_or_append_left (take m list ++ block) (drop (m + 96) list) 0 p
    (omega (arith, length-append (take m list) block, front, before))
    ∙ get_or_append_left (take m list) block 0 p (omega (arith, front, before))
    ∙ get_or-take m list p 0 before

pub put_there : (list block new : List ℕ) (m k : ℕ) → new ≡ take m list ++ block ++ drop (m + 96) list
    → m ≤ length list → length block ≡ 96 → k < 96 → get_or new (m + k) 0 ≡ get_or block k 0
put_there list block new m k is fits size lt =
    let front : length (take m list) ≡ m = length-take-le m list fits in
    ap (λ l. get_or l (m + k) 0) is
    ∙ get_or_append_left (take m list ++ block) (drop (m + 96) list) 0 (m + k)
    (omega (arith, length-append (take m list) block, front, size, lt))
    ∙ get_or-append_right (take m list) block m (m + k) 0 front (omega arith)
    ∙ ap (λ j. get_or block j 0) (omega arith)

-- one more block
pub blocks_more : (words : Words) (text list block new : List ℕ) (readings : List (List ℕ)) (b : ℕ)
    → new ≡ take (96 * b) list ++ block ++ drop (96 * b + 96) list → 96 * b + 96 ≤ length list
    → length new ≡ length list → length block ≡ 96 → AreBlocks words text readings b list
    → IsStreamBlock words text (blocks_at readings b) b block → AreBlocks words text readings (b + 1) new
blocks_more words text list block new readings b is inside size long before here =
    let fits : 96 * b ≤ length list = omega (arith, inside) in
    below_more (λ c. IsStreamBlock words text (blocks_at readings c) c (block_at new c)) b
    (λ c lt.
    let kept : block_at list c ≡ block_at new c =
    sym
    (block_same new list c (omega (arith, lt, inside, size)) (omega (arith, lt, inside)) (λ k small.
    kept_before list block new (96 * b) (96 * c + k) is fits (omega (arith, lt, small)))) in
    subst (IsStreamBlock words text (blocks_at readings c) c) kept (before c lt))
    (subst (IsStreamBlock words text (blocks_at readings b) b)
    (sym
    (block_with new block b (omega (arith, inside, size)) long (λ k small.
    put_there list block new (96 * b) k is fits long small))) here)

-- the bytes behind the block are unchanged
pub kept_behind : (list block new old : List ℕ) (b : ℕ)
    → new ≡ take (96 * b) list ++ block ++ drop (96 * b + 96) list → 96 * b ≤ length list → length block ≡ 96
    → drop (96 * b) list ≡ drop (96 * b) old → drop (96 * (b + 1)) new ≡ drop (96 * (b + 1)) old
kept_behind list block new old b is fits size same =
    let front : length (take (96 * b) list ++ block) ≡ 96 * (b + 1) =
    length-append (take (96 * b) list) block ∙ omega (arith, length-take-le (96 * b) list fits, size) in
    let next : 96 * b + 96 ≡ 96 * (b + 1) = omega arith in
    ap (drop (96 * (b + 1))) is
    ∙ drop_at (take (96 * b) list ++ block) (drop (96 * b + 96) list) (96 * (b + 1)) front
    ∙ sym (drop-drop 96 (96 * b) list)
    ∙ ap (drop 96) same
    ∙ drop-drop 96 (96 * b) old
    ∙ ap (λ n. drop n old) next

-- the text from which the block is made
pub text_is : (list : List ℕ) (start : ℕ) → take (length list - start) (drop start list) ≡ drop start list
text_is list start = take_rest list start
