-- The symbols that are written for an instruction mean it.
use Rattle.std.proofs.Common.{◌≡◌, ℕ, ◌+◌, ◌*◌, ◌<◌, ◌≤◌, ◌/◌, ◌%◌, List, [], ◌∷◌, length, get_or, drop, map, flat_map, sym, ap, refl, ◌∙◌, arith}
use Rattle.std.proofs.lemmas.Bool.Decides.{nat_tests}
use Rattle.cdg_instructions.specs.Instruction.{Means, InRange, InTileRange, InScrollRange, IsKnown, IsWritten, IsTile, IsScroll, IsGraphics, content, content_of, message_of, tile_symbols, scroll_symbols, colour_symbols, move, offset_across, offset_down, table_colour}
use Rattle.bit_lists.specs.Counting.{below}
use Rattle.cdg_instructions.proofs.Symbols.{message_of-has, content_of-message}
use Rattle.cdg_instructions.specs.declared.instr.Instr.{Instr}
use Rattle.cdg_instructions.specs.declared.instr.Instr.TheVariants.{Idle, Foreign, Unknown, MemoryPreset, BorderPreset, SetTile, XorTile, ScrollPreset, ScrollCopy, Transparency, ColoursLow, ColoursHigh}

move_of : (across h n : ℕ) → across ≤ 2 → h < 16 → n ≡ 16 * across + h → across ≡ move n
move_of across h n most lt e = grind (arith, nat_tests)

across_of : (across h n : ℕ) → h ≤ 5 → n ≡ 16 * across + h → h ≡ offset_across n
across_of across h n most e = omega arith

down_of : (across h n : ℕ) → h ≤ 11 → n ≡ 16 * across + h → h ≡ offset_down n
down_of across h n most e = omega arith

content_is : (word symbols : List ℕ) → length word ≡ 24 → message_of word ≡ symbols
    → content_of word ≡ drop 2 symbols
content_is word symbols size same = content_of-message word size ∙ ap (drop 2) same

is_tile : (word : List ℕ) (code a b row column : ℕ) (lines : List ℕ) → length word ≡ 24
    → InTileRange a b row column lines
    → message_of word ≡ 9 ∷ code ∷ tile_symbols a b row column lines
    → IsGraphics word code × IsTile word a b row column lines
is_tile word code a b row column lines size range same =
    let has = message_of-has word _ size same in
    let e0 : get_or word 4 0 ≡ a = has.body 0 (omega arith) in
    let e1 : get_or word 5 0 ≡ b = has.body 1 (omega arith) in
    let e2 : get_or word 6 0 ≡ row = has.body 2 (omega arith) in
    let e3 : get_or word 7 0 ≡ column = has.body 3 (omega arith) in (
      record { mode_is = has.head 0 (omega arith); code_is = has.head 1 (omega arith) },
      record {
        colour0_is = omega arith;
        colour1_is = omega arith;
        row_is = omega arith;
        column_is = sym e3;
        lines_are = sym (ap (drop 4) (content_is word _ size same));
      },
    )

is_scroll : (word : List ℕ) (code colour across h down v : ℕ) → length word ≡ 24
    → InScrollRange colour across h down v
    → message_of word ≡ 9 ∷ code ∷ scroll_symbols colour across h down v
    → IsGraphics word code × IsScroll word colour across h down v
is_scroll word code colour across h down v size range same =
    let has = message_of-has word _ size same in
    let e0 : get_or word 4 0 ≡ colour = has.body 0 (omega arith) in
    let e1 : get_or word 5 0 ≡ 16 * across + h = has.body 1 (omega arith) in
    let e2 : get_or word 6 0 ≡ 16 * down + v = has.body 2 (omega arith) in (
      record { mode_is = has.head 0 (omega arith); code_is = has.head 1 (omega arith) },
      record {
        colour_is = omega arith;
        across_is = move_of across h _ range.across_most (omega arith) e1;
        h_is = across_of across h _ range.h_most e1;
        down_is = move_of down v _ range.down_most (omega arith) e2;
        v_is = down_of down v _ range.v_most e2;
      },
    )

two_symbols : (a b n : ℕ) → a ≡ n / 64 → b ≡ n % 64 → 64 * a + b ≡ n
two_symbols a b n e f = omega arith

table_is : (word : List ℕ) (code : ℕ) (colours : List ℕ) → length word ≡ 24 → length colours ≡ 8
    → message_of word ≡ 9 ∷ code ∷ flat_map colour_symbols colours
    → colours ≡ map (table_colour word) (below 8)
table_is word code (c0 ∷ c1 ∷ c2 ∷ c3 ∷ c4 ∷ c5 ∷ c6 ∷ c7 ∷ []) size count same =
    let has = message_of-has word _ size same in
    let e0 : table_colour word 0 ≡ c0 =
    two_symbols _ _ c0 (has.body 0 (omega arith)) (has.body 1 (omega arith)) in
    let e1 : table_colour word 1 ≡ c1 =
    two_symbols _ _ c1 (has.body 2 (omega arith)) (has.body 3 (omega arith)) in
    let e2 : table_colour word 2 ≡ c2 =
    two_symbols _ _ c2 (has.body 4 (omega arith)) (has.body 5 (omega arith)) in
    let e3 : table_colour word 3 ≡ c3 =
    two_symbols _ _ c3 (has.body 6 (omega arith)) (has.body 7 (omega arith)) in
    let e4 : table_colour word 4 ≡ c4 =
    two_symbols _ _ c4 (has.body 8 (omega arith)) (has.body 9 (omega arith)) in
    let e5 : table_colour word 5 ≡ c5 =
    two_symbols _ _ c5 (has.body 10 (omega arith)) (has.body 11 (omega arith)) in
    let e6 : table_colour word 6 ≡ c6 =
    two_symbols _ _ c6 (has.body 12 (omega arith)) (has.body 13 (omega arith)) in
    let e7 : table_colour word 7 ≡ c7 =
    two_symbols _ _ c7 (has.body 14 (omega arith)) (has.body 15 (omega arith)) in
    cc
table_is word code _ size count same = absurd (omega arith)

is_graphics : (word : List ℕ) (code : ℕ) (rest : List ℕ) → length word ≡ 24
    → message_of word ≡ 9 ∷ code ∷ rest
    → IsGraphics word code
is_graphics word code rest size same =
    let has = message_of-has word _ size same in
    record { mode_is = has.head 0 (omega arith); code_is = has.head 1 (omega arith) }

low_bits : (word symbols : List ℕ) (k n : ℕ) → length word ≡ 24 → message_of word ≡ symbols → k < 16
    → get_or symbols (2 + k) 0 ≡ n → n < 16
    → n ≡ content word k % 16
low_bits word symbols k n size same lt e small =
    let has = message_of-has word _ size same in
    let f = has.body k lt in
    omega arith

pub written_means : (instr : Instr) (word : List ℕ) → InRange instr → IsKnown instr → IsWritten instr word
    → Means word instr
written_means Idle word range known w =
    (message_of-has word _ w.codeword.is_word.size w.message).head 0 (omega arith)
written_means Foreign word range known w = absurd (known.0 refl)
written_means Unknown word range known w = absurd (known.1 refl)
written_means (MemoryPreset a b) word range known w =
    let size = w.codeword.is_word.size in (
      is_graphics word _ _ size w.message,
      low_bits word _ 0 a size w.message (omega arith) refl range.0,
      low_bits word _ 1 b size w.message (omega arith) refl range.1,
    )
written_means (BorderPreset a) word range known w =
    let size = w.codeword.is_word.size in
    (is_graphics word _ _ size w.message, low_bits word _ 0 a size w.message (omega arith) refl range)
written_means (SetTile a b c d e) word range known w =
    is_tile word _ _ _ _ _ _ w.codeword.is_word.size range w.message
written_means (XorTile a b c d e) word range known w =
    is_tile word _ _ _ _ _ _ w.codeword.is_word.size range w.message
written_means (ScrollPreset a b c d e) word range known w =
    is_scroll word _ _ _ _ _ _ w.codeword.is_word.size range w.message
written_means (ScrollCopy a b c d e) word range known w =
    is_scroll word _ _ _ _ _ _ w.codeword.is_word.size range w.message
written_means (Transparency levels) word range known w =
    let size = w.codeword.is_word.size in
    (is_graphics word _ _ size w.message, sym (content_is word _ size w.message))
written_means (ColoursLow colours) word range known w =
    let size = w.codeword.is_word.size in
    (is_graphics word _ _ size w.message, table_is word _ colours size range.0 w.message)
written_means (ColoursHigh colours) word range known w =
    let size = w.codeword.is_word.size in
    (is_graphics word _ _ size w.message, table_is word _ colours size range.0 w.message)
