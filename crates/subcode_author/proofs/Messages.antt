-- Each instruction that can be written has a codeword.
use Rattle.std.proofs.Common.{◌≡◌, ℕ, zero, suc, ◌+◌, ◌*◌, ◌<◌, ◌≤◌, List, [], ◌∷◌, length, flat_map, replicate, All, refl, lit<, arith}
use Rattle.std.specs.List.{AllByRecursion}
use Rattle.std.proofs.lemmas.List.Elements.{recursion_from_All}
use Rattle.cdg_instructions.specs.Instruction.{InRange, IsKnown, IsWritten, written_symbols, colour_symbols}
use Rattle.cdg_instructions.specs.declared.instr.Instr.{Instr}
use Rattle.cdg_instructions.specs.declared.instr.Instr.TheVariants.{Idle, Foreign, Unknown, MemoryPreset, BorderPreset, SetTile, XorTile, ScrollPreset, ScrollCopy, Transparency, ColoursLow, ColoursHigh}
use Rattle.cdg_instructions.proofs.Codewords.{AreSymbols, has_codeword}

zeros : (n : ℕ) → AreSymbols (replicate n 0)
zeros zero = tt
zeros (suc n) = (lit< tt, zeros n)

colours_small : (colours : List ℕ) → AllByRecursion (λ c. c < 4096) colours
    → AreSymbols (flat_map colour_symbols colours)
colours_small [] all = tt
colours_small (c ∷ colours) all = (omega (arith, all.0), (omega arith, colours_small colours all.1))

length-colours : (colours : List ℕ) → length (flat_map colour_symbols colours) ≡ 2 * length colours
length-colours [] = refl
length-colours (c ∷ colours) = omega (arith, length-colours colours)

abbrev IsMessage : List ℕ → Type 0
IsMessage symbols = (length symbols ≡ 18) × AreSymbols symbols

tile_message : (code a b row column : ℕ) (lines : List ℕ) → code < 64 → a < 16 → b < 16 → row < 32
    → column < 64 → length lines ≡ 12 → All (λ line. line < 64) lines
    → IsMessage (9 ∷ code ∷ a ∷ b ∷ row ∷ column ∷ lines)
tile_message code a b row column lines code_lt a_lt b_lt row_lt column_lt size all = (
  omega (arith, size),
  (
    lit< tt,
    (
      code_lt,
      (
        omega (arith, a_lt),
        (
          omega (arith, b_lt),
          (omega (arith, row_lt), (column_lt, recursion_from_All (λ line. line < 64) lines all)),
        ),
      ),
    ),
  ),
)

scroll_message : (code colour across h down v : ℕ) → code < 64 → colour < 16 → across ≤ 2 → h ≤ 5 → down ≤ 2
    → v ≤ 11
    → IsMessage (9 ∷ code ∷ colour ∷ (16 * across + h) ∷ (16 * down + v) ∷ replicate 13 0)
scroll_message code colour across h down v code_lt colour_lt a b d e = (
  refl,
  (lit< tt, (code_lt, (omega (arith, colour_lt), (omega (arith, a, b), (omega (arith, d, e), zeros 13))))),
)

table_message : (code : ℕ) (colours : List ℕ) → code < 64 → length colours ≡ 8 → All (λ c. c < 4096) colours
    → IsMessage (9 ∷ code ∷ flat_map colour_symbols colours)
table_message code colours code_lt size all = (
  omega (arith, size, length-colours colours),
  (lit< tt, (code_lt, colours_small colours (recursion_from_All (λ c. c < 4096) colours all))),
)

message : (instr : Instr) → InRange instr → IsKnown instr → IsMessage (written_symbols instr)
message Idle range known = (refl, zeros 18)
message Foreign range known = absurd (known.0 refl)
message Unknown range known = absurd (known.1 refl)
message (MemoryPreset colour repeat) range known =
    (refl, (lit< tt, (lit< tt, (omega (arith, range.0), (omega (arith, range.1), zeros 14)))))
message (BorderPreset colour) range known = (refl, (lit< tt, (lit< tt, (omega (arith, range), zeros 15))))
message (SetTile a b row column lines) r known =
    tile_message 6 a b row column lines (lit< tt) r.colour0_below r.colour1_below r.row_below r.column_below
    r.lines_count r.lines_below
message (XorTile a b row column lines) r known =
    tile_message 38 a b row column lines (lit< tt) r.colour0_below r.colour1_below r.row_below r.column_below
    r.lines_count r.lines_below
message (ScrollPreset colour across h down v) r known =
    scroll_message 20 colour across h down v (lit< tt) r.colour_below r.across_most r.h_most r.down_most
    r.v_most
message (ScrollCopy colour across h down v) r known =
    scroll_message 24 colour across h down v (lit< tt) r.colour_below r.across_most r.h_most r.down_most
    r.v_most
message (Transparency levels) range known =
    (omega (arith, range.0), (lit< tt, (lit< tt, recursion_from_All (λ level. level < 64) levels range.1)))
message (ColoursLow colours) range known = table_message 30 colours (lit< tt) range.0 range.1
message (ColoursHigh colours) range known = table_message 31 colours (lit< tt) range.0 range.1

pub has_word : (instr : Instr) → InRange instr → IsKnown instr → (word : List ℕ) × IsWritten instr word
has_word instr range known =
    let m = message instr range known in
    let (word, codeword, same) = has_codeword (written_symbols instr) m.0 m.1 in
    (word, record { codeword = codeword; message = same })
