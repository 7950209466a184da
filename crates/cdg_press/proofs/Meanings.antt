-- The instruction of 24 bytes.
use Rattle.std.proofs.Common.{◌≡◌, ℕ, ◌+◌, ◌*◌, ◌<◌, ◌%◌, List, [], ◌∷◌, length, get_or, drop, map, refl, sym, ap, ap₂, ◌∙◌, subst, arith, All, Contains}
use Rattle.std.proofs.lemmas.List.{length-map, get_or-map, length-take-le, length-drop}
use Rattle.std.proofs.lemmas.List.Elements.{All-take, All-drop}
use Rattle.bit_lists.specs.Counting.{below}
use Rattle.rw_code.proofs.CodewordLemmas.{idle_is_codeword}
use Rattle.cdg_instructions.specs.Instruction.{Means, IsGraphics, IsTile, IsScroll, known_codes, content, content_of, message_of, table_colour, move, offset_across, offset_down}
use Rattle.cdg_instructions.specs.MadeGood.{IsMadeGood}
use Rattle.cdg_instructions.specs.Meaning.{meaning, meaning_by}
use Rattle.cdg_instructions.proofs.Meaning.{meaning_means, only_meaning}
use Rattle.cdg_instructions.proofs.Symbols.{message_of-has, head_of_message, body_of_message, content_of-message}
use Rattle.cdg_instructions.specs.declared.instr.Instr.{Instr}
use Rattle.cdg_instructions.specs.declared.instr.Instr.TheVariants.{Idle, Foreign, Unknown, MemoryPreset, BorderPreset, SetTile, XorTile, ScrollPreset, ScrollCopy, Transparency, ColoursLow, ColoursHigh}
use Rattle.rw_code.specs.Packs.{idle_pack}
use Rattle.raw_subcode.specs.Channels.{symbols_of}
use Rattle.cdg_press.specs.Thin.{IsInstructionOf}
use Rattle.cdg_press.specs.Steps.{pack_instruction}
use Rattle.cdg_press.proofs.Sealing.{sealed_word}

-- two words that differ only in their parity
record Alike (w v : List ℕ) : Type 0 where
  mode : get_or w 0 0 ≡ get_or v 0 0
  code : get_or w 1 0 ≡ get_or v 1 0
  symbol : (i : ℕ) → i < 16 → content w i ≡ content v i
  body : content_of w ≡ content_of v

alike : (w v : List ℕ) → length w ≡ 24 → length v ≡ 24 → message_of w ≡ message_of v → Alike w v
alike w v w_size v_size same =
    let has = message_of-has w (message_of v) w_size same in
    record {
      mode = has.head 0 (omega arith) ∙ head_of_message v 0 v_size (omega arith);
      code = has.head 1 (omega arith) ∙ head_of_message v 1 v_size (omega arith);
      symbol = λ i lt. has.body i lt ∙ body_of_message v i v_size lt;
      body = content_of-message w w_size ∙ ap (drop 2) same ∙ sym (content_of-message v v_size);
    }

colours_same : (w v : List ℕ) → Alike w v → map (table_colour w) (below 8) ≡ map (table_colour v) (below 8)
colours_same w v s =
    let colour : (k : ℕ) → k < 8 → table_colour w k ≡ table_colour v k =
    λ k lt. ap₂ (λ a b. 64 * a + b) (s.symbol (2 * k) (omega arith)) (s.symbol (2 * k + 1) (omega arith)) in
    ap₂ (λ x (xs : List ℕ). x ∷ xs) (colour 0 (omega arith)) (ap₂ (λ x (xs : List ℕ). x ∷ xs)
    (colour 1 (omega arith)) (ap₂ (λ x (xs : List ℕ). x ∷ xs) (colour 2 (omega arith))
    (ap₂ (λ x (xs : List ℕ). x ∷ xs) (colour 3 (omega arith))
    (ap₂ (λ x (xs : List ℕ). x ∷ xs) (colour 4 (omega arith)) (ap₂ (λ x (xs : List ℕ). x ∷ xs)
    (colour 5 (omega arith)) (ap₂ (λ x (xs : List ℕ). x ∷ xs) (colour 6 (omega arith))
    (ap₂ (λ x (xs : List ℕ). x ∷ xs) (colour 7 (omega arith)) refl)))))))

graphics_same : (w v : List ℕ) (n : ℕ) → Alike w v → IsGraphics w n → IsGraphics v n
graphics_same w v n s h = record { mode_is = sym s.mode ∙ h.mode_is; code_is = sym s.code ∙ h.code_is }

tile_same : (w v : List ℕ) (c0 c1 row column : ℕ) (lines : List ℕ) → Alike w v
    → IsTile w c0 c1 row column lines
    → IsTile v c0 c1 row column lines
tile_same w v c0 c1 row column lines s h = record {
  colour0_is = h.colour0_is ∙ ap (λ n. n % 16) (s.symbol 0 (omega arith));
  colour1_is = h.colour1_is ∙ ap (λ n. n % 16) (s.symbol 1 (omega arith));
  row_is = h.row_is ∙ ap (λ n. n % 32) (s.symbol 2 (omega arith));
  column_is = h.column_is ∙ s.symbol 3 (omega arith);
  lines_are = h.lines_are ∙ ap (drop 4) s.body;
}

scroll_same : (w v : List ℕ) (colour across h down v' : ℕ) → Alike w v → IsScroll w colour across h down v'
    → IsScroll v colour across h down v'
scroll_same w v colour across h down v' s k = record {
  colour_is = k.colour_is ∙ ap (λ n. n % 16) (s.symbol 0 (omega arith));
  across_is = k.across_is ∙ ap move (s.symbol 1 (omega arith));
  h_is = k.h_is ∙ ap offset_across (s.symbol 1 (omega arith));
  down_is = k.down_is ∙ ap move (s.symbol 2 (omega arith));
  v_is = k.v_is ∙ ap offset_down (s.symbol 2 (omega arith));
}

means_same : (w v : List ℕ) (instr : Instr) → Alike w v → Means w instr → Means v instr
means_same w v Idle s h = sym s.mode ∙ h
means_same w v Foreign s h = (λ e. h.0 (s.mode ∙ e), λ e. h.1 (s.mode ∙ e))
means_same w v Unknown s h = (sym s.mode ∙ h.0, subst (λ n. ¬ Contains known_codes n) s.code h.1)
means_same w v (MemoryPreset a b) s h = (
  graphics_same w v 1 s h.0,
  h.1 ∙ ap (λ n. n % 16) (s.symbol 0 (omega arith)),
  h.2 ∙ ap (λ n. n % 16) (s.symbol 1 (omega arith)),
)
means_same w v (BorderPreset a) s h =
    (graphics_same w v 2 s h.0, h.1 ∙ ap (λ n. n % 16) (s.symbol 0 (omega arith)))
means_same w v (SetTile a b c d e) s h = (graphics_same w v 6 s h.0, tile_same w v a b c d e s h.1)
means_same w v (XorTile a b c d e) s h = (graphics_same w v 38 s h.0, tile_same w v a b c d e s h.1)
means_same w v (ScrollPreset a b c d e) s h = (graphics_same w v 20 s h.0, scroll_same w v a b c d e s h.1)
means_same w v (ScrollCopy a b c d e) s h = (graphics_same w v 24 s h.0, scroll_same w v a b c d e s h.1)
means_same w v (Transparency a) s h = (graphics_same w v 28 s h.0, h.1 ∙ s.body)
means_same w v (ColoursLow a) s h = (graphics_same w v 30 s h.0, h.1 ∙ colours_same w v s)
means_same w v (ColoursHigh a) s h = (graphics_same w v 31 s h.0, h.1 ∙ colours_same w v s)

length-symbols_of : (pack : List ℕ) → length (symbols_of pack) ≡ length pack
length-symbols_of pack = length-map pack (λ byte. byte % 64)

-- a pack with corrected parity means what its symbols mean
pub made_good_means : (pack word : List ℕ) (instr : Instr) → IsMadeGood (symbols_of pack) word
    → Means word instr
    → instr ≡ pack_instruction pack
unfolding pack_instruction
made_good_means pack word instr made means =
    only_meaning (symbols_of pack) instr (means_same word (symbols_of pack) instr
    (alike word (symbols_of pack) made.codeword.is_word.size made.size made.message) means)

-- 24 bytes have one instruction
pub only_instruction : (pack : List ℕ) (instr : Instr) → IsInstructionOf pack instr
    → instr ≡ pack_instruction pack
only_instruction pack instr h = made_good_means pack h.0 instr h.1 h.2

pub instruction_size : (pack : List ℕ) (instr : Instr) → IsInstructionOf pack instr → length pack ≡ 24
instruction_size pack instr h = sym (length-symbols_of pack) ∙ h.1.size

-- each symbol is below 64
low_at : (pack : List ℕ) (k d : ℕ) → k < length pack → get_or (symbols_of pack) k d < 64
low_at pack k d lt = rw (get_or-map (λ byte. byte % 64) pack k 0 d lt) (omega arith)

low_small : (pack : List ℕ) → All (λ n. n < 64) (symbols_of pack)
low_small pack = λ k d lt. low_at pack k d (omega (arith, length-symbols_of pack))

split_message : (word : List ℕ) → length word ≡ 24
    → message_of word ≡ get_or word 0 0 ∷ get_or word 1 0 ∷ content_of word
split_message [] size = absurd (omega arith)
split_message (a ∷ []) size = absurd (omega arith)
split_message (a ∷ b ∷ rest) size = refl

-- every pack of 24 bytes has an instruction
pub has_instruction : (pack : List ℕ) → length pack ≡ 24 → IsInstructionOf pack (pack_instruction pack)
unfolding pack_instruction
has_instruction pack size =
    let symbols : List ℕ = symbols_of pack in
    let count : length symbols ≡ 24 = length-symbols_of pack ∙ size in
    let small = low_small pack in
    let body_small : All (λ n. n < 64) (content_of symbols) =
    All-take (λ n. n < 64) 16 (drop 4 symbols) (All-drop (λ n. n < 64) 4 symbols small) in
    let body_count : length (content_of symbols) ≡ 16 =
    length-take-le 16 (drop 4 symbols) (omega (arith, length-drop 4 symbols)) in
    let (word, is_codeword, message) =
    sealed_word (get_or symbols 0 0) (get_or symbols 1 0) (content_of symbols) (low_at pack 0 0 (omega arith))
    (low_at pack 1 0 (omega arith)) body_count body_small in
    let same : message_of word ≡ message_of symbols = message ∙ sym (split_message symbols count) in (
      word,
      record { size = count; codeword = is_codeword; message = same },
      means_same symbols word (meaning symbols) (alike symbols word count is_codeword.is_word.size (sym same))
          (meaning_means symbols),
    )

-- an idle pack has the instruction `Idle`
pub idle_instruction : IsInstructionOf idle_pack Idle
idle_instruction = (idle_pack, record { size = refl; codeword = idle_is_codeword; message = refl }, refl)

-- and so has a pack whose mode is 0
pub idle_by_mode : (pack : List ℕ) → get_or (symbols_of pack) 0 0 ≡ 0 → pack_instruction pack ≡ Idle
unfolding pack_instruction meaning
idle_by_mode pack mode = ap (λ m. meaning_by (symbols_of pack) m (get_or (symbols_of pack) 1 0)) mode
